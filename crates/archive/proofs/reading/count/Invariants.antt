-- The pairs before i keep the rules, and `start` is where the next entry has to start.
use Rattle.archive.proofs.Scanning.{Scanned}
use Rattle.archive.proofs.reading.count.Given as goal

abbrev pub invariant-loop-i : goal.invariant-loop-i
invariant-loop-i l = Scanned l.file l.start l.i
