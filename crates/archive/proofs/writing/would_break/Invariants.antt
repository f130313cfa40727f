-- What is left decides as all of it did, and with what was passed it adds up to the whole.
use Rattle.archive.proofs.Lengths.{LeftFrom}
use Rattle.archive.proofs.writing.would_break.Given as goal

abbrev pub invariant-loop-size : goal.invariant-loop-size
invariant-loop-size l = LeftFrom l.lengths l.offset l.size-index
