-- The text has the lines of the counts so far after it.
use Rattle.std.proofs.Common.{take}
use Rattle.sheet.specs.Sheet.{count_lines}
use Rattle.sheet.specs.Writing.{Adds}
use Rattle.sheet.proofs.with_counts.Given as goal

abbrev pub invariant-loop-d : goal.invariant-loop-d
invariant-loop-d l = Adds l.initial.text l.text (count_lines l.scheme.block l.scheme.z (take l.d-index l.scheme.counts.now))
