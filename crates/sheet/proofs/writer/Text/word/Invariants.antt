-- The text has the bytes so far after it.
use Rattle.std.proofs.Common.{take}
use Rattle.sheet.specs.Writing.{Adds}
use Rattle.sheet.proofs.writer.Text.word.Given as goal

abbrev pub invariant-loop-byte : goal.invariant-loop-byte
invariant-loop-byte l = Adds l.initial.self l.self (take l.byte-index l.word)
