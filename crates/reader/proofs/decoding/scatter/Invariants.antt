use Rattle.std.proofs.Common.{◌≡◌, ◌+◌, ◌*◌}
use Rattle.reader.specs.Decoding.{Scattered}
use Rattle.reader.proofs.decoding.scatter.Given as goal

-- the first k bytes are written
abbrev pub invariant-loop-k : goal.invariant-loop-k
invariant-loop-k l = (l.place ≡ l.at + l.k * l.step) × Scattered l.column l.at l.step l.many l.k l.initial.work l.work
