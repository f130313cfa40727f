use Rattle.std.proofs.Common.{◌≡◌, ◌*◌}
use Rattle.reader.specs.Prefixes.{Finds}
use Rattle.reader.proofs.decoding.decode.Given as goal

-- the rows of the turns passed are found, and their bytes counted
abbrev pub invariant-loop-turn : goal.invariant-loop-turn
invariant-loop-turn l =
    (l.used ≡ l.prefixes.d * (l.turn * l.prefixes.blocks)) × Finds l.prefixes l.weights l.turn l.work
