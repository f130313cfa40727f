use Rattle.std.proofs.Common.{◌≡◌, ◌<◌, ℕ, [], get_or}
use Rattle.reader.proofs.combining.choose.Given as goal

-- the first i weights are there
abbrev pub invariant-loop-i : goal.invariant-loop-i
invariant-loop-i l =
    ((k : ℕ) → k < l.i → get_or l.chosen k 0 ≡ get_or (get_or l.weights k []) l.e 0) × ((k : ℕ) → k < l.i → get_or l.chosen k 0 < 256)
