use Rattle.std.proofs.Common.{◌≡◌, ℕ, ◌+◌, ◌*◌, ◌<◌, ◌≤◌, List, get_or}
use Rattle.reader.specs.Decoding.{combined, Solved}
use Rattle.reader.proofs.decoding.solve_batch.Given as goal

-- the degrees from z to e - 1 are solved, for every B that has these sums
abbrev pub invariant-loop-e : goal.invariant-loop-e
invariant-loop-e l =
    (B : List ℕ)
    → ((f k : ℕ) → l.z ≤ f → f < l.d → k < l.many → get_or (combined l.columns l.weights f l.top) k 0 ≡ get_or B (l.t * l.m + get_or l.places f 0 + k * l.m) 0)
    → Solved l.t (l.t + l.many) l.m l.z l.e l.places B l.initial.work l.work
