use Rattle.std.proofs.Common.{◌≡◌, ℕ, ◌+◌, ◌∷◌, ◌<◌, get_or}
use Rattle.scheme.proofs.counts_refused.Given as goal

-- each count so far is below the one before, the first below n + 1
abbrev pub invariant-loop-count : goal.invariant-loop-count
invariant-loop-count l = record {
  last : l.above ≡ get_or ((l.n + 1) ∷ l.counts) l.count-index 0;
  falling : (k : ℕ) → k < l.count-index → get_or l.counts k 0 < get_or ((l.n + 1) ∷ l.counts) k 0;
}
