-- A party's side: the prefix of its share (document 01's front) for a count d.
-- Assumes nothing.
use Rattle.std.specs.Prelude.{cond, not, List, [], ◌∷◌, ℕ, ◌*◌, ltb, eqb, length, take}
use Rattle.lists.specs.Each.{occurs}
use Rattle.scheme.specs.Limits.{max_message}
use Rattle.scheme.specs.Outcome.{Outcome, number_if, first_of, answer}
use Rattle.scheme.specs.Check.{refusal}
use Rattle.staircase.specs.Parameters.{Parameters, prefix_rows, blocks_of, share_bytes}

-- the first refusal that applies to a message's length, a count and a share of so many bytes
unfoldable pub prefix_refusal : Parameters → ℕ → ℕ → ℕ → ℕ
prefix_refusal p message d share =
    let N : ℕ = blocks_of p message in
    first_of
    (refusal p.n p.r p.z p.counts
    ∷ number_if 5 (ltb max_message message)
    ∷ number_if 6 (not (occurs d p.counts))
    ∷ number_if 9 (not (eqb share (share_bytes p N)))
    ∷ [])

-- the bytes of the prefix, P × N
unfoldable pub prefix_length : Parameters → ℕ → ℕ → ℕ
prefix_length p message d = prefix_rows p d * blocks_of p message

unfoldable pub prefix_answer : Parameters → ℕ → ℕ → ℕ → Outcome
prefix_answer p message d share = answer (prefix_refusal p message d share) (prefix_length p message d ∷ [])

-- the prefix itself: the beginning of the share, empty on a refusal
unfoldable pub prefix_of : Parameters → ℕ → ℕ → List ℕ → List ℕ
prefix_of p message d share = cond (eqb (prefix_refusal p message d (length share)) 0) (take (prefix_length p message d) share) []
