-- A party's side for padded messages (document 02, a): nobody says how long the message is, the share's own length tells the number N of blocks.
-- Assumes nothing.
use Rattle.std.specs.Prelude.{cond, not, List, [], ◌∷◌, ℕ, ◌*◌, eqb, length, take}
use Rattle.lists.specs.Each.{occurs}
use Rattle.scheme.specs.Outcome.{Outcome, number_if, first_of, answer}
use Rattle.scheme.specs.Check.{refusal}
use Rattle.scheme.specs.Padding.{most_padded, blocks_held}
use Rattle.staircase.specs.Parameters.{Parameters, block, rows, prefix_rows}

-- N of a share of so many bytes; 0 where no message of an accepted length makes it
unfoldable pub blocks_kept : Parameters → ℕ → ℕ
blocks_kept p share = blocks_held (most_padded (block p)) (rows p) share

-- the first refusal that applies to a count and a share of so many bytes
unfoldable pub prefix_padded_refusal : Parameters → ℕ → ℕ → ℕ
prefix_padded_refusal p d share =
    first_of
    (refusal p.n p.r p.z p.counts
    ∷ number_if 6 (not (occurs d p.counts))
    ∷ number_if 9 (eqb (blocks_kept p share) 0)
    ∷ [])

-- the bytes of the prefix, P × N
unfoldable pub prefix_padded_length : Parameters → ℕ → ℕ → ℕ
prefix_padded_length p d share = prefix_rows p d * blocks_kept p share

unfoldable pub prefix_padded_answer : Parameters → ℕ → ℕ → Outcome
prefix_padded_answer p d share = answer (prefix_padded_refusal p d share) (prefix_padded_length p d share ∷ [])

-- the prefix itself: the beginning of the share, empty on a refusal
unfoldable pub prefix_padded_of : Parameters → ℕ → List ℕ → List ℕ
prefix_padded_of p d share = cond (eqb (prefix_padded_refusal p d (length share)) 0) (take (prefix_padded_length p d (length share)) share) []
