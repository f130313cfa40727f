-- The check of a scheme (document 01's plan): n, r, z and the list of counts.
-- Assumes nothing.
use Rattle.std.specs.Prelude.{Bool, true, ◌&&◌, ◌||◌, not, List, [], ◌∷◌, ℕ, ◌+◌, ◌-◌, ◌/◌, ltb, leb, eqb, length, get_or}
use Rattle.scheme.specs.Limits.{max_parties, max_counts, max_block}
use Rattle.scheme.specs.Outcome.{Outcome, number_if, first_of, answer}
use Rattle.scheme.specs.BlockLength.{block_length}

-- does the list fall strictly?
unfoldable pub falls : List ℕ → Bool
falls [] = true
falls (d ∷ []) = true
falls (d ∷ e ∷ ds) = ltb e d && falls (e ∷ ds)

abbrev pub first : List ℕ → ℕ
first ds = get_or ds 0 0

abbrev pub last : List ℕ → ℕ
last ds = get_or ds (length ds - 1) 0

-- the conditions of refusals 1 to 4, as the table has them
unfoldable pub parties_refused : ℕ → Bool
parties_refused n = ltb n 2 || ltb max_parties n

unfoldable pub thresholds_refused : ℕ → ℕ → ℕ → Bool
thresholds_refused n r z = eqb z 0 || leb n (r + z)

unfoldable pub counts_refused : ℕ → ℕ → List ℕ → Bool
counts_refused n r ds =
    eqb (length ds) 0 || ltb max_counts (length ds) || not (falls ds) || ltb n (first ds) || not (eqb (last ds) (n - r))

unfoldable pub block_refused : ℕ → List ℕ → Bool
block_refused z ds = ltb max_block (block_length z ds)

-- the first refusal that applies, or 0
unfoldable pub refusal : ℕ → ℕ → ℕ → List ℕ → ℕ
refusal n r z ds =
    first_of
    (number_if 1 (parties_refused n)
    ∷ number_if 2 (thresholds_refused n r z)
    ∷ number_if 3 (counts_refused n r ds)
    ∷ number_if 4 (block_refused z ds)
    ∷ [])

-- P of a count d, in a scheme with block length m: the rows of a block that d parties send
unfoldable pub rows_of_count : ℕ → ℕ → ℕ → ℕ
rows_of_count m z d = m / (d - z)

-- b, the rows of a block: m ÷ k, with k = n − r − z
unfoldable pub rows_of_block : ℕ → ℕ → ℕ → ℕ → ℕ
rows_of_block n r z m = m / (n - r - z)

-- N of a message of so many bytes: the blocks it makes, with the last one padded
unfoldable pub block_count : ℕ → ℕ → ℕ
block_count m bytes = (bytes + (m - 1)) / m

-- what the check answers
unfoldable pub checked : ℕ → ℕ → ℕ → List ℕ → Outcome
checked n r z ds = answer (refusal n r z ds) (n ∷ r ∷ z ∷ block_length z ds ∷ rows_of_block n r z (block_length z ds) ∷ [])
