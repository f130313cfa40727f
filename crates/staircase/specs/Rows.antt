-- The rows of a block, as document 01, 'Rows of a block', lists them, group by group. A row is the list of its coefficients, degree 0 first.
-- Assumes nothing.
use Rattle.std.specs.Prelude.{List, [], ◌∷◌, ◌++◌, map, ℕ, ◌-◌, ◌*◌, length, take, drop}
use Rattle.lists.specs.Table.{pieces, flat}
use Rattle.scheme.specs.Check.{rows_of_count}

-- where the keys stand in a row: at degrees 0 to z − 1, and the other coefficients from z up
unfoldable pub row_of : List ℕ → List ℕ → List ℕ
row_of keys rest = keys ++ rest

-- rows of which the other coefficients are given: each takes the next z key bytes
unfoldable pub keyed : ℕ → List ℕ → List (List ℕ) → List (List ℕ)
keyed z keys [] = []
keyed z keys (rest ∷ rests) = row_of (take z keys) rest ∷ keyed z (drop z keys) rests

-- the coefficients of degrees d to above − 1, rising, of row 0, then of row 1, and so on
unfoldable pub copied : ℕ → ℕ → List (List ℕ) → List ℕ
copied d above rows = flat (map (λ row. take (above - d) (drop d row)) rows)

-- the rows up to the group of the count `above`, and the groups of the counts after it: each group is filled from all rows before it
unfoldable pub with_groups : ℕ → ℕ → List ℕ → ℕ → List (List ℕ) → List ℕ → List (List ℕ)
with_groups m z keys above before [] = before
with_groups m z keys above before (d ∷ ds) =
    with_groups m z keys d
    (before ++ keyed z (drop (length before * z) keys) (pieces (rows_of_count m z d - length before) (d - z) (copied d above before)))
    ds

-- the rows of a block, from its m bytes and its keys: group 1 holds the block's bytes in order
unfoldable pub rows_of : ℕ → ℕ → List ℕ → List ℕ → List ℕ → List (List ℕ)
rows_of m z [] block keys = []
rows_of m z (d ∷ ds) block keys = with_groups m z keys d (keyed z keys (pieces (rows_of_count m z d) (d - z) block)) ds
