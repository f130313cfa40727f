-- The order in which a reader takes the rows that d parties send (document 02, e): the group of d first, then the group numbered one less, down to
-- the first, and in each group the rows rising.
-- Assumes nothing.
use Rattle.std.specs.Prelude.{◌≡◌, cond, List, [], ◌∷◌, ◌++◌, ◌⊎◌, ℕ, zero, suc, ◌+◌, ◌-◌, ◌<◌, eqb, length, get_or}
use Rattle.lists.specs.Table.{tabulate}
use Rattle.scheme.specs.Check.{rows_of_count}
use Rattle.staircase.specs.Coefficients.{group_of}

-- the number of the group of d, counted from 1: the place of d in the list of counts
unfoldable pub group_number : ℕ → List ℕ → ℕ
group_number d [] = 0
group_number d (c ∷ cs) =
    let later : ℕ = suc (group_number d cs) in
    cond (eqb d c) 1 later

-- the rows of the first g groups: P of the last of their counts
unfoldable pub rows_before : ℕ → ℕ → List ℕ → ℕ → ℕ
rows_before m z ds zero = 0
rows_before m z ds (suc g) = rows_of_count m z (get_or ds g 0)

-- the rows of the group after the first g, rising
unfoldable pub group_rows : ℕ → ℕ → List ℕ → ℕ → List ℕ
group_rows m z ds g = tabulate (rows_before m z ds (suc g) - rows_before m z ds g) (λ k. rows_before m z ds g + k)

-- the rows of the first g groups, the last of these groups first
unfoldable pub groups_down : ℕ → ℕ → List ℕ → ℕ → List ℕ
groups_down m z ds zero = []
groups_down m z ds (suc g) = group_rows m z ds g ++ groups_down m z ds g

-- the rows that d parties send, in the reader's order
unfoldable pub reading_order : ℕ → ℕ → List ℕ → ℕ → List ℕ
reading_order m z ds d = groups_down m z ds (group_number d ds)

-- the row whose turn is u, counted from 0
abbrev pub row_in_turn : ℕ → ℕ → List ℕ → ℕ → ℕ → ℕ
row_in_turn m z ds d u = get_or (reading_order m z ds d) u 0

-- ---- the same in words: what the turns are of a count d of an accepted scheme, for which P rows are sent

pub record Turns (m z : ℕ) (ds : List ℕ) (d : ℕ) : Type 0 where
  -- there are P turns, each that of one of the P rows, and each of these rows has one
  pub long : length (reading_order m z ds d) ≡ rows_of_count m z d
  pub row : (u : ℕ) → u < rows_of_count m z d → row_in_turn m z ds d u < rows_of_count m z d
  pub turn : (j : ℕ) → j < rows_of_count m z d → (u : ℕ) × (u < rows_of_count m z d) × (row_in_turn m z ds d u ≡ j)
  -- of two turns the later one is that of a row of an earlier group, or of a later row of the same group
  pub order : (u v : ℕ) → u < v → v < rows_of_count m z d
      → let j : ℕ = row_in_turn m z ds d u in
      let k : ℕ = row_in_turn m z ds d v in
      (group_of m z ds k < group_of m z ds j) ⊎ ((group_of m z ds k ≡ group_of m z ds j) × (j < k))
