-- The order and the rows taken for some ranges, computed from the definitions: in the default scheme, in the former default, which has blocks of 12
-- bytes, in Figure 2b's scheme, and with two keys a row and a gap between the counts.
-- Assumes nothing.
use mathlib.Core.Path.{◌≡◌, refl}
use mathlib.Core.List.{List, [], ◌∷◌}
use Prim.Native.Nat.{ℕ}
use Rattle.lists.specs.Each.{occurs, all_in}
use Rattle.lists.specs.FirstFrom.{first_from}
use Rattle.lists.specs.Table.{tabulate, joined}
use Rattle.scheme.specs.Check.{rows_of_count}
use Rattle.staircase.specs.Coefficients.{group_of, count_of, origin, origin_in}
use Rattle.order.specs.ReadingOrder.{group_number, rows_before, group_rows, groups_down, reading_order}
use Rattle.order.specs.RowsTaken.{wanted_places, places_of, places_by, rows_taken}

abbrev neighbours : List ℕ
neighbours = 5 ∷ 4 ∷ 3 ∷ []

abbrev figure2b : List ℕ
figure2b = 7 ∷ 4 ∷ 3 ∷ []

abbrev apart : List ℕ
apart = 6 ∷ 4 ∷ []

-- the order of the smallest count in each scheme, and of a larger one
pub order_examples : (reading_order 12 1 neighbours 3 ≡ 4 ∷ 5 ∷ 3 ∷ 0 ∷ 1 ∷ 2 ∷ []) × (reading_order 6 2 neighbours 3 ≡ 3 ∷ 4 ∷ 5 ∷ 2 ∷ 0 ∷ 1 ∷ [])
    × (reading_order 6 1 figure2b 3 ≡ 2 ∷ 1 ∷ 0 ∷ []) × (reading_order 4 2 apart 4 ≡ 1 ∷ 0 ∷ []) × (reading_order 12 1 neighbours 4 ≡ 3 ∷ 0 ∷ 1 ∷ 2 ∷ [])
unfolding tabulate rows_of_count group_number rows_before group_rows groups_down reading_order
order_examples = (refl, refl, refl, refl, refl)

-- for 5, 4 and 3 parties the first byte of a block; a byte whose copy is taken first; bytes at both ends of two blocks; no byte; all of them
pub range_examples : (rows_taken 12 1 neighbours 5 0 1 ≡ 1) × (rows_taken 12 1 neighbours 4 0 1 ≡ 2) × (rows_taken 12 1 neighbours 3 0 1 ≡ 4)
    × (rows_taken 12 1 neighbours 4 3 1 ≡ 1) × (rows_taken 12 1 neighbours 5 23 2 ≡ 3) × (rows_taken 12 1 neighbours 4 7 0 ≡ 0) × (rows_taken 12 1 neighbours 3 5 20 ≡ 6)
    × (rows_taken 6 2 neighbours 5 0 1 ≡ 1) × (rows_taken 6 2 neighbours 4 0 1 ≡ 2) × (rows_taken 6 2 neighbours 3 0 1 ≡ 5)
    -- rows of 1 2 3 4 5 6, then copies 4 5 6, then 3 6, bytes counted from 1; rows of 1 2 3 4, then copies 3 4
    × (rows_taken 6 1 figure2b 4 3 3 ≡ 1) × (rows_taken 6 1 figure2b 3 3 1 ≡ 2) × (rows_taken 6 1 figure2b 3 1 1 ≡ 3)
    × (rows_taken 4 2 apart 4 6 2 ≡ 1) × (rows_taken 4 2 apart 4 7 2 ≡ 2)
unfolding wanted_places places_of places_by all_in first_from rows_taken group_number rows_before group_rows groups_down reading_order group_of count_of origin origin_in rows_of_count tabulate joined occurs
range_examples = (refl, refl, refl, refl, refl, refl, refl, refl, refl, refl, refl, refl, refl, refl, refl)
