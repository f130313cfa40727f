-- The opener, whole or for a range, as the code has it: one function that goes through the refusals of a range, told which rows to take. The whole
-- message is a range to which 15 does not apply.
-- Assumes nothing.
use Rattle.std.specs.Prelude.{◌≡◌, Bool, true, false, List, [], ◌∷◌, ℕ, ◌*◌, ◌≤◌, ◌<◌, length, get_or, Result}
use Rattle.scheme.specs.declared.refusal.Refusal.{Refusal}
use Rattle.scheme.specs.Outcome.{Outcome, answer, outcome}
use Rattle.staircase.specs.Parameters.{Parameters, prefix_rows, blocks_of}
use Rattle.order.specs.RowsTaken.{Wanted}
use Rattle.reader.specs.declared.taking.Take.{Take}
use Rattle.reader.specs.declared.taking.Take.TheVariants.{All, Needed}
use Rattle.reader.specs.Range.{taken_rows, range_refusal, range_output}

-- one of the places of degrees z to d − 1 is wanted, or none is
abbrev pub HoldsWanted : ℕ → ℕ → ℕ → ℕ → ℕ → List ℕ → Bool → Type 0
HoldsWanted m start long z d places true = (e : ℕ) × (z ≤ e) × (e < d) × Wanted m start long (get_or places e 0)
HoldsWanted m start long z d places false = (e : ℕ) → z ≤ e → e < d → Wanted m start long (get_or places e 0) → ⊥

-- the number of rows to take, of P
abbrev pub rows_by : Take → ℕ → ℕ → ℕ
rows_by All P needed = P
rows_by Needed P needed = needed

-- accepted: the prefix bytes used
unfoldable pub opened_answer : Take → Parameters → ℕ → ℕ → ℕ → List ℕ → ℕ → ℕ → Outcome
opened_answer rows p message start long parties prefixes out =
    let d : ℕ = length parties in
    answer (range_refusal p message start long parties prefixes out)
    (d * rows_by rows (prefix_rows p d) (taken_rows p d start long) * blocks_of p message ∷ [])

abbrev pub OpenedCall : Take → Parameters → ℕ → ℕ → ℕ → List ℕ → List ℕ → List ℕ → Result ℕ Refusal → List ℕ → Type 0
OpenedCall rows p message start long parties prefixes before a after =
    (outcome a ≡ opened_answer rows p message start long parties (length prefixes) (length before))
    × (after ≡ range_output p message start long parties prefixes before)
