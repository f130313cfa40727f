-- The rows that a reader takes for a range of the message (document 02, e): those up to the earliest row by which each wanted byte, or a copy of it,
-- stands in a row taken.
-- Assumes nothing.
use Rattle.std.specs.Prelude.{◌≡◌, List, ℕ, ◌+◌, ◌-◌, ◌%◌, ◌≤◌, ◌<◌}
use Rattle.lists.specs.Each.{all_in}
use Rattle.lists.specs.FirstFrom.{first_from}
use Rattle.lists.specs.Table.{tabulate, joined}
use Rattle.scheme.specs.Check.{rows_of_count}
use Rattle.staircase.specs.Coefficients.{count_of, origin}
use Rattle.order.specs.ReadingOrder.{row_in_turn}

-- the places in their blocks, of m bytes, of the message bytes from `start` on, `long` of them
unfoldable pub wanted_places : ℕ → ℕ → ℕ → List ℕ
wanted_places m start long = tabulate long (λ k. (start + k) % m)

-- the places in the block of the message bytes that stand in row j, as themselves or as copies: the origins of its coefficients from degree z up
unfoldable pub places_of : ℕ → ℕ → List ℕ → ℕ → List ℕ
places_of m z ds j = tabulate (count_of m z ds j - z) (λ k. origin m z ds j (z + k))

-- those that stand in the first t rows of the reader's order
unfoldable pub places_by : ℕ → ℕ → List ℕ → ℕ → ℕ → List ℕ
places_by m z ds d t = joined t (λ u. places_of m z ds (row_in_turn m z ds d u))

-- the number of rows taken: the first of 0, 1, .., P such that all wanted places stand in as many rows
unfoldable pub rows_taken : ℕ → ℕ → List ℕ → ℕ → ℕ → ℕ → ℕ
rows_taken m z ds d start long = first_from (λ t. all_in (wanted_places m start long) (places_by m z ds d t)) (rows_of_count m z d) 0

-- ---- the same in words

-- place p of a block is wanted: it is that of a byte of the range
pub record Wanted (m start long p : ℕ) : Type 0 where
  pub offset : ℕ
  pub inside : offset < long
  pub is : (start + offset) % m ≡ p

-- the byte at place p of a block, or a copy of it, stands in one of the first t rows of the order
pub record StandsBy (m z : ℕ) (ds : List ℕ) (d t p : ℕ) : Type 0 where
  pub turn : ℕ
  pub degree : ℕ
  pub early : turn < t
  pub low : z ≤ degree
  pub high : degree < count_of m z ds (row_in_turn m z ds d turn)
  pub is : origin m z ds (row_in_turn m z ds d turn) degree ≡ p

-- every wanted byte does
abbrev pub Reached : ℕ → ℕ → List ℕ → ℕ → ℕ → ℕ → ℕ → Type 0
Reached m z ds d start long t = (p : ℕ) → Wanted m start long p → StandsBy m z ds d t p

-- the first t rows, of the P that d parties send, reach the range, and no fewer do
pub record Earliest (m z : ℕ) (ds : List ℕ) (d start long t : ℕ) : Type 0 where
  pub within : t ≤ rows_of_count m z d
  pub enough : Reached m z ds d start long t
  pub least : (t' : ℕ) → Reached m z ds d start long t' → t ≤ t'
