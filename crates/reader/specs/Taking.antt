-- How many rows an opening takes, said of the parties as the code has them.
-- Assumes nothing.
use Rattle.std.specs.Prelude.{ℕ, length}
use Rattle.order.specs.RowsTaken as order
use Rattle.reader.specs.declared.readers.Readers.{Readers}
use Rattle.reader.specs.declared.taking.Take.{Take}
use Rattle.reader.specs.Decoding as decoding
use Rattle.reader.specs.Opening as opening

-- those that a range needs
abbrev pub rows_taken : Readers → ℕ → ℕ → ℕ
rows_taken r start long = order.rows_taken r.scheme.block r.scheme.z r.scheme.counts.now (length r.parties.now) start long

-- all that are sent, or those
abbrev pub rows_by : Take → Readers → ℕ → ℕ → ℕ
rows_by take r start long = opening.rows_by take (decoding.sent_rows r.scheme (length r.parties.now)) (rows_taken r start long)
