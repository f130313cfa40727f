-- What the loops do that go through a row of all blocks, said of the row as the code has it.
-- Assumes nothing.
use Rattle.std.specs.Prelude.{List, ℕ}
use Rattle.reader.specs.declared.row.Row.{Row}
use Rattle.reader.specs.Decoding.{read_by, Solves}
use Rattle.reader.specs.Filling.{FillsRow}

-- the prefixes that are read
abbrev pub read_in : Row → List ℕ
read_in row = read_by row.sizes row.prefixes.now

-- the row's loop over the blocks from s to n − 1
abbrev pub SolvesRow : Row → List (List ℕ) → ℕ → ℕ → List ℕ → List ℕ → Type 0
SolvesRow row weights s n w w' = Solves row.sizes row.top row.q row.places.now weights (read_in row) s n w w'

-- the row's loop over the blocks below n that fills the output
abbrev pub FillsBlocks : Row → List (List ℕ) → List ℕ → ℕ → List ℕ → List ℕ → Type 0
FillsBlocks row table work n before after = FillsRow row.sizes row.top row.q row.places.now table (read_in row) work n before after
