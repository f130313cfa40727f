-- What the splitter makes of a source: a message, the byte after it and the keys, in a scheme.
-- Assumes nothing.
use Rattle.std.specs.Prelude.{List, [], ◌∷◌, ◌++◌, ℕ, ◌+◌, ◌*◌}
use Rattle.lists.specs.Table.{tabulate, joined}
use Rattle.staircase.specs.Parameters.{parameters_of, point}
use Rattle.staircase.specs.Coefficients.{count_of, share_byte}
use Rattle.dealer.specs.declared.source.Source.{Source}
use Rattle.dealer.specs.Columns.{column}

-- the bytes that stand in the blocks: after them all are 0
abbrev pub bytes_of : Source → List ℕ
bytes_of x = x.message.now ++ x.end.byte ∷ []

-- the coefficients of degree e of row j in 64 blocks from t on
abbrev pub column_of : Source → ℕ → ℕ → ℕ → List ℕ
column_of x t j e = column x.scheme.block x.scheme.rows x.scheme.z x.scheme.counts.now (bytes_of x) x.keys.now t j e

-- the number of coefficients of row j
abbrev pub count_in : Source → ℕ → ℕ
count_in x j = count_of x.scheme.block x.scheme.z x.scheme.counts.now j

-- byte i of the share of party a + 1, of so many blocks
abbrev pub byte_of : Source → ℕ → ℕ → ℕ → ℕ
byte_of x blocks a i =
    let s = x.scheme in
    share_byte s.block s.rows s.z s.counts.now (bytes_of x) x.keys.now blocks (point (parameters_of s) (a + 1)) i

-- the shares of all parties, byte by byte
abbrev pub filled_shares : Source → ℕ → List ℕ
filled_shares x blocks = joined x.scheme.n (λ a. tabulate (x.scheme.rows * blocks) (byte_of x blocks a))
