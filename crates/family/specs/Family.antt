-- A family of shares, by what a party has of one block. Shares of whole blocks are the same for every family.
-- Assumes nothing.
use Rattle.std.specs.Prelude.{List, ℕ, ◌+◌, ◌*◌, ◌/◌, ◌%◌, get_or}
use Rattle.lists.specs.Table.{tabulate, joined, piece}

pub record Family : Type 0 where
  -- the message bytes of a block
  pub block : ℕ
  -- the bytes that a party has of a block, one a row
  pub rows : ℕ
  -- the key bytes of a block
  pub keys : ℕ
  -- the bytes that party s has of a block under its keys
  pub column : List ℕ → List ℕ → ℕ → List ℕ

-- the share of party s of N whole blocks under the keys: row j of block t is at j × N + t
unfoldable pub share_of_blocks : Family → ℕ → List ℕ → List ℕ → ℕ → List ℕ
share_of_blocks F N blocks keys s =
    tabulate (F.rows * N) (λ i. get_or (F.column (piece F.block (i % N) blocks) (piece F.keys (i % N) keys) s) (i / N) 0)

-- the shares of parties 1 to n, one after another
unfoldable pub shares_of_blocks : Family → ℕ → ℕ → List ℕ → List ℕ → List ℕ
shares_of_blocks F n N blocks keys = joined n (λ i. share_of_blocks F N blocks keys (i + 1))
