-- Staircase shares of messages: the family of one block's rows, and what the splitter writes.
-- Assumes nothing.
use Rattle.std.specs.Prelude.{List, map, ℕ, ◌-◌, ◌*◌, length}
use Rattle.interpolation.specs.Polynomial.{eval}
use Rattle.lists.specs.Table.{piece}
use Rattle.family.specs.Message.{Bytes, padded}
use Rattle.family.specs.Padding.{marked}
use Rattle.family.specs.Family.{Family, shares_of_blocks}
use Rattle.staircase.specs.Parameters.{Parameters, block, rows, blocks_of, padded_blocks_of, key_bytes, point}
use Rattle.staircase.specs.Rows.{rows_of}

-- party s has the value of each row of a block at its point
unfoldable pub staircase : Parameters → Family
staircase p =
    record {
      block = block p;
      rows = rows p;
      keys = rows p * p.z;
      column = λ bytes keys s. map (eval (point p s)) (rows_of (block p) p.z p.counts bytes keys);
    }

-- what the splitter writes for a message and its keys: the shares of parties 1 to n, one after another
unfoldable pub shares : Parameters → List ℕ → List ℕ → List ℕ
shares p message keys = shares_of_blocks (staircase p) p.n (blocks_of p (length message)) (padded (block p) message) keys

-- the same of a padded message (document 02, a), whose last block shows where it ends
unfoldable pub padded_shares : Parameters → List ℕ → List ℕ → List ℕ
padded_shares p message keys = shares_of_blocks (staircase p) p.n (padded_blocks_of p (length message)) (marked (block p) message) keys

-- party s's bytes, b × N of them, in what the splitter writes for N blocks
unfoldable pub part_of : Parameters → ℕ → ℕ → List ℕ → List ℕ
part_of p N s output = piece (rows p * N) (s - 1) output

-- a key string for a message of so many bytes: any N × z × b bytes
abbrev pub KeyString : Parameters → ℕ → List ℕ → Type 0
KeyString p message keys = Bytes (key_bytes p (blocks_of p message)) keys

-- and for a padded message, with its own N
abbrev pub PaddedKeyString : Parameters → ℕ → List ℕ → Type 0
PaddedKeyString p message keys = Bytes (key_bytes p (padded_blocks_of p message)) keys
