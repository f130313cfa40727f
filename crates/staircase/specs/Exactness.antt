-- Demand 2 of the request: opening is exact. For whole blocks, whatever their padding: a message is the beginning of its blocks.
-- Assumes nothing.
use Rattle.std.specs.Prelude.{◌≡◌, true, List, map, ℕ, ◌*◌, ◌≤◌, ◌<◌, length, get_or}
use Rattle.lists.specs.Each.{Each, Distinct, occurs}
use Rattle.scheme.specs.Limits.{max_message}
use Rattle.family.specs.Message.{Bytes}
use Rattle.family.specs.Exactness as family
use Rattle.family.specs.Exactness.{opened_blocks}
use Rattle.staircase.specs.Parameters.{Parameters, Party, block, rows, prefix_rows, blocks_of, key_bytes, point}
use Rattle.staircase.specs.Coefficients.{key_place}
use Rattle.staircase.specs.Shares.{staircase}
use Rattle.staircase.specs.Opening.{opened_block}

-- the prefix bytes that d parties send for N blocks: d × P × N
unfoldable pub prefix_bytes : Parameters → ℕ → ℕ → ℕ
prefix_bytes p d N = d * prefix_rows p d * N

-- the whole blocks that have these prefixes, opened block by block
unfoldable pub opened_string : Parameters → List ℕ → ℕ → List ℕ → List ℕ
opened_string p parties N prefixes =
    opened_blocks (prefix_rows p (length parties))
    (opened_block (block p) p.z p.counts (map (point p) parties)) N prefixes

-- these N whole blocks under these keys give the parties the prefixes: at each place of the list, the first P × N bytes of that party's share
abbrev pub GivesPrefixes : Parameters → List ℕ → ℕ → List ℕ → List ℕ → List ℕ → Type 0
GivesPrefixes p parties N blocks keys prefixes = family.Gives (staircase p) parties (prefix_rows p (length parties)) N blocks keys prefixes

-- what the prefixes of N blocks open to
pub record OpenedBlocks (p : Parameters) (N : ℕ) (parties prefixes : List ℕ) : Type 0 where
  -- whole blocks
  pub bytes : Bytes (N * block p) (opened_string p parties N prefixes)
  -- that some keys turn into these prefixes
  pub exists : (keys : List ℕ) × Bytes (key_bytes p N) keys × GivesPrefixes p parties N (opened_string p parties N prefixes) keys prefixes
  -- and no other blocks do, whatever their padding and keys
  pub unique : (blocks keys : List ℕ) → Bytes (N * block p) blocks → Bytes (key_bytes p N) keys → GivesPrefixes p parties N blocks keys prefixes
      → blocks ≡ opened_string p parties N prefixes
  -- the keys of the first P rows of each block are determined too
  pub keys_unique : (blocks blocks' keys keys' : List ℕ) → Bytes (N * block p) blocks → Bytes (N * block p) blocks'
      → Bytes (key_bytes p N) keys → Bytes (key_bytes p N) keys'
      → GivesPrefixes p parties N blocks keys prefixes → GivesPrefixes p parties N blocks' keys' prefixes
      → (t j e : ℕ) → t < N → j < prefix_rows p (length parties) → e < p.z
      → get_or keys (key_place (rows p) p.z t j e) 0 ≡ get_or keys' (key_place (rows p) p.z t j e) 0

-- those of a message of so many bytes
abbrev pub Opened : Parameters → ℕ → List ℕ → List ℕ → Type 0
Opened p message parties prefixes = OpenedBlocks p (blocks_of p message) parties prefixes

-- of an accepted scheme (`blocks_exactness` in proofs/WholeBlocks.antt): for every number of blocks, every list of as many distinct parties as a count, and
-- every string of as many bytes as their prefixes have
abbrev pub BlocksExactness : Parameters → Type 0
BlocksExactness p =
    (N : ℕ)
    → (parties : List ℕ) → occurs (length parties) p.counts ≡ true → Distinct parties → Each (Party p) parties
    → (prefixes : List ℕ) → Bytes (prefix_bytes p (length parties) N) prefixes
    → OpenedBlocks p N parties prefixes

-- of an accepted scheme (`exactness` in proofs/WholeBlocks.antt): for every length, every list of as many distinct parties as a count, and every
-- string of as many bytes as their prefixes have
abbrev pub Exactness : Parameters → Type 0
Exactness p =
    (message : ℕ) → message ≤ max_message
    → (parties : List ℕ) → occurs (length parties) p.counts ≡ true → Distinct parties → Each (Party p) parties
    → (prefixes : List ℕ) → Bytes (prefix_bytes p (length parties) (blocks_of p message)) prefixes
    → Opened p message parties prefixes
