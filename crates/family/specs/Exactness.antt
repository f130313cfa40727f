-- What it is for shares to be opened exactly, for any family: from the first rows that some parties have of each block.
-- Assumes nothing.
use Rattle.std.specs.Prelude.{◌≡◌, List, ℕ, ◌+◌, ◌*◌, ◌<◌, length, get_or, take}
use Rattle.lists.specs.Each.{Byte}
use Rattle.lists.specs.Table.{joined, piece}
use Rattle.family.specs.Message.{Bytes}
use Rattle.family.specs.Family.{Family, share_of_blocks}

-- what the prefixes of so many rows, one after another, hold of block t of N: the byte of row j in the prefix at place a
unfoldable pub readings : ℕ → ℕ → List ℕ → ℕ → ℕ → ℕ → ℕ
readings rows N prefixes t j a = get_or prefixes (a * (rows * N) + (j * N + t)) 0

-- all N blocks, each from what the prefixes hold of it
unfoldable pub opened_blocks : ℕ → ((ℕ → ℕ → ℕ) → List ℕ) → ℕ → List ℕ → List ℕ
opened_blocks rows opened N prefixes = joined N (λ t. opened (readings rows N prefixes t))

-- the first rows of party s's share of N blocks: its prefix
unfoldable pub first_rows : Family → ℕ → ℕ → List ℕ → List ℕ → ℕ → List ℕ
first_rows F rows N blocks keys s = take (rows * N) (share_of_blocks F N blocks keys s)

module _ (F : Family) (parties : List ℕ) (rows : ℕ) where
  -- in the first rows of a block the party at place a has v j a in row j
  abbrev pub Has : (ℕ → ℕ → ℕ) → List ℕ → List ℕ → Type 0
  Has v block keys = (j a : ℕ) → j < rows → a < length parties → get_or (F.column block keys (get_or parties a 0)) j 0 ≡ v j a

  -- one block: `opened` and `opened_keys` find from any such bytes a block and keys that give them; the block is the only one, and so are the first
  -- `known` of its keys
  pub record BlockExact (known : ℕ) (opened opened_keys : (ℕ → ℕ → ℕ) → List ℕ) : Type 0 where
    pub block-bytes : (v : ℕ → ℕ → ℕ) → Bytes F.block (opened v)
    pub keys-bytes : (v : ℕ → ℕ → ℕ) → Bytes F.keys (opened_keys v)
    pub exists : (v : ℕ → ℕ → ℕ) → ((j a : ℕ) → j < rows → a < length parties → Byte (v j a)) → Has v (opened v) (opened_keys v)
    pub unique : (v : ℕ → ℕ → ℕ) (block keys : List ℕ) → Bytes F.block block → Bytes F.keys keys → Has v block keys → block ≡ opened v
    pub keys_unique : (v : ℕ → ℕ → ℕ) (block keys : List ℕ) → Bytes F.block block → Bytes F.keys keys → Has v block keys
        → take known keys ≡ take known (opened_keys v)

  -- the prefixes of the parties' shares are these bytes, one after another in the list's order
  abbrev pub Gives : ℕ → List ℕ → List ℕ → List ℕ → Type 0
  Gives N blocks keys prefixes = (a : ℕ) → a < length parties → first_rows F rows N blocks keys (get_or parties a 0) ≡ piece (rows * N) a prefixes

  -- N blocks: any bytes of the right number are the prefixes of the opened blocks under some keys, and of no other blocks, whatever their padding;
  -- of each block the first `known` keys are determined too
  pub record Exact (known : ℕ) (opened : (ℕ → ℕ → ℕ) → List ℕ) (N : ℕ) : Type 0 where
    pub bytes : (prefixes : List ℕ) → Bytes (N * F.block) (opened_blocks rows opened N prefixes)
    pub exists : (prefixes : List ℕ) → Bytes (length parties * (rows * N)) prefixes
        → (keys : List ℕ) × Bytes (N * F.keys) keys × Gives N (opened_blocks rows opened N prefixes) keys prefixes
    pub unique : (prefixes blocks keys : List ℕ) → Bytes (N * F.block) blocks → Bytes (N * F.keys) keys → Gives N blocks keys prefixes
        → blocks ≡ opened_blocks rows opened N prefixes
    pub keys_unique : (prefixes blocks blocks' keys keys' : List ℕ) → Bytes (N * F.block) blocks → Bytes (N * F.block) blocks'
        → Bytes (N * F.keys) keys → Bytes (N * F.keys) keys' → Gives N blocks keys prefixes → Gives N blocks' keys' prefixes
        → (t : ℕ) → t < N → take known (piece F.keys t keys) ≡ take known (piece F.keys t keys')
