-- What it is for shares to give nothing away.
-- Assumes nothing.
use Rattle.std.specs.Prelude.{◌≡◌, List, ℕ, length, get_or}
use Rattle.lists.specs.Table.{tabulate}
use Rattle.gf256.specs.Byte.{◌⊕◌}
use Rattle.family.specs.Message.{Bytes}

-- the sum of two strings, byte by byte, as long as the first
unfoldable pub sum : List ℕ → List ℕ → List ℕ
sum xs ys = tabulate (length xs) (λ i. get_or xs i 0 ⊕ get_or ys i 0)

-- one change of the strings of n bytes, into them, one_to_one and onto, under which the second view of a string is the first view of the
-- string before the change
pub record Hidden (n : ℕ) {W : Type 0} (first second : List ℕ → W) : Type 0 where
  pub change : List ℕ → List ℕ
  pub into : (keys : List ℕ) → Bytes n keys → Bytes n (change keys)
  pub one_to_one : (keys keys' : List ℕ) → Bytes n keys → Bytes n keys' → change keys ≡ change keys' → keys ≡ keys'
  pub onto : (keys : List ℕ) → Bytes n keys → (from : List ℕ) × Bytes n from × (change from ≡ keys)
  pub same : (keys : List ℕ) → Bytes n keys → first keys ≡ second (change keys)

-- a change that adds a fixed string
pub record Mask (n : ℕ) {W : Type 0} (first second : List ℕ → W) : Type 0 where
  pub mask : List ℕ
  pub bytes : Bytes n mask
  pub same : (keys : List ℕ) → Bytes n keys → first keys ≡ second (sum keys mask)
