-- Whole shares of any family: where the whole shares of some parties are opened exactly, blocks and keys that give these parties the same shares are
-- the same.
-- Assumes nothing.
use mathlib.Core.Path.{◌≡◌, sym, ◌∙◌}
use mathlib.Core.List.{List}
use Prim.Native.Nat.{ℕ, ◌*◌, ◌<◌}
use native.Mathlib.Nat.{le_of_eq}
use lib.ListN.{length, get_or, take}
use lib.Seq.{take_all}
use Rattle.lists.specs.Each.{Each}
use Rattle.lists.specs.Table.{joined, piece}
use Rattle.lists.proofs.Each.{each_get_d}
use Rattle.lists.proofs.Joined.{piece-joined}
use Rattle.lists.proofs.Piece.{length-piece, by_pieces}
use Rattle.family.specs.Message.{Bytes}
use Rattle.family.specs.Family.{Family, share_of_blocks}
use Rattle.family.specs.Exactness.{first_rows, Gives, Exact}
use Rattle.family.proofs.Shares.{length_share}

-- all rows of a share are the share
pub all-rows : (F : Family) (N : ℕ) (blocks keys : List ℕ) (s : ℕ) → first_rows F F.rows N blocks keys s ≡ share_of_blocks F N blocks keys s
unfolding first_rows
all-rows F N blocks keys s = take_all (F.rows * N) (share_of_blocks F N blocks keys s) (le_of_eq (length_share F N blocks keys s))

module _ (F : Family) (N : ℕ) (core : List ℕ) (opened : (ℕ → ℕ → ℕ) → List ℕ) (X : Exact F core F.rows F.keys opened N) where
  -- two that give the same prefixes have the same keys
  pub keys-same : (prefixes blocks blocks' keys keys' : List ℕ) → Bytes (N * F.block) blocks → Bytes (N * F.block) blocks'
      → Bytes (N * F.keys) keys → Bytes (N * F.keys) keys'
      → Gives F core F.rows N blocks keys prefixes → Gives F core F.rows N blocks' keys' prefixes → keys ≡ keys'
  keys-same prefixes blocks blocks' keys keys' B B' K K' G G' =
      by_pieces F.keys N keys keys' K.0 K'.0
      (λ t h.
      sym (whole keys K.0 t h) ∙ X.keys_unique prefixes blocks blocks' keys keys' B B' K K' G G' t h ∙ whole keys' K'.0 t h)
    where
      whole : (k : List ℕ) → length k ≡ N * F.keys → (t : ℕ) → t < N → take F.keys (piece F.keys t k) ≡ piece F.keys t k
      whole k n t h = take_all F.keys (piece F.keys t k) (le_of_eq (length-piece F.keys t N k (le_of_eq (sym n)) h))

  module _ (blocks blocks' keys keys' : List ℕ) (B : Bytes (N * F.block) blocks) (B' : Bytes (N * F.block) blocks') (K : Bytes (N * F.keys) keys)
      (K' : Bytes (N * F.keys) keys') (same : Each (λ s. share_of_blocks F N blocks keys s ≡ share_of_blocks F N blocks' keys' s) core) where
    abbrev held : List ℕ
    held = joined (length core) (λ a. share_of_blocks F N blocks keys (get_or core a 0))

    held_at : (a : ℕ) → a < length core → share_of_blocks F N blocks keys (get_or core a 0) ≡ piece (F.rows * N) a held
    held_at a h =
        sym (piece-joined (length core) (F.rows * N) (λ a. share_of_blocks F N blocks keys (get_or core a 0)) (λ a _. length_share F N blocks keys (get_or core a 0)) a h)

    gives : Gives F core F.rows N blocks keys held
    gives a h = all-rows F N blocks keys (get_or core a 0) ∙ held_at a h

    gives' : Gives F core F.rows N blocks' keys' held
    gives' a h =
        all-rows F N blocks' keys' (get_or core a 0)
        ∙ sym (each_get_d (λ s. share_of_blocks F N blocks keys s ≡ share_of_blocks F N blocks' keys' s) core a 0 h same)
        ∙ held_at a h

    pub same_blocks : blocks ≡ blocks'
    same_blocks = X.unique held blocks keys B K gives ∙ sym (X.unique held blocks' keys' B' K' gives')

    pub same_keys : keys ≡ keys'
    same_keys = keys-same held blocks blocks' keys keys' B B' K K' gives gives'
