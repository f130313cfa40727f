-- Secrecy of any family: a change that adds a mask is one_to_one and onto, and masks of the blocks make one of the whole key string.
-- Assumes nothing.
use mathlib.Core.Path.{◌≡◌, sym, ap, ◌∙◌}
use mathlib.Core.List.{List, [], map}
use Prim.Native.Nat.{ℕ, ◌*◌, ◌/◌, ◌%◌, ◌<◌}
use lib.ListN.{length, get_or}
use Rattle.lists.specs.Table.{joined, piece}
use Rattle.lists.proofs.Each.{each_map, map_each, each_of, each_get_d}
use Rattle.lists.proofs.Table.{tabulate-same}
use Rattle.lists.proofs.Joined.{in-grid, piece-joined}
use Rattle.lists.proofs.Choice.{chosen}
use Rattle.family.specs.Message.{Bytes}
use Rattle.family.specs.Family.{Family, share_of_blocks}
use Rattle.family.specs.Secrecy.{sum, Hidden, Mask}
use Rattle.family.proofs.Message.{block-bytes, joined_bytes}
use Rattle.family.proofs.Sum.{sum-bytes, sum_twice, piece-sum}

pub hidden : (n : ℕ) {W : Type 0} (first second : List ℕ → W) → Mask n first second → Hidden n first second
hidden n first second M =
    record {
      change = λ keys. sum keys M.mask;
      into = λ keys K. sum-bytes n keys M.mask K M.bytes;
      one_to_one = λ keys keys' K K' e. sym (sum_twice keys M.mask) ∙ ap (λ (k : List ℕ). sum k M.mask) e ∙ sum_twice keys' M.mask;
      onto = λ keys K. (sum keys M.mask, sum-bytes n keys M.mask K M.bytes, sum_twice keys M.mask);
      same = M.same;
    }

-- what the parties have of one block: one party's bytes after another's
abbrev pub seen : Family → List ℕ → List ℕ → List ℕ → List (List ℕ)
seen F parties block keys = map (F.column block keys) parties

module _ (F : Family) (parties : List ℕ) (N : ℕ) (first second : List ℕ)
    (given : (t : ℕ) → t < N → Mask F.keys (seen F parties (piece F.block t first)) (seen F parties (piece F.block t second))) where
  abbrev Good : ℕ → List ℕ → Type 0
  Good t mask =
      Bytes F.keys mask
      × ((keys : List ℕ) → Bytes F.keys keys
      → seen F parties (piece F.block t first) keys ≡ seen F parties (piece F.block t second) (sum keys mask))

  masks : (f : ℕ → List ℕ) × ((t : ℕ) → t < N → Good t (f t))
  masks = chosen {A = List ℕ} [] N Good (λ t h. let M = given t h in (M.mask, (M.bytes, M.same)))

  whole : List ℕ
  whole = joined N masks.0

  whole_bytes : Bytes (N * F.keys) whole
  unfolding whole
  whole_bytes = joined_bytes F.keys N masks.0 (λ t h. (masks.1 t h).0)

  -- block t under its keys, and under its changed keys
  block_same : (keys : List ℕ) → Bytes (N * F.keys) keys → (t : ℕ) → t < N
      → seen F parties (piece F.block t first) (piece F.keys t keys) ≡ seen F parties (piece F.block t second) (piece F.keys t (sum keys whole))
  unfolding whole
  block_same keys K t h =
      let w : ℕ = F.keys in
      let e : piece w t (sum keys whole) ≡ sum (piece w t keys) (masks.0 t)
      = piece-sum w t N keys whole K.0 whole_bytes.0 h
      ∙ ap (sum (piece w t keys)) (piece-joined {A = ℕ} N w masks.0 (λ t h. (masks.1 t h).0.0) t h) in
      (masks.1 t h).1 (piece w t keys) (block-bytes w t N keys K h) ∙ ap (seen F parties (piece F.block t second)) (sym e)

  share_same : (keys : List ℕ) → Bytes (N * F.keys) keys → (a : ℕ) → a < length parties
      → share_of_blocks F N first keys (get_or parties a 0) ≡ share_of_blocks F N second (sum keys whole) (get_or parties a 0)
  unfolding share_of_blocks
  share_same keys K a h =
      tabulate-same {A = ℕ} (F.rows * N) _ _
      (λ i b.
      ap (λ (column : List ℕ). get_or column (i / N) 0)
      (each_get_d {A = ℕ}
      (λ s. F.column (piece F.block (i % N) first) (piece F.keys (i % N) keys) s
      ≡ F.column (piece F.block (i % N) second) (piece F.keys (i % N) (sum keys whole)) s)
      parties a 0 h
      (map_each {A = ℕ} {B = List ℕ} _ _ parties (block_same keys K (i % N) (in-grid i F.rows N b).1))))

  -- a mask of each block makes one of N blocks
  pub blocks_mask : Mask (N * F.keys) (λ keys. map (share_of_blocks F N first keys) parties) (λ keys. map (share_of_blocks F N second keys) parties)
  blocks_mask =
      record {
        mask = whole;
        bytes = whole_bytes;
        same =
            λ keys K.
            each_map {A = ℕ} {B = List ℕ} (share_of_blocks F N first keys) (share_of_blocks F N second (sum keys whole)) parties
            (each_of {A = ℕ} _ parties 0 (share_same keys K));
      }
