-- Exactness of any family: blocks that are opened exactly one by one are opened exactly N at once.
-- A prefix has row j of block t at j * N + t, so bytes are the prefixes of N blocks just if each block has its readings.
-- Assumes nothing.
use mathlib.Core.Path.{◌≡◌, sym, ap, ap₂, ◌∙◌}
use mathlib.Core.List.{List}
use Prim.Native.Nat.{ℕ, ◌+◌, ◌*◌, ◌/◌, ◌%◌, ◌≤◌, ◌<◌}
use native.Mathlib.Nat.{le_of_eq, mul-le-mul_right, div-add-mod'}
use native.Mathlib.Omega.{arith}
use lib.ListN.{length, get_or, take}
use lib.Seq.{get_or-take, length-take-le, ext_get_or}
use Rattle.lists.specs.Each.{Byte}
use Rattle.lists.specs.Table.{joined, piece}
use Rattle.lists.proofs.Each.{each_get_d}
use Rattle.lists.proofs.Joined.{in-grid, below_product, piece-joined}
use Rattle.lists.proofs.Piece.{length-piece, get_or-piece, joined_is}
use Rattle.family.specs.Message.{Bytes}
use Rattle.family.specs.Family.{Family, share_of_blocks}
use Rattle.family.specs.Exactness.{Has, BlockExact, first_rows, Gives, readings, opened_blocks, Exact}
use Rattle.family.proofs.Message.{block-bytes, joined_bytes}
use Rattle.family.proofs.Shares.{length_share, share_byte_lem}

-- ---- the bytes of prefixes

module _ (F : Family) (parties : List ℕ) (rows : ℕ) (few : rows ≤ F.rows) (N : ℕ) where
  pub length-prefix : (blocks keys : List ℕ) (s : ℕ) → length (first_rows F rows N blocks keys s) ≡ rows * N
  unfolding first_rows
  length-prefix blocks keys s =
      length-take-le (rows * N) (share_of_blocks F N blocks keys s) (rw (length_share F N blocks keys s) (mul-le-mul_right N few))

  -- row j of block t
  pub prefix-byte : (blocks keys : List ℕ) (s j t : ℕ) → j < rows → t < N
      → get_or (first_rows F rows N blocks keys s) (j * N + t) 0 ≡ get_or (F.column (piece F.block t blocks) (piece F.keys t keys) s) j 0
  unfolding first_rows
  prefix-byte blocks keys s j t hj ht =
      get_or-take (rows * N) (share_of_blocks F N blocks keys s) (j * N + t) 0 (below_product j rows t N hj ht)
      ∙ share_byte_lem F N blocks keys s j t (omega arith) ht

  -- the same byte of the party at place a, where the prefixes are given
  pub reading : (prefixes : List ℕ) (a j t : ℕ) → j < rows → t < N
      → get_or (piece (rows * N) a prefixes) (j * N + t) 0 ≡ readings rows N prefixes t j a
  unfolding readings
  reading prefixes a j t hj ht = get_or-piece (rows * N) a prefixes (j * N + t) 0 (below_product j rows t N hj ht)

  pub reading_byte : (prefixes : List ℕ) → Bytes (length parties * (rows * N)) prefixes → (t : ℕ) → t < N
      → (j a : ℕ) → j < rows → a < length parties → Byte (readings rows N prefixes t j a)
  unfolding readings
  reading_byte prefixes h t ht j a hj ha =
      each_get_d Byte prefixes (a * (rows * N) + (j * N + t)) 0
      (rw h.0 (below_product a (length parties) (j * N + t) (rows * N) ha (below_product j rows t N hj ht))) h.1

  module _ (prefixes blocks keys : List ℕ) where
    -- block t has its readings
    abbrev pub HasAt : ℕ → Type 0
    HasAt t = Has F parties rows (readings rows N prefixes t) (piece F.block t blocks) (piece F.keys t keys)

    pub gives_has : Gives F parties rows N blocks keys prefixes → (t : ℕ) → t < N → HasAt t
    gives_has G t ht j a hj ha =
        sym (prefix-byte blocks keys (get_or parties a 0) j t hj ht)
        ∙ ap (λ (p : List ℕ). get_or p (j * N + t) 0) (G a ha)
        ∙ reading prefixes a j t hj ht

    pub has_gives : length prefixes ≡ length parties * (rows * N) → ((t : ℕ) → t < N → HasAt t) → Gives F parties rows N blocks keys prefixes
    has_gives e H a ha =
        let s : ℕ = get_or parties a 0 in
        let p : List ℕ = first_rows F rows N blocks keys s in
        let l : length p ≡ rows * N = length-prefix blocks keys s in
        ext_get_or 0 p (piece (rows * N) a prefixes) (l ∙ sym (length-piece (rows * N) a (length parties) prefixes (le_of_eq (sym e)) ha))
        (λ i b.
        let g = in-grid i rows N (rw l at b) in
        let at : get_or p (i / N * N + i % N) 0 ≡ get_or (piece (rows * N) a prefixes) (i / N * N + i % N) 0
        = prefix-byte blocks keys s (i / N) (i % N) g.0 g.1
        ∙ H (i % N) g.1 (i / N) a g.0 ha
        ∙ sym (reading prefixes a (i / N) (i % N) g.0 g.1) in
        rw (div-add-mod' i N) at at)

-- ---- from one block to N

module _ (F : Family) (parties : List ℕ) (rows known : ℕ) (opened opened_keys : (ℕ → ℕ → ℕ) → List ℕ) (few : rows ≤ F.rows)
    (E : BlockExact F parties rows known opened opened_keys) (N : ℕ) where
  abbrev pub held : List ℕ → ℕ → ℕ → ℕ → ℕ
  held = readings rows N

  abbrev pub keys_for : List ℕ → List ℕ
  keys_for prefixes = joined N (λ t. opened_keys (held prefixes t))

  pub opened_has : (prefixes : List ℕ) → Bytes (length parties * (rows * N)) prefixes → (t : ℕ) → t < N
      → HasAt F parties rows few N prefixes (opened_blocks rows opened N prefixes) (keys_for prefixes) t
  unfolding opened_blocks
  opened_has prefixes h t ht j a hj ha =
      ap₂ (λ (b k : List ℕ). get_or (F.column b k (get_or parties a 0)) j 0)
      (piece-joined N F.block (λ t. opened (held prefixes t)) (λ t _. (E.block-bytes (held prefixes t)).0) t ht)
      (piece-joined N F.keys (λ t. opened_keys (held prefixes t)) (λ t _. (E.keys-bytes (held prefixes t)).0) t ht)
      ∙ E.exists (held prefixes t) (reading_byte F parties rows few N prefixes h t ht) j a hj ha

  module _ (prefixes blocks keys : List ℕ) (B : Bytes (N * F.block) blocks) (K : Bytes (N * F.keys) keys)
      (G : Gives F parties rows N blocks keys prefixes) (t : ℕ) (ht : t < N) where
    block-known : piece F.block t blocks ≡ opened (held prefixes t)
    block-known =
        E.unique (held prefixes t) (piece F.block t blocks) (piece F.keys t keys)
        (block-bytes F.block t N blocks B ht) (block-bytes F.keys t N keys K ht) (gives_has F parties rows few N prefixes blocks keys G t ht)

    keys-known : take known (piece F.keys t keys) ≡ take known (opened_keys (held prefixes t))
    keys-known =
        E.keys_unique (held prefixes t) (piece F.block t blocks) (piece F.keys t keys)
        (block-bytes F.block t N blocks B ht) (block-bytes F.keys t N keys K ht) (gives_has F parties rows few N prefixes blocks keys G t ht)

  pub blocks_exact : Exact F parties rows known opened N
  unfolding opened_blocks
  blocks_exact =
      record {
        bytes = λ prefixes. joined_bytes F.block N (λ t. opened (held prefixes t)) (λ t _. E.block-bytes (held prefixes t));
        exists =
            λ prefixes h. (
              keys_for prefixes,
              joined_bytes F.keys N (λ t. opened_keys (held prefixes t)) (λ t _. E.keys-bytes (held prefixes t)),
              has_gives F parties rows few N prefixes (opened_blocks rows opened N prefixes) (keys_for prefixes) h.0 (opened_has prefixes h),
            );
        unique =
            λ prefixes blocks keys B K G.
            joined_is blocks N F.block (λ t. opened (held prefixes t)) 0 B.0 (block-known prefixes blocks keys B K G);
        keys_unique =
            λ prefixes blocks blocks' keys keys' B B' K K' G G' t ht.
            keys-known prefixes blocks keys B K G t ht ∙ sym (keys-known prefixes blocks' keys' B' K' G' t ht);
      }
