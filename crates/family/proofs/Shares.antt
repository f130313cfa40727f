-- Where a byte of a block stands in the shares of a family: in the part of its party, at its row, at its block.
-- Assumes nothing.
use mathlib.Core.Path.{◌≡◌, ap, ◌∙◌}
use mathlib.Core.List.{List}
use Prim.Native.Nat.{ℕ, ◌+◌, ◌-◌, ◌*◌, ◌/◌, ◌%◌, ◌≤◌, ◌<◌}
use native.Mathlib.Nat.{add_assoc}
use native.Mathlib.Omega.{arith}
use lib.ListN.{length, get_or}
use Rattle.lists.specs.Table.{piece}
use Rattle.lists.proofs.Table.{length-tabulate, get_or-tabulate}
use Rattle.lists.proofs.Joined.{below_product, row_of, place_of, length-joined, get_or-joined}
use Rattle.family.specs.Family.{Family, share_of_blocks, shares_of_blocks}

module _ (F : Family) (N : ℕ) (blocks keys : List ℕ) where
  pub length_share : (s : ℕ) → length (share_of_blocks F N blocks keys s) ≡ F.rows * N
  unfolding share_of_blocks
  length_share s = length-tabulate _ _

  -- row j of block t
  pub share_byte_lem : (s j t : ℕ) → j < F.rows → t < N
      → get_or (share_of_blocks F N blocks keys s) (j * N + t) 0 ≡ get_or (F.column (piece F.block t blocks) (piece F.keys t keys) s) j 0
  unfolding share_of_blocks
  share_byte_lem s j t hj ht =
      get_or-tabulate (F.rows * N)
      (λ i. get_or (F.column (piece F.block (i % N) blocks) (piece F.keys (i % N) keys) s) (i / N) 0) (j * N + t) 0
      (below_product j F.rows t N hj ht)
      ∙ rw (row_of j t N ht, place_of j t N ht)

  pub length-shares : (n : ℕ) → length (shares_of_blocks F n N blocks keys) ≡ n * (F.rows * N)
  unfolding shares_of_blocks
  length-shares n = length-joined n (F.rows * N) (λ i. share_of_blocks F N blocks keys (i + 1)) (λ i h. length_share (i + 1))

  -- the byte of party s
  pub shares-byte : (n s j t : ℕ) → 1 ≤ s → s ≤ n → j < F.rows → t < N
      → get_or (shares_of_blocks F n N blocks keys) ((s - 1) * (F.rows * N) + j * N + t) 0
      ≡ get_or (F.column (piece F.block t blocks) (piece F.keys t keys) s) j 0
  unfolding shares_of_blocks
  shares-byte n s j t low high hj ht =
      let party : s - 1 + 1 ≡ s = omega arith in
      ap (λ (x : ℕ). get_or (shares_of_blocks F n N blocks keys) x 0) (add_assoc ((s - 1) * (F.rows * N)) (j * N) t)
      ∙ get_or-joined n (F.rows * N) (λ i. share_of_blocks F N blocks keys (i + 1)) (λ i h. length_share (i + 1))
      (s - 1) (j * N + t) 0 (omega arith) (below_product j F.rows t N hj ht)
      ∙ ap (λ (x : ℕ). get_or (share_of_blocks F N blocks keys x) (j * N + t) 0) party
      ∙ share_byte_lem s j t hj ht
