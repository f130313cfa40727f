-- The numbers of an accepted scheme and of a message that is not too long are small, so that their products fit in a word; and the rows of
-- each count are at most those of a block.
-- Assumes nothing.
use mathlib.Core.Path.{◌≡◌, ap, ◌∙◌}
use mathlib.Core.Bool.{true}
use Prim.Native.Nat.{ℕ, ◌-◌, ◌*◌, ◌≤◌, ◌<◌}
use native.Mathlib.Nat.{div-le_of_le-mul, div-le_self, le_trans, mul-le-mul, mul_comm, mul-pos}
use native.Mathlib.Omega.{arith}
use Rattle.lists.specs.Each.{occurs}
use Rattle.lists.proofs.Each.{occurs-place}
use Rattle.lists.proofs.Numbers.{positive_factor}
use Rattle.scheme.specs.declared.accepted.Scheme.{Scheme}
use Rattle.scheme.specs.Facts.{SchemeIs}
use Rattle.scheme.specs.Limits.{max_parties, max_block, max_message, max_blocks}
use Rattle.scheme.specs.Check.{rows_of_count, rows_of_block, block_count}
use Rattle.scheme.proofs.Laws.{accepted}
use Rattle.staircase.specs.Parameters.{Parameters, AcceptedScheme, block, rows}
use Rattle.staircase.proofs.Groups as groups

-- P is no more than the block length
pub rows_few : (m z d P : ℕ) → m ≤ max_block → P ≡ rows_of_count m z d → P ≤ max_block
unfolding rows_of_count
rows_few m z d P h e = rw e (le_trans (div-le_self m (d - z)) h)

module _ (p : Parameters) (good : AcceptedScheme p) where
  pub block_some : 0 < block p
  block_some = (accepted p.n p.r p.z p.counts good).least.positive

  pub block_most : block p ≤ max_block
  block_most = (accepted p.n p.r p.z p.counts good).limit

  pub rows_most : rows p ≤ max_block
  unfolding rows_of_block
  rows_most = le_trans (div-le_self (block p) (p.n - p.r - p.z)) block_most

  pub blocks_most : (message : ℕ) → message ≤ max_message → block_count (block p) message ≤ max_message
  unfolding block_count
  blocks_most message h =
      div-le_of_le-mul (block p) (omega (arith, block_some))

  -- a count is at most n, so at most 16
  pub count_most : (d : ℕ) → occurs d p.counts ≡ true → d ≤ max_parties
  count_most d e =
      let a = accepted p.n p.r p.z p.counts good in
      let at = occurs-place d p.counts e in
      omega (arith, at.2, a.high at.0 at.1, a.sizes.parties_high)

  -- P is at most b
  pub rows-within : (d : ℕ) → occurs d p.counts ≡ true → rows_of_count (block p) p.z d ≤ rows p
  rows-within d e =
      let at = occurs-place d p.counts e in
      rw at.2 at (groups.rows_most p.n p.r p.z p.counts (block p) (rows p) (accepted p.n p.r p.z p.counts good) at.0 at.1)

  -- there are rows, and d parties send some bytes of a block
  pub rows_some : 0 < rows p
  rows_some =
      let a = accepted p.n p.r p.z p.counts good in
      positive_factor (rows p) (p.n - p.r - p.z) (block p) a.least.positive (mul_comm (rows p) (p.n - p.r - p.z) ∙ a.rows)

  pub sent_some : (d : ℕ) → occurs d p.counts ≡ true → 0 < d * rows_of_count (block p) p.z d
  sent_some d e =
      let a = accepted p.n p.r p.z p.counts good in
      let at = occurs-place d p.counts e in
      let P : ℕ = rows_of_count (block p) p.z d in
      let whole : P * (d - p.z) ≡ block p = rw at.2 at (a.rows_of-count at.0 at.1) in
      let some : 0 < P = positive_factor P (d - p.z) (block p) a.least.positive whole in
      let above : 0 < d - p.z = positive_factor (d - p.z) P (block p) a.least.positive (mul_comm (d - p.z) P ∙ whole) in
      mul-pos (omega arith) some

-- the code's numbers: s is what the check answers
module _ (p : Parameters) (s : Scheme) (is : SchemeIs s p.n p.r p.z p.counts) where
  -- N is the blocks of the message
  module _ (message N : ℕ) (N_is : N ≡ block_count s.block message) where
    pub blocks_are : N ≡ block_count (block p) message
    blocks_are = N_is ∙ ap (λ (m : ℕ). block_count m message) is.block_is

    -- N × b
    pub share_length : N * s.rows ≡ block_count (block p) message * rows p
    share_length = rw (blocks_are, is.rows_is)

    pub blocks_few : message ≤ max_message → N ≤ max_blocks
    blocks_few short = rw blocks_are (omega (arith, blocks_most p is.passed message short))

  -- of no more blocks than a message makes
  module _ (N : ℕ) (few : N ≤ max_blocks) where
    pub share_small : N * s.rows ≤ max_blocks * max_block
    share_small =
        let b_most : s.rows ≤ max_block = rw is.rows_is (rows_most p is.passed) in
        mul-le-mul few b_most

    -- P × N
    pub prefix_small : (z d P : ℕ) → P ≡ rows_of_count s.block z d → P * N ≤ max_block * max_blocks
    prefix_small z d P e = mul-le-mul (rows_few s.block z d P (rw is.block_is (block_most p is.passed)) e) few
