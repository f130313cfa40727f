-- `dealer::source::Source::column` meets its contract: below z and from z up the column is gathered from its place on, and from z up the byte after the
-- message is put into it. The places fit in a word since the scheme's numbers are small.
-- Assumes nothing.
use Rattle.std.proofs.Common.{◌≡◌, ◌+◌, ◌*◌, ◌≤◌, ◌<◌, ℕ, arith}
use native.Mathlib.Nat.{mul-le-mul}
use borrow.Author.Tests.{lt-ltb, le-ltb}
use Rattle.scheme.specs.declared.accepted.Scheme.{Scheme}
use Rattle.scheme.specs.Limits.{max_parties, max_block, max_blocks}
use Rattle.scheme.proofs.Laws.{scheme_own}
use Rattle.rows.proofs.Scheme.{facts_of, rows_high}
use Rattle.dealer.specs.Columns.{column}
use Rattle.dealer.proofs.source.Source.column.Goals as goal
use Rattle.dealer.proofs.source.Source.column.Goals.{Else-e-z}

-- the places, in products of small numbers
module _ (s : Scheme) (t j w : ℕ) (few : t ≤ max_blocks) (row : j < s.rows) (w_is : w ≡ s.z) where
  block_most : s.block ≤ max_block
  block_most = (facts_of s _ (scheme_own s)).limit

  rows_most : s.rows ≤ max_block
  rows_most = omega (arith, rows_high s _ (scheme_own s), block_most)

  low : w ≤ max_parties
  low = omega (arith, (facts_of s _ (scheme_own s)).sizes)

  rows_before : t * s.rows ≤ max_blocks * max_block
  rows_before = mul-le-mul few rows_most

  keys-before : (t * s.rows + j) * w ≤ (max_blocks * max_block + max_block) * max_parties
  keys-before =
      let h : t * s.rows + j ≤ max_blocks * max_block + max_block = omega (arith, rows_before, rows_most) in
      mul-le-mul h low

  keys-apart : s.rows * w ≤ max_block * max_parties
  keys-apart = mul-le-mul rows_most low

  bytes-before : t * s.block ≤ max_blocks * max_block
  bytes-before = mul-le-mul few block_most

pub overflow_mul-t : goal.overflow_mul-t
overflow_mul-t c = omega (arith, rows_before c.args.self.now.scheme _ _ _ c.requires.blocks c.requires.row c.from-z.ensures)

pub overflow_add-t : goal.overflow_add-t
overflow_add-t c =
    let r = c.requires in
    omega (arith, rows_before c.args.self.now.scheme _ _ _ r.blocks r.row c.from-z.ensures, rows_most c.args.self.now.scheme _ _ _ r.blocks r.row c.from-z.ensures, r.row)

pub overflow_mul-t-then-e-z : goal.overflow_mul-t-then-e-z
overflow_mul-t-then-e-z c = omega (arith, keys-before c.args.self.now.scheme _ _ _ c.requires.blocks c.requires.row c.from-z.ensures)

pub overflow_add-t-then-e-z : goal.overflow_add-t-then-e-z
overflow_add-t-then-e-z c = omega (arith, keys-before c.args.self.now.scheme _ _ _ c.requires.blocks c.requires.row c.from-z.ensures, c.requires.degree)

pub overflow_mul-rows : goal.overflow_mul-rows
overflow_mul-rows c = omega (arith, keys-apart c.args.self.now.scheme _ _ _ c.requires.blocks c.requires.row c.from-z.ensures)

pub returns-then-e-z : goal.returns-then-e-z
unfolding column
returns-then-e-z c =
    rw (← c.from-z.ensures, lt-ltb c.args.e c.from-z.result c.if-e-z.true) (rw c.requires.long at c.gather_into.ensures)

pub overflow_mul-t-2 : goal.overflow_mul-t-2
overflow_mul-t-2 c = omega (arith, bytes-before c.args.self.now.scheme _ _ _ c.requires.blocks c.requires.row c.from-z.ensures)

-- from z up: the coefficient has a place in the block
from : (c : Else-e-z) → c.args.self.now.scheme.z ≤ c.args.e
from c = omega (arith, c.from-z.ensures, c.if-e-z.false)

pub overflow_add-t-2 : goal.overflow_add-t-2
overflow_add-t-2 c =
    let r = c.requires in
    omega (arith, bytes-before c.args.self.now.scheme _ _ _ r.blocks r.row c.from-z.ensures, block_most c.args.self.now.scheme _ _ _ r.blocks r.row c.from-z.ensures, (r.place (from (goal.at.overflow_add-t-2 c).Else-e-z)).0)

pub returns : goal.returns
unfolding column
returns c =
    let there = c.args.self.now.ends in
    let place = c.requires.place (from (goal.at.returns c).Else-e-z) in
    rw (← place.1, ← c.from-z.ensures, le-ltb c.args.e c.from-z.result c.if-e-z.false)
    (c.mark.ensures _ _ there.length_is there.inside place.0 (rw c.requires.long at c.gather_into-2.ensures))
