use Rattle.std.proofs.Common.{ℕ, ◌+◌, ◌-◌, ◌/◌, ap, sym, arith, ◌∙◌}
use native.Mathlib.Nat.{div-zero}
use Rattle.lists.proofs.Numbers.{round_up_whole, round_up_part}
use Rattle.scheme.specs.Check.{block_count}
use Rattle.scheme.proofs.block_count.Goals as goal

pub returns-then-block-eq0 : goal.returns-then-block-eq0
unfolding block_count
returns-then-block-eq0 c = sym (ap (λ (x : ℕ). (c.args.bytes + (x - 1)) / x) c.if-block-eq0.true ∙ div-zero _)

pub returns-then-bytes-block-eq0 : goal.returns-then-bytes-block-eq0
unfolding block_count
returns-then-bytes-block-eq0 c = sym (round_up_whole c.args.bytes c.args.block (omega arith) c.if-bytes-block-eq0.true)

pub returns : goal.returns
unfolding block_count
returns c = sym (round_up_part c.args.bytes c.args.block (omega arith) c.if-bytes-block-eq0.false)
