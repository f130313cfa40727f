use Rattle.std.proofs.Common.{ℕ, get_or, refl, sym, ap, ◌∙◌, arith}
use lib.ListN.{length-replicate, get_or-replicate}
use Rattle.lists.proofs.Arrays.{array_byte}
use Rattle.lists.proofs.Table.{tabulate_is, tabulate-same}
use Rattle.gf256.specs.Byte.{◌⊗◌}
use Rattle.gf256.specs.Lanes.{lanes, scaled}
use Rattle.gf256.proofs.Laws.{⊗-byte, ⊗_comm, zero-⊗}
use Rattle.gf256.proofs.Shifting.{doubling, doubled}
use Rattle.gf256.proofs.lanes.scale_each.Goals as goal

pub returns-then-by-eq0 : goal.returns-then-by-eq0
unfolding scaled
returns-then-by-eq0 c =
    tabulate_is _ lanes _ 0 (length-replicate {A = ℕ} lanes 0)
    (λ i h. get_or-replicate {A = ℕ} lanes i 0 0 h ∙ sym (ap (λ b. b ⊗ get_or c.args.x i 0) c.if-by-eq0.true ∙ zero-⊗ _))

pub loop-left-init : goal.loop-left-init
loop-left-init c = (omega arith, λ i h. (array_byte lanes c.args.x _ c.well_formed.0 i, refl))

pub loop-left-smaller : goal.loop-left-smaller
loop-left-smaller c = omega arith

pub loop-left-preserved : goal.loop-left-preserved
loop-left-preserved c =
    let l = c.loop-left in
    let twice = doubled l.p c.double_each-doubled.result c.double_each-doubled.ensures in (
      omega arith,
      λ i h. (rw (twice i h) (⊗-byte (get_or l.p i 0) 2), doubling _ l.left (l.invariant.1 i h).0 (twice i h) c.loop-left-test.true (l.invariant.1 i h).1),
    )

pub returns : goal.returns
unfolding scaled
returns c =
    let l = c.loop-left in
    c.scale_odd.ensures
    ∙ tabulate-same lanes _ _ (λ i h. ⊗_comm l.left (get_or l.p i 0) ∙ (l.invariant.1 i h).1 ∙ ⊗_comm (get_or c.args.x i 0) c.args.by)
