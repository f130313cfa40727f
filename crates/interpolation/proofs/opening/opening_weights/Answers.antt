use Rattle.std.proofs.Common.{suc, ◌-◌, min, length, arith, refl, ap, ◌∙◌}
use Rattle.interpolation.specs.Interpolation.{side}
use Rattle.interpolation.specs.Opening.{opening_table}
use Rattle.interpolation.proofs.Rows.{zeros, zero-rows, too_many}
use Rattle.interpolation.proofs.OpeningRows.{opening_none, opening_more, opening_last, opening_all}
use Rattle.interpolation.proofs.opening.opening_weights.Goals as goal

pub returns-in_default : goal.returns-in_default
unfolding zeros zero-rows
returns-in_default c =
    let a = c.args in
    opening_all a.points.now a.top (min a.top side) refl (length a.points.now) _ (omega (arith, c.in_default.ensures))
    (opening_none _ _ _ refl _ (too_many _ c.in_default.ensures))

pub returns-then-end-d : goal.returns-then-end-d
returns-then-end-d c =
    opening_all _ _ _ c.min-end.ensures _ _ c.if-end-d.true (opening_none _ _ _ c.min-end.ensures _ c.basis-table.ensures)
    ∙ ap (λ ps. opening_table ps c.args.top) c.in-Some.ensures

pub loop-i-init : goal.loop-i-init
loop-i-init c = (
  omega arith,
  opening_more _ _ _ c.min-end.ensures _ 0 _ _ (omega arith) c.if-end-d.false
      c.first_remainder.ensures
      (opening_none _ _ _ c.min-end.ensures _ c.basis-table.ensures),
)

pub loop-i-preserved : goal.loop-i-preserved
loop-i-preserved c =
    let l = c.loop-i in
    let k = l.i - 1 - length c.in-Some.read.all.now in (
      omega arith,
      opening_more _ _ _ c.min-end.ensures l.i (suc k) _ _ (omega (arith, l.invariant.0)) c.loop-i-test.true
          (c.next_remainder.ensures k
          (opening_last _ _ _ c.min-end.ensures l.i _ k _ (omega arith) (omega arith) (omega arith) l.invariant.1))
          l.invariant.1,
    )

pub returns : goal.returns
returns c = opening_all _ _ _ c.min-end.ensures _ _ c.loop-i-test.false c.loop-i.invariant.1 ∙ ap (λ ps. opening_table ps c.args.top) c.in-Some.ensures
