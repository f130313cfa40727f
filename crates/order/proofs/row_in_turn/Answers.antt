use Rattle.std.proofs.Common.{◌≡◌, sym, ◌∙◌, arith, rules}
use Rattle.order.proofs.ReadingOrder.{turn_none, code_here, code_past}
use Rattle.order.proofs.row_in_turn.Goals as goal

pub returns-then-left-many : goal.returns-then-left-many
returns-then-left-many c =
    sym (code_here _ _ _ _ _ _ _ c.loop-g-test.true c.rows_before-from.ensures c.loop-g.invariant.end c.saturating_sub-many.ensures _ c.if-left-many.true)
    ∙ c.loop-g.invariant.row

pub loop-g-preserved : goal.loop-g-preserved
loop-g-preserved c = record {
  end = c.rows_before-from.ensures;
  end_fits = search rules;
  row =
      sym (code_past _ _ _ _ _ _ _ c.loop-g-test.true c.rows_before-from.ensures c.loop-g.invariant.end c.saturating_sub-many.ensures _ c.if-left-many.false)
      ∙ c.loop-g.invariant.row;
}

pub returns : goal.returns
returns c =
    let a = c.args in
    let none : c.loop-g.g ≡ 0 = omega arith in
    sym (turn_none a.block a.z a.counts.now c.loop-g.left) ∙ rw none at c.loop-g.invariant.row
