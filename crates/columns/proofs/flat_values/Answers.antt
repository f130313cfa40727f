use Rattle.std.proofs.Common.{ap, ◌∙◌, arith}
use Rattle.lists.specs.Table.{tabulate}
use Rattle.gf256.specs.Lanes.{lanes}
use Rattle.interpolation.specs.RowValue.{next_each}
use Rattle.columns.proofs.FlatColumns.{flat_none, flat-next, flat-top}
use Rattle.columns.proofs.flat_values.Goals as goal

pub returns-then-top-eq0 : goal.returns-then-top-eq0
returns-then-top-eq0 c = c.new.ensures.1 ∙ flat_none c.args.point c.args.d c.args.columns.now _ c.min-top.ensures c.if-top-eq0.true

pub loop-e-init : goal.loop-e-init
loop-e-init c =
    let a = c.args in
    record {
      point = c.starting-value.ensures.0;
      values =
          c.starting-value.ensures.1
          ∙ ap (next_each a.point (tabulate lanes (λ k. 0))) c.flat_column.ensures
          ∙ flat-top a.point a.d a.columns.now c.min-top.result (omega arith) c.min-top.ensures;
    }

pub loop-e-preserved : goal.loop-e-preserved
loop-e-preserved c =
    let a = c.args in
    let l = c.loop-e in
    record {
      point = c.next-value.ensures.0 ∙ l.invariant.point;
      values =
          c.next-value.ensures.1
          ∙ rw (l.invariant.point, l.invariant.values, c.flat_column-in-loop-e.ensures)
          (flat-next a.point a.d a.columns.now l.e c.loop-e-test.true (omega (arith, c.min-top.ensures)));
    }
