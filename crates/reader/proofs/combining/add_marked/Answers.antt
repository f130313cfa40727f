use Rattle.lists.proofs.Arrays.{array_length}
use Rattle.gf256.specs.Lanes.{lanes}
use Rattle.reader.proofs.Doublings.{marked_none, marked_more, marked-same}
use Rattle.reader.proofs.combining.add_marked.Goals as goal
use Rattle.reader.proofs.combining.add_marked.Goals.{then-weights-i-eq1, else-weights-i-eq1}

pub loop-i-init : goal.loop-i-init
loop-i-init c = marked_none c.args.sum c.args.columns.now c.args.weights.now c.args.bit (array_length lanes c.args.sum _ c.well_formed.0)

pub loop-i-preserved : goal.loop-i-preserved
loop-i-preserved c =
    let l = c.loop-i in
    let a = c.args in
    elim c.if-weights-i-eq1.branch [
      | then-weights-i-eq1 w ↦ marked_more a.sum a.columns.now a.weights.now a.bit l.i l.invariant w.if-weights-i-eq1.true w.column.ensures w.sum_each-more.ensures w.total-is
      | else-weights-i-eq1 w ↦ marked-same a.sum a.columns.now a.weights.now a.bit l.i l.invariant w.if-weights-i-eq1.false w.total-is
    ]
