use Rattle.std.proofs.Common.{sym, arith}
use lib.Seq.{length-take-le}
use Rattle.reader.proofs.Lending.{few, counts_some}
use Rattle.reader.proofs.lent.Lent.weights.Goals as goal

pub first_points-points-requires : goal.first_points-points-requires
first_points-points-requires c =
    let L = c.args.self.now.lending in
    rw c.fewest_readers-d.ensures (few L, L.many)

pub slice_bounds-points-end : goal.slice_bounds-points-end
slice_bounds-points-end c =
    omega (arith, few c.args.self.now.lending)

pub slice_bounds-opening_weights-end : goal.slice_bounds-opening_weights-end
slice_bounds-opening_weights-end c =
    sym (length-take-le _ c.first_points-points.result (omega (arith, few c.args.self.now.lending)))

pub bounds-self-0 : goal.bounds-self-0
bounds-self-0 c = counts_some c.args.self.now.lending
