use Rattle.std.proofs.Common.{refl, sym, arith}
use lib.Seq.{length-take-le}
use Rattle.reader.proofs.Lending.{few, share_short, bytes_fit, bytes_few, read, input}
use Rattle.reader.proofs.lent.Lent.first_shares.Goals as goal

pub lent_count-requires : goal.lent_count-requires
lent_count-requires c = rw c.fewest_readers-d.ensures (few c.args.self.now.lending)

pub overflow_mul-end : goal.overflow_mul-end
overflow_mul-end c = omega (arith, share_short c.args.self.now.lending)

pub overflow_mul-end-2 : goal.overflow_mul-end-2
overflow_mul-end-2 c = omega (arith, bytes_few c.args.self.now.lending c.lent_count.result (rw c.fewest_readers-d.ensures at c.lent_count.ensures))

pub slice_bounds-result-end : goal.slice_bounds-result-end
slice_bounds-result-end c =
    sym (length-take-le _ c.args.self.now.shares.now (bytes_fit c.args.self.now.lending c.lent_count.result (rw c.fewest_readers-d.ensures at c.lent_count.ensures)))

pub invariant_of-result : goal.invariant_of-result
invariant_of-result c =
    let which = rw c.fewest_readers-d.ensures at c.lent_count.ensures in
    record { input = rw c.fewest_readers-d.ensures (input c.args.self.now.lending c.lent_count.result which) }

pub returns : goal.returns
returns c =
    let which = rw c.fewest_readers-d.ensures at c.lent_count.ensures in
    record {
      scheme_is = refl;
      d_is = c.fewest_readers-d.ensures;
      blocks_are = refl;
      read_are = rw c.fewest_readers-d.ensures (read c.args.self.now.lending c.lent_count.result which);
    }
