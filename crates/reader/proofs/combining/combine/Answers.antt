use Rattle.std.proofs.Common.{refl, arith}
use Rattle.reader.proofs.Doublings.{bits_first, bits_more, bits_all}
use Rattle.reader.proofs.combining.combine.Goals as goal

pub loop-bit-init : goal.loop-bit-init
loop-bit-init c =
    bits_first c.args.columns.now c.choose.new.chosen c.args.n (λ i. (c.type_inv.columns i).fits) 8 (omega arith) refl c.choose.ensures.bytes
    c.add_marked-sum.ensures

pub loop-bit-preserved : goal.loop-bit-preserved
loop-bit-preserved c =
    let l = c.loop-bit in
    bits_more c.args.columns.now c.choose.new.chosen c.args.n (λ i. (c.type_inv.columns i).fits) c.loop-bit-test.true l.invariant
    c.double_each-twice.ensures c.add_marked-more.ensures

pub returns : goal.returns
returns c =
    let l = c.loop-bit in
    bits_all c.args.columns.now c.choose.new.chosen c.args.n c.args.weights.now c.args.e c.choose.ensures.chosen (omega arith) l.invariant
