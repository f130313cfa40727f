use Rattle.std.proofs.Common.{sym, ◌∙◌, arith}
use Rattle.reader.proofs.Lending.{few, test-first, test_fails, test_passes}
use Rattle.reader.proofs.lent.Lent.agree.Goals as goal

pub lent_count-first-requires : goal.lent_count-first-requires
lent_count-first-requires c = rw c.fewest_readers.ensures (few c.args.self.now.lending)

pub loop-a-init : goal.loop-a-init
loop-a-init c = test-first c.args.self.now.lending c.lent_count-first.result (rw c.fewest_readers.ensures at c.lent_count-first.ensures)

pub returns-then-not-same_share-clause-tested : goal.returns-then-not-same_share-clause-tested
returns-then-not-same_share-clause-tested c =
    sym (test_fails c.args.self.now.lending c.loop-a.a c.loop-a-test.true (sym c.same_share.ensures ∙ c.if-not-same_share.true))

pub returns-clause-tested : goal.returns-clause-tested
returns-clause-tested c = sym (test_passes c.args.self.now.lending (λ k h. c.loop-a.invariant k (omega (arith, h))))
