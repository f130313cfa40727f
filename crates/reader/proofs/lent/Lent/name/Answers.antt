use Rattle.std.proofs.Common.{ℕ, ap, arith}
use Rattle.lists.specs.FirstFrom.{first_from}
use Rattle.staircase.specs.Parameters.{parameters_of}
use Rattle.agreement.specs.Agreement.{agrees_without}
use Rattle.reader.proofs.Lending.{few, named_few, lending_without, named_here, named-next, named_none}
use Rattle.reader.proofs.lent.Lent.name.Goals as goal

pub overflow_add-fewest_readers : goal.overflow_add-fewest_readers
overflow_add-fewest_readers c = omega (arith, few c.args.self.now.lending)

pub returns-then-self-fewest_readers : goal.returns-then-self-fewest_readers
returns-then-self-fewest_readers c = named_few c.args.self.now.lending (omega arith)

pub loop-i-init : goal.loop-i-init
loop-i-init c =
    let l = c.args.self.now in
    ap (λ (n : ℕ). first_from (agrees_without (parameters_of l.scheme) l.parties.now l.blocks l.shares.now) n 0) (omega arith)

pub invariant_of-others : goal.invariant_of-others
invariant_of-others c =
    record { lending = lending_without c.args.self.now.lending (omega arith) c.loop-i.i c.loop-i-test.true }

pub returns-then-agree : goal.returns-then-agree
returns-then-agree c =
    named_here c.args.self.now.lending c.loop-i.i c.loop-i.invariant (omega arith) c.loop-i-test.true c.agree.result c.agree.ensures.tested c.if-agree.true

pub loop-i-preserved : goal.loop-i-preserved
loop-i-preserved c =
    named-next c.args.self.now.lending c.loop-i.i c.loop-i.invariant c.loop-i-test.true c.agree.result c.agree.ensures.tested c.if-agree.false

pub returns : goal.returns
returns c = named_none c.args.self.now.lending c.loop-i.i c.loop-i.invariant (omega arith) c.loop-i-test.false
