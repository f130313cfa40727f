use Rattle.std.proofs.Common.{arith, sym, ◌≡◌, length, rules}
use Rattle.scheme.proofs.Counts.{counts_none, counts_many, counts_rise, counts_fall}
use Rattle.scheme.proofs.counts_refused.Goals as goal
use Rattle.scheme.proofs.counts_refused.Goals.{then-is_empty-via-then-is_empty, then-is_empty-via-else-is_empty+then-counts-gt-MAX_COUNTS}

pub returns-then-is_empty : goal.returns-then-is_empty
returns-then-is_empty c =
    elim c.then-is_empty.branch [
      | then-is_empty-via-then-is_empty w ↦ sym (counts_none c.args.n c.args.r c.args.counts.now (search rules))
      | then-is_empty-via-else-is_empty+then-counts-gt-MAX_COUNTS w ↦ sym (counts_many c.args.n c.args.r c.args.counts.now w.if-counts-gt-MAX_COUNTS.true)
    ]

pub returns-then-above-d : goal.returns-then-above-d
returns-then-above-d c = sym (counts_rise c.args.n c.args.r c.args.counts.now c.loop-count.count-index c.loop-count-test.true (omega arith))

pub returns : goal.returns
returns c =
    let e : c.loop-count.count-index ≡ length c.args.counts.now = omega arith in
    let fall = counts_fall c.args.n c.args.r c.args.counts.now (search rules) (omega arith) (rw e at c.loop-count.invariant.falling) in
    cc fall
