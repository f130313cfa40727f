use Rattle.std.proofs.Common.{arith, sym, ◌∙◌}
use Rattle.scheme.proofs.Refusals.{parties_low, parties_high, parties_pass, none_colludes, no_room, thresholds_pass}
use Rattle.scheme.proofs.tested.Goals as goal
use Rattle.scheme.proofs.tested.Goals.{then-n-lt2-via-then-n-lt2, then-n-lt2-via-else-n-lt2+then-n-gt-MAX_PARTIES, then-z-eq0-via-then-z-eq0, then-z-eq0-via-else-z-eq0+then-parties-lost}

pub returns-then-n-lt2 : goal.returns-then-n-lt2
returns-then-n-lt2 c =
    elim c.then-n-lt2.branch [
      | then-n-lt2-via-then-n-lt2 w ↦ rw (parties_low _ w.if-n-lt2.true)
      | then-n-lt2-via-else-n-lt2+then-n-gt-MAX_PARTIES w ↦ rw (parties_high _ w.if-n-gt-MAX_PARTIES.true)
    ]

pub returns-then-z-eq0 : goal.returns-then-z-eq0
returns-then-z-eq0 c =
    let p = parties_pass c.args.given.n c.if-n-lt2.false c.if-n-gt-MAX_PARTIES.false in
    elim c.then-z-eq0.branch [
      | then-z-eq0-via-then-z-eq0 w ↦ rw (p, none_colludes c.args.given.n c.args.given.r c.args.given.z w.if-z-eq0.true)
      | then-z-eq0-via-else-z-eq0+then-parties-lost w ↦ rw (p, no_room c.args.given.n c.args.given.r c.args.given.z (omega arith))
    ]

pub returns-then-counts_refused : goal.returns-then-counts_refused
returns-then-counts_refused c =
    let p = parties_pass c.args.given.n c.if-n-lt2.false c.if-n-gt-MAX_PARTIES.false in
    let t = thresholds_pass c.args.given.n c.args.given.r c.args.given.z (omega arith) (omega arith) in
    rw (p, t, sym c.counts_refused.ensures ∙ c.if-counts_refused.true)

pub returns : goal.returns
returns c =
    let p = parties_pass c.args.given.n c.if-n-lt2.false c.if-n-gt-MAX_PARTIES.false in
    let t = thresholds_pass c.args.given.n c.args.given.r c.args.given.z (omega arith) (omega arith) in
    rw (p, t, sym c.counts_refused.ensures ∙ c.if-counts_refused.false)
