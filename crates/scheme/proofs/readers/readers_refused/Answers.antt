use Rattle.std.proofs.Common.{sym, ◌∙◌}
use Rattle.scheme.proofs.Parties.{refused-start, refused_end, refused_low, refused_high, refused-next}
use Rattle.scheme.proofs.readers.readers_refused.Goals as goal
use Rattle.scheme.proofs.readers.readers_refused.Goals.{then-party-below-via-then-party-below, then-party-below-via-else-party-below+then-n-party}

pub loop-party-init : goal.loop-party-init
loop-party-init c = refused-start _ _

pub returns-then-party-below : goal.returns-then-party-below
returns-then-party-below c =
    elim c.then-party-below.branch [
      | then-party-below-via-then-party-below w ↦ sym (c.loop-party.invariant ∙ refused_low _ _ _ _ c.loop-party-test.true w.if-party-below.true)
      | then-party-below-via-else-party-below+then-n-party w ↦ sym (c.loop-party.invariant ∙ refused_high _ _ _ _ c.loop-party-test.true w.if-n-party.true)
    ]

pub loop-party-preserved : goal.loop-party-preserved
loop-party-preserved c =
    c.loop-party.invariant ∙ refused-next _ _ _ _ c.loop-party-test.true c.if-party-below.false c.if-n-party.false

pub returns : goal.returns
returns c = sym (c.loop-party.invariant ∙ refused_end _ _ _ _ c.loop-party-test.false)
