use Rattle.std.proofs.Common.{eq-eqb, ne_eqb}
use Rattle.agreement.specs.Rebuild.{wanted_refused}
use Rattle.reader.proofs.rebuilding.wanted_refused.Goals as goal

pub returns-then-party-eq0 : goal.returns-then-party-eq0
unfolding wanted_refused
returns-then-party-eq0 c = rw (eq-eqb _ _ c.if-party-eq0.true)

pub returns-else-party-eq0 : goal.returns-else-party-eq0
unfolding wanted_refused
returns-else-party-eq0 c = rw (ne_eqb _ _ c.if-party-eq0.false)
