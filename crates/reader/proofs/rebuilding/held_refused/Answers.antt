use Rattle.std.proofs.Common.{eq-eqb, ne_eqb}
use Rattle.agreement.specs.Rebuild.{held_refused}
use Rattle.reader.proofs.rebuilding.held_refused.Goals as goal

pub returns-then-held-ne0 : goal.returns-then-held-ne0
unfolding held_refused
returns-then-held-ne0 c = rw (ne_eqb _ _ c.if-held-ne0.true)

pub returns-else-held-ne0 : goal.returns-else-held-ne0
unfolding held_refused
returns-else-held-ne0 c = rw (eq-eqb _ _ c.if-held-ne0.false)
