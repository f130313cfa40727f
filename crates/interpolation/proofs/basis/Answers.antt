use Rattle.std.proofs.Common.{ap, ◌∙◌}
use Rattle.interpolation.specs.Interpolation.{basis_table}
use Rattle.interpolation.proofs.Rows.{zeros, zero-rows, too_many}
use Rattle.interpolation.proofs.basis.Goals as goal

pub returns-in_default : goal.returns-in_default
unfolding zeros zero-rows
returns-in_default c = too_many _ c.in_default.ensures

pub returns : goal.returns
returns c = c.basis.ensures ∙ ap basis_table c.in-Some.ensures
