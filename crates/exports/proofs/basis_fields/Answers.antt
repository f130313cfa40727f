-- `basis_fields`: the number of the first refusal, and the table row after row.
-- Assumes nothing.
use mathlib.Core.Path.{ap, ◌∙◌}
use lib.ListN.{get_or}
use Rattle.scheme.specs.Outcome.{Outcome}
use Rattle.reader.proofs.Laws.{basis-number}
use Rattle.exports.specs.Fields.{flattened}
use Rattle.exports.proofs.basis_fields.Goals as goal

pub returns : goal.returns
returns c = (
  ap (λ fs. get_or fs 0 0) c.from-size.ensures ∙ ap (λ (o : Outcome). o.number) c.basis_size.ensures ∙ basis-number _ _,
  c.in_one_row.ensures ∙ ap flattened c.basis.ensures,
)
