use Rattle.std.proofs.Common.{arith, ◌∙◌}
use Rattle.columns.proofs.FlatColumns.{flat_gathered, flat_past}
use Rattle.columns.proofs.column.Goals as goal

pub returns-then-e-whole-2 : goal.returns-then-e-whole-2
returns-then-e-whole-2 c = c.gather_into.ensures ∙ flat_gathered c.args.columns.now c.args.e

pub returns-else-e-whole-2 : goal.returns-else-e-whole-2
returns-else-e-whole-2 c = flat_past c.args.columns.now c.args.e (omega arith)
