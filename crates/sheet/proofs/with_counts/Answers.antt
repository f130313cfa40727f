-- `with_counts` meets its contract: a count more makes a line more.
use Rattle.std.proofs.Common.{ℕ, add-one}
use lib.Seq.{take-suc}
use Rattle.sheet.specs.Sheet.{count_lines}
use Rattle.sheet.proofs.Written.{adds_none, adds_then}
use Rattle.sheet.proofs.SheetText.{count_lines_more}
use Rattle.sheet.proofs.with_counts.Goals as goal

pub loop-d-init : goal.loop-d-init
unfolding count_lines
loop-d-init c = adds_none _

pub loop-d-preserved : goal.loop-d-preserved
loop-d-preserved c =
    rw (add-one, take-suc {A = ℕ} _ _ 0 c.loop-d-test.true, count_lines_more) (adds_then c.loop-d.invariant c.with_count-text.ensures)
