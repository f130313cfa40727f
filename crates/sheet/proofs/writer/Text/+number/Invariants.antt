-- The measure is the number.
use Rattle.sheet.proofs.writer.Text.+number.Given as goal

abbrev pub decreases-number : goal.decreases-number
decreases-number l = l.x
