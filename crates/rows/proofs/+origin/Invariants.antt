-- The measure is the row, which falls with each call.
use Rattle.rows.proofs.+origin.Given as goal

abbrev pub decreases-origin : goal.decreases-origin
decreases-origin l = l.row
