use Rattle.reader.proofs.Doublings.{BitsAbove}
use Rattle.reader.proofs.combining.combine.Given as goal

-- of the weights, the bits above the next one are in the sum
abbrev pub invariant-loop-bit : goal.invariant-loop-bit
invariant-loop-bit l = BitsAbove l.columns l.chosen l.n l.bit l.sum

abbrev pub decreases-loop-bit : goal.decreases-loop-bit
decreases-loop-bit l = l.bit
