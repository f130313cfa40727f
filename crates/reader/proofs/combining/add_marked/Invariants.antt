use Rattle.std.proofs.Common.{◌≡◌}
use Rattle.reader.proofs.Doublings.{marked}
use Rattle.reader.proofs.combining.add_marked.Given as goal

-- the total is the sum with those of the first i columns whose weight has the bit
abbrev pub invariant-loop-i : goal.invariant-loop-i
invariant-loop-i l = l.total ≡ marked l.initial.total l.columns l.weights l.bit l.i
