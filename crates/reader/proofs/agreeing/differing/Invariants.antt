use Rattle.std.proofs.Common.{◌≡◌, ◌+◌, ◌≤◌, length, drop}
use Rattle.lists.specs.Differing.{differing}
use Rattle.reader.proofs.agreeing.differing.Given as goal

-- what is counted and what differs after the pairs so far are all that differs
abbrev pub invariant-loop-x : goal.invariant-loop-x
invariant-loop-x l =
    (l.count ≤ length l.yielded)
    × (l.count + differing (drop (length l.yielded) l.a) (drop (length l.yielded) l.b) ≡ differing l.a l.b)
