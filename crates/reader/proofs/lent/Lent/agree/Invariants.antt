use Rattle.std.proofs.Common.{◌≡◌, ℕ, ◌<◌, true}
use Rattle.reader.specs.Lent.{same_by}
use Rattle.reader.proofs.lent.Lent.agree.Given as goal

-- the shares before place a are the rebuilt ones
abbrev pub invariant-loop-a : goal.invariant-loop-a
invariant-loop-a l = (k : ℕ) → k < l.a → same_by l.self k ≡ true
