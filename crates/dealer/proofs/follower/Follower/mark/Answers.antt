-- `dealer::follower::Follower::mark` meets its contract: where a test fails the byte does not stand in the column, and past all of them it is put where it does.
-- Assumes nothing.
use Rattle.std.proofs.Common.{◌-◌, set, ap, ◌∙◌, arith}
use mathlib.Core.Logic.{⊎_elim}
use Rattle.dealer.proofs.Followed.{not_in_column, in-column}
use Rattle.dealer.proofs.follower.Follower.mark.Goals as goal

pub returns-then-place-self : goal.returns-then-place-self
returns-then-place-self c bytes m long inside in_block e =
    e ∙ not_in_column _ _ _ _ _ bytes m long inside in_block (λ k h t-is. ⊎_elim (λ other. other) (λ before _. omega (arith, before.1)) c.then-place-self.either)

pub returns-then-k-lt-LANES : goal.returns-then-k-lt-LANES
returns-then-k-lt-LANES c bytes m long inside in_block e =
    let a = c.args in
    ap (λ l. set l (a.self.block - a.t) a.self.byte) e
    ∙ in-column _ _ _ _ _ bytes m long inside in_block (a.self.block - a.t) c.if-k-lt-LANES.true (omega arith) c.if-place-self.false

pub returns-else-k-lt-LANES : goal.returns-else-k-lt-LANES
returns-else-k-lt-LANES c bytes m long inside in_block e =
    e ∙ not_in_column _ _ _ _ _ bytes m long inside in_block (λ k h t-is _. omega (arith, c.if-k-lt-LANES.false))
