use Rattle.std.proofs.Common.{◌≡◌, ap, ◌∙◌, ℕ, get_or, min, length, arith}
use Rattle.staircase.specs.Coefficients.{count_of}
use Rattle.rows.proofs.Over.{over_none, over_more, over_all}
use Rattle.rows.proofs.row_origins.Goals as goal
use Rattle.rows.proofs.row_origins.Goals.{After-from-e}

-- d is the row's count
count : (c : After-from-e) → let a = c.args in c.count_at-d.result ≡ count_of a.block a.z a.counts.now a.row
unfolding count_of
count c = c.count_at-d.ensures ∙ ap (λ (i : ℕ). get_or c.args.counts.now i 0) c.group_of-i.ensures

-- and the end no more than that
end_is : (c : After-from-e) → let a = c.args in c.min-end.result ≡ min (count_of a.block a.z a.counts.now a.row) (length a.places.now)
end_is c = c.min-end.ensures ∙ ap (λ (d : ℕ). min d (length c.args.places.now)) (count c)

pub loop-e-init : goal.loop-e-init
loop-e-init c = over_none _ _ _ _ _ _ (end_is (goal.at.loop-e-init c).After-from-e) _ c.from-e.ensures

pub loop-e-preserved : goal.loop-e-preserved
loop-e-preserved c =
    over_more _ _ _ _ _ _ (end_is (goal.at.loop-e-preserved c).After-from-e) c.loop-e.invariant (omega (arith, c.from-e.ensures)) c.loop-e-test.true c.origin.ensures

pub returns : goal.returns
returns c =
    let w = (goal.at.returns c).After-from-e in
    (count w, over_all _ _ _ _ _ _ (end_is w) c.loop-e.invariant c.loop-e-test.false)
