use Rattle.std.proofs.Common.{◌≡◌, ℕ, get_or, refl, sym, ap, ◌∙◌, arith}
use Rattle.interpolation.specs.Interpolation.{side}
use Rattle.lists.proofs.Fill.{fill_none, fill_more}
use Rattle.lists.proofs.Skipped.{left_inside}
use Rattle.staircase.specs.Parameters.{point}
use Rattle.reader.proofs.Lending.{points-left}
use Rattle.reader.proofs.agreeing.first_points.Goals as goal

pub loop-i-init : goal.loop-i-init
loop-i-init c = λ p. fill_none _ side _ refl

pub bounds-parties-a : goal.bounds-parties-a
bounds-parties-a c = rw c.place_of-a.ensures (left_inside c.args.parties.now c.args.skip c.loop-i.i (omega (arith, c.requires.1)))

pub loop-i-preserved : goal.loop-i-preserved
loop-i-preserved c =
    λ q. fill_more (c.loop-i.invariant q) (omega (arith, c.requires.0)) (c.point_of.ensures q ∙ ap (λ (x : ℕ). point q (get_or c.args.parties.now x 0)) c.place_of-a.ensures)

pub returns : goal.returns
returns c =
    let l = c.loop-i in
    let whole : l.i ≡ c.args.d = omega arith in
    λ q. rw whole at (l.invariant q).is ∙ sym (points-left q c.args.parties.now c.args.skip c.args.d c.requires.1)
