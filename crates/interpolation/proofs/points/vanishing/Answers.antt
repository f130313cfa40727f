use Rattle.std.proofs.Common.{◌≡◌, ◌-◌, arith, ap, ◌∙◌}
use Rattle.interpolation.proofs.Table.{product_from, product_none, product_degree, product_more}
use Rattle.interpolation.proofs.points.vanishing.Goals as goal

pub loop-j-init : goal.loop-j-init
loop-j-init c = product_none c.args.points.now

pub times_linear-longer-requires : goal.times_linear-longer-requires
times_linear-longer-requires c =
    (omega arith, product_degree _ c.requires _ c.loop-j.j _ (omega arith) c.loop-j.auto.j c.loop-j.invariant)

pub loop-j-preserved : goal.loop-j-preserved
loop-j-preserved c =
    product_more _ c.requires (c.loop-j.j - 1) c.loop-j.j _ _ (omega arith) c.loop-j.auto.j c.loop-j.invariant c.times_linear-longer.ensures

pub returns : goal.returns
returns c =
    let none : c.loop-j.j ≡ 0 = omega arith in
    c.loop-j.invariant ∙ ap (product_from _) none
