-- The table's rule at the entry.
use Rattle.std.proofs.Common.{rules, ◌<◌, ◌≡◌, get_or, ◌∙◌, ap}
use Rattle.gf256.specs.Byte.{power}
use Rattle.gf256.proofs.Powers.{logarithms, logarithm_lt, power_of_logarithm}
use Rattle.gf256.proofs.logarithm.Goals as goal

pub returns : goal.returns
unfolding logarithms
returns c =
    let is : c.from-2.result ≡ get_or logarithms c.args.a 0 = rw c.from.ensures at c.from-2.ensures in
    let small : c.args.a < 256 = search rules in
    (rw is (logarithm_lt c.args.a small), λ p. ap (power 3) is ∙ power_of_logarithm c.args.a p small)
