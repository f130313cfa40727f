use Rattle.gf256.proofs.Powers.{powers, power-entry}
use Rattle.gf256.proofs.power_of_three.Goals as goal

pub returns : goal.returns
unfolding powers
returns c = power-entry c.args.i c.requires
