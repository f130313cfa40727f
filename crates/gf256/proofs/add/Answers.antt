use Rattle.std.proofs.Common.{refl}
use Rattle.gf256.specs.Byte.{◌⊕◌}
use Rattle.gf256.proofs.add.Goals as goal

pub returns : goal.returns
unfolding ◌⊕◌
returns c = refl
