-- Each entry of the table but that of 0, which is not read, is the inverse.
use Rattle.std.proofs.Common.{◌≡◌, rules, arith, sym, ap, ◌∙◌}
use Rattle.gf256.specs.Byte as byte
use Rattle.gf256.proofs.Inverses.{inverses, inverse-zero, entry}
use Rattle.gf256.proofs.inverse.Goals as goal

pub returns-then-a-eq0 : goal.returns-then-a-eq0
returns-then-a-eq0 c = let none : c.args.a ≡ 0 = omega arith in sym (ap byte.inverse none ∙ inverse-zero)

pub returns : goal.returns
unfolding inverses
returns c = rw c.from.ensures (sym (entry c.args.a (omega arith) (search rules)))
