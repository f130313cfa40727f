-- All 256 bytes are tested by computing.
use Rattle.std.proofs.Common.{ℕ, ◌*◌, ◌/◌, ◌%◌, rules}
use lib.Dec.{eqb, eqb→eq}
use Rattle.lists.proofs.Computed.{holds}
use Rattle.gf256.specs.Byte.{◌⊕◌, product, cut, reduce, ◌⊗◌}
use Rattle.gf256.proofs.double.Goals as goal

-- what the code works out
abbrev twice : ℕ → ℕ
twice x = (x / 128 * 0x1b) ⊕ (x % 128 * 2)

pub returns : goal.returns
unfolding ◌⊗◌ product reduce ◌⊕◌ cut
returns c = let x = c.args.x in eqb→eq (twice x) (x ⊗ 2) (holds 256 (λ y. eqb (twice y) (y ⊗ 2)) tt x (search rules))
