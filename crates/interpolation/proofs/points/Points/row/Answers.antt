-- By `divisors` (proofs/Divisors.antt) the value is not 0, so that there is an inverse.
use Rattle.std.proofs.Common.{◌≡◌, ◌≢◌, ℕ, ◌+◌, ◌-◌, Option, Some, None, IsSome, arith, refl, sym, ap, ◌∙◌}
use Rattle.lists.specs.Each.{Each, Byte}
use Rattle.lists.proofs.Each.{each_of}
use Rattle.gf256.specs.Byte.{◌⊕◌}
use Rattle.interpolation.specs.Polynomial.{lowest}
use Rattle.interpolation.specs.Interpolation.{side}
use Rattle.interpolation.proofs.Row.{divided_none, divided_more, divided_invertible, divided_row}
use Rattle.interpolation.proofs.points.Points.row.Goals as goal

some : (answer : Option ℕ) → answer ≢ None → IsSome answer
some (Some x) other = refl
some None other = absurd (other refl)

pub loop-e-init : goal.loop-e-init
loop-e-init c = divided_none _ _ c.requires.0 c.args.self.now.few

pub loop-e-preserved : goal.loop-e-preserved
unfolding ◌⊕◌
loop-e-preserved c =
    let r = c.requires in
    let next : c.loop-e.e - 1 + 1 ≡ c.loop-e.e = omega arith in
    rw next
    (divided_more _ _ r.0 c.args.self.now.few (c.loop-e.e - 1) c.loop-e.e _ _ _ _ _ _ (omega arith) c.args.self.now.over_all c.loop-e.invariant c.mul_by_shifting.ensures c.mul_by_shifting-in-loop-e.ensures)

pub unwrap-factor-requires : goal.unwrap-factor-requires
unwrap-factor-requires c =
    let r = c.requires in
    let bytes : Each Byte c.args.self.now.all.now = each_of Byte c.args.self.now.all.now 0 (λ k b. c.args.self.now.bytes k) in
    some _ (rw c.inverse.ensures (divided_invertible _ _ r.0 c.args.self.now.few r.1 bytes c.loop-e-test.false c.loop-e.invariant))

pub returns : goal.returns
returns c =
    let r = c.requires in
    let bytes : Each Byte c.args.self.now.all.now = each_of Byte c.args.self.now.all.now 0 (λ k b. c.args.self.now.bytes k) in
    c.lowest.ensures ∙ ap (lowest side) c.scale_each.ensures
    ∙ divided_row _ _ r.0 c.args.self.now.few r.1 bytes c.loop-e-test.false c.loop-e.invariant _ (sym c.inverse.ensures ∙ c.unwrap-factor.ensures)
