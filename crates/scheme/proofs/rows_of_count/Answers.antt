use Rattle.std.proofs.Common.{rules, ◌≡◌, ◌-◌, ◌/◌, ap, sym, arith, ◌∙◌}
use native.Mathlib.Nat.{div-zero}
use Rattle.scheme.specs.Check.{rows_of_count}
use Rattle.scheme.proofs.rows_of_count.Goals as goal

pub returns-then-d-low : goal.returns-then-d-low
unfolding rows_of_count
returns-then-d-low c =
    let e : c.args.d - c.args.z ≡ 0 = omega arith in
    sym (ap (λ (x : _). c.args.block / x) e ∙ div-zero c.args.block)

pub returns : goal.returns
unfolding rows_of_count
returns c = search rules
