use Rattle.std.proofs.Common.{arith, refl, sym, ap₂, ◌∙◌}
use native.Mathlib.Numerals.{add-one}
use lib.Seq.{get_or-take}
use Rattle.lists.proofs.Known.{known_more, known-all}
use Rattle.gf256.specs.Byte.{◌⊕◌}
use Rattle.gf256.proofs.Laws.{⊗_comm}
use Rattle.interpolation.specs.Interpolation.{side}
use Rattle.interpolation.proofs.Remainders.{raised_at}
use Rattle.interpolation.proofs.OpeningRows.{taken_none, taken-zero, next_row}
use Rattle.interpolation.proofs.points.Points.next_remainder.Goals as goal

pub returns-then-d-eq0 : goal.returns-then-d-eq0
returns-then-d-eq0 c = λ k q. taken-zero side _ _ c.if-d-eq0.true ∙ next_row _ _ c.args.self.now.few c.args.self.now.over_all k _ q

pub loop-e-init : goal.loop-e-init
loop-e-init c = (taken_none side _ _, refl)

pub loop-e-preserved : goal.loop-e-preserved
unfolding ◌⊕◌
loop-e-preserved c = (
  known_more c.loop-e.invariant.0 (omega arith)
      (ap₂ ◌⊕◌ c.loop-e.invariant.1 (c.mul_by_shifting.ensures ∙ ⊗_comm _ _)
      ∙ sym (get_or-take _ _ c.loop-e.e 0 c.loop-e-test.true ∙ raised_at _ _ _ c.loop-e.e))
      (λ k b n j. b (omega arith)),
  rw add-one,
)

pub returns : goal.returns
returns c = λ k q. known-all c.loop-e.invariant.0 (λ k l j. omega arith) ∙ next_row _ _ c.args.self.now.few c.args.self.now.over_all k _ q
