-- A product by shifting, one turn: the lowest binary digit of the factor n goes into the sum s, and x is doubled.
-- Assumes nothing.
use mathlib.Core.Path.{◌≡◌, refl, sym, ap, ap₂, ◌∙◌}
use mathlib.Core.List.{List}
use Prim.Native.Nat.{ℕ, ◌*◌, ◌/◌, ◌%◌, ◌<◌}
use native.Mathlib.Nat as N
use native.Mathlib.Omega.{arith}
use lib.ListN.{get_or}
use Rattle.lists.proofs.Table.{get_or-tabulate}
use Rattle.gf256.specs.Byte.{◌⊕◌, ◌⊗◌}
use Rattle.gf256.specs.Lanes.{lanes, scaled}
use Rattle.gf256.proofs.Laws.{⊗-zero, ⊕-zero, zero-⊕, ⊕_assoc, ⊗_comm, ⊗_by_digit}

-- t is the sum after the digit: with x where the digit is 1, else as it was
pub odd : (s x n : ℕ) {t : ℕ} → n % 2 ≡ 1 → t ≡ s ⊕ x → t ≡ s ⊕ (x * (n % 2))
odd s x n q e = e ∙ ap (◌⊕◌ s) (sym (ap (λ d. x * d) q ∙ N.mul-one x))

pub even : (s x n : ℕ) {t : ℕ} → (n % 2 ≡ 1 → ⊥) → t ≡ s → t ≡ s ⊕ (x * (n % 2))
even s x n f e = e ∙ sym (ap (◌⊕◌ s) (ap (λ d. x * d) zero_digit ∙ N.mul-zero x) ∙ ⊕-zero s)
  where
    zero_digit : n % 2 ≡ 0
    zero_digit = omega arith

-- what is still to be made, p, stays the same
pub turn : (s x n : ℕ) {t r p : ℕ} → x < 256 → r ≡ x ⊗ 2 → t ≡ s ⊕ (x * (n % 2)) → s ⊕ x ⊗ n ≡ p → t ⊕ r ⊗ (n / 2) ≡ p
turn s x n h er et e =
    ap₂ (λ u v. u ⊕ v ⊗ (n / 2)) et er ∙ ⊕_assoc s (x * (n % 2)) ((x ⊗ 2) ⊗ (n / 2)) ∙ ap (◌⊕◌ s) (sym (⊗_by_digit x n h)) ∙ e

-- where the digit is 0, x is only doubled
pub doubling : (x n : ℕ) {r p : ℕ} → x < 256 → r ≡ x ⊗ 2 → n % 2 ≡ 0 → x ⊗ n ≡ p → r ⊗ (n / 2) ≡ p
doubling x n {r} h er z e = sym (zero-⊕ (r ⊗ (n / 2))) ∙ turn 0 x n h er (even 0 x n (omega arith) refl) (zero-⊕ (x ⊗ n) ∙ e)

-- where it is 1, the sum can start at x
pub starting : (x n : ℕ) → x < 256 → n % 2 ≡ 1 → x ⊕ (x ⊗ 2) ⊗ (n / 2) ≡ x ⊗ n
starting x n h q = turn 0 x n h refl (odd 0 x n q (sym (zero-⊕ x))) (zero-⊕ (x ⊗ n))

-- at the end nothing is left
pub done : (s x n : ℕ) {p : ℕ} → n ≡ 0 → s ⊕ x ⊗ n ≡ p → s ≡ p
done s x n z e = sym (ap (◌⊕◌ s) (ap (◌⊗◌ x) z ∙ ⊗-zero x) ∙ ⊕-zero s) ∙ e

-- 64 bytes, each doubled
pub doubled : (p q : List ℕ) → q ≡ scaled 2 p → (i : ℕ) → i < lanes → get_or q i 0 ≡ get_or p i 0 ⊗ 2
unfolding scaled
doubled p q e i l = ap (λ x. get_or x i 0) e ∙ get_or-tabulate lanes _ i 0 l ∙ ⊗_comm 2 _
