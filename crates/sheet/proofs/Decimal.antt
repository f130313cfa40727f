-- A number in decimal: its digits but the last are those of its tenth, and a number below 10 to the k has at most k digits.
-- Assumes nothing.
use mathlib.Core.Path.{◌≡◌, sym, ap, ◌∙◌}
use mathlib.Core.List.{[], ◌∷◌, ◌++◌}
use mathlib.Core.Logic.{⊎_elim}
use Prim.Native.Nat.{ℕ, zero, suc, ◌+◌, ◌/◌, ◌%◌, ◌^◌, ◌<◌, ◌≤◌}
use native.Mathlib.Nat.{not-suc-le-zero, div-lt_self, div-lt_iff_lt-mul, pow-suc}
use native.Mathlib.Omega.{arith}
use borrow.Author.Tests.{lt-ltb, le-ltb}
use lib.ListN.{length, length-append}
use Rattle.lists.proofs.Tests.{lt_or_le}
use Rattle.sheet.specs.Sheet.{digits, decimal}

digits_low : (most x : ℕ) → x < 10 → digits (suc most) x ≡ (48 + x) ∷ []
unfolding digits
digits_low most x h = rw (lt-ltb x 10)

digits_high : (most x : ℕ) → 10 ≤ x → digits (suc most) x ≡ digits most (x / 10) ++ ((48 + x % 10) ∷ [])
unfolding digits
digits_high most x h = rw (le-ltb x 10)

-- more room than a number needs makes no difference
digits_same : (k l x : ℕ) → x < k → x < l → digits k x ≡ digits l x
digits_same zero l x h j = absurd (not-suc-le-zero h)
digits_same (suc k) zero x h j = absurd (not-suc-le-zero j)
digits_same (suc k) (suc l) x h j =
    ⊎_elim (λ (low : x < 10). digits_low k x low ∙ sym (digits_low l x low))
    (λ (high : 10 ≤ x).
    let less : x / 10 < x = div-lt_self (omega arith) (omega arith) in
    digits_high k x high
    ∙ ap (λ ds. ds ++ ((48 + x % 10) ∷ [])) (digits_same k l (x / 10) (omega arith) (omega arith))
    ∙ sym (digits_high l x high))
    (lt_or_le x 10)

pub decimal_low : (x : ℕ) → x < 10 → decimal x ≡ (48 + x) ∷ []
unfolding decimal
decimal_low x h = digits_low x x h

pub decimal_high : (x : ℕ) → 10 ≤ x → decimal x ≡ decimal (x / 10) ++ ((48 + x % 10) ∷ [])
unfolding decimal
decimal_high x h =
    let less : x / 10 < x = div-lt_self (omega arith) (omega arith) in
    digits_high x x h ∙ ap (λ ds. ds ++ ((48 + x % 10) ∷ [])) (digits_same x (suc (x / 10)) (x / 10) less (omega arith))

digits_short : (k most x : ℕ) → x < 10 ^ suc k → length (digits most x) ≤ suc k
unfolding digits
digits_short k zero x h = omega arith
digits_short zero (suc most) x h = rw (digits_low most x h) (omega arith)
digits_short (suc k) (suc most) x h =
    ⊎_elim (λ (low : x < 10). rw (digits_low most x low) (omega arith))
    (λ (high : 10 ≤ x).
    let less : x / 10 < 10 ^ suc k = (div-lt_iff_lt-mul {k = 10} (omega arith)).1 (rw pow-suc at h) in
    rw (digits_high most x high) (simp length-append (omega (arith, digits_short k most (x / 10) less))))
    (lt_or_le x 10)

-- at most 6 digits
pub decimal_short : (x : ℕ) → x < 1000000 → length (decimal x) ≤ 6
unfolding decimal
decimal_short x h = digits_short 5 (suc x) x h
