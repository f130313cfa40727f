-- What interpolation divides by is not 0 where no point stands twice: `divisors`. It is cited where `row` (src/points.rt) unwraps an inverse
-- (`divided_invertible` in proofs/Row.antt), where the definition's quotient is used (proofs/Through.antt), and for accepted parties (in sharing).
-- Assumes nothing.
use mathlib.Core.Path.{sym}
use mathlib.Core.Logic.{◌≢◌, ⊎_elim}
use mathlib.Core.List.{List, [], ◌∷◌}
use Prim.Native.Nat.{ℕ, suc, ◌+◌, ◌<◌}
use native.Mathlib.Omega.{arith}
use lib.Dec.{lit<}
use lib.ListN.{length, get_or, drop, length-drop}
use lib.Seq.{get_or-drop}
use Rattle.lists.specs.Each.{Each, Distinct, Byte}
use Rattle.lists.specs.Without.{without}
use Rattle.lists.proofs.Each.{each_get_d, each_of}
use Rattle.lists.proofs.Without.{without_other, without_each, without-distinct}
use Rattle.gf256.specs.Byte.{◌⊕◌}
use Rattle.gf256.proofs.Laws.{⊕-zero, ⊕_equal, ⊕-byte, ⊗-byte, ⊗-zero, no_zero_divisors, no_inverse}
use Rattle.interpolation.specs.Polynomial.{next, eval, vanishing}
use Rattle.interpolation.specs.Divisors.{Divisor, difference, product, one, Divisors}
use Rattle.interpolation.proofs.Polynomial.{vanishing-next}

-- the product over some points at x is a divisor where each difference to x is
over : {ps : List ℕ} (x : ℕ) (qs : List ℕ) → Each (λ q. Divisor ps (x ⊕ q)) qs → Divisor ps (eval x (vanishing qs))
unfolding next eval vanishing
over x [] h = rw (⊗-zero x, ⊕-zero 1) one
over x (q ∷ qs) h = rw (vanishing-next x q qs) (product h.0 (over x qs h.1))

of_row : (ps : List ℕ) (i : ℕ) → i < length ps → Divisor ps (eval (get_or ps i 0) (vanishing (without i ps)))
of_row ps i h = over (get_or ps i 0) (without i ps) (without_each (λ q. Divisor ps (get_or ps i 0 ⊕ q)) ps i 0 (λ j l n. difference i j h l (λ e. n (sym e))))

of_step : (ps : List ℕ) (i : ℕ) → i < length ps → Divisor ps (eval (get_or ps i 0) (vanishing (drop (suc i) ps)))
of_step ps i h =
    over (get_or ps i 0) (drop (suc i) ps)
    (each_of (λ q. Divisor ps (get_or ps i 0 ⊕ q)) (drop (suc i) ps) 0
    (λ k l.
    let inside : suc i + k < length ps = omega (arith, length-drop (suc i) ps) in
    rw (get_or-drop (suc i) ps k 0) (difference {ps = ps} i (suc i + k) h inside (omega arith))))

module _ (ps : List ℕ) (bytes : Each Byte ps) (apart : Distinct ps) where
  byte : (d : ℕ) → Divisor ps d → Byte d
  byte _ (difference i j hi hj n) = ⊕-byte (get_or ps i 0) (get_or ps j 0) (each_get_d Byte ps i 0 hi bytes) (each_get_d Byte ps j 0 hj bytes)
  byte _ (product {c = c} {d = d} x y) = ⊗-byte c d
  byte _ one = lit< tt

  nonzero : (d : ℕ) → Divisor ps d → d ≢ 0
  nonzero _ (difference i j hi hj n) e =
      without_other (λ y. get_or ps i 0 ≢ y) ps i j 0 hj (λ q. n (sym q)) (without-distinct ps i hi apart) (⊕_equal (get_or ps i 0) (get_or ps j 0) e)
  nonzero _ (product {c = c} {d = d} x y) e = ⊎_elim (λ z. nonzero c x z) (λ z. nonzero d y z) (no_zero_divisors c d (byte c x) (byte d y) e)
  nonzero _ one e = omega (arith, e)

  pub divisors : Divisors ps
  divisors =
      record {
        nonzero = nonzero;
        invertible = λ d x e. nonzero d x (no_inverse d (byte d x) e);
        of_row = of_row ps;
        of_step = of_step ps;
      }
