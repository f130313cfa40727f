-- What interpolation divides by: differences of two of the points, and products of such differences. Where the points are bytes and none stands twice
-- no divisor is 0, so that nothing meets the case "no inverse" (document 02, g).
-- Assumes nothing.
use Rattle.std.specs.Prelude.{◌≢◌, List, ℕ, suc, ◌<◌, length, get_or, drop, None}
use Rattle.lists.specs.Without.{without}
use Rattle.gf256.specs.Byte.{◌⊕◌, ◌⊗◌, inverse}
use Rattle.interpolation.specs.Polynomial.{eval, vanishing}

-- the number is a difference of two of these points, at different places of their list, or a product of such differences
pub data Divisor : List ℕ → ℕ → Type 0 where
  difference : {ps : List ℕ} (i j : ℕ) → i < length ps → j < length ps → i ≢ j → Divisor ps (get_or ps i 0 ⊕ get_or ps j 0)
  product : {ps : List ℕ} {c d : ℕ} → Divisor ps c → Divisor ps d → Divisor ps (c ⊗ d)
  -- the product of none, where there is one point
  one : {ps : List ℕ} → Divisor ps 1

-- of distinct bytes (`divisors` in proofs/Divisors.antt)
pub record Divisors (ps : List ℕ) : Type 0 where
  -- no divisor is 0, and each has an inverse
  pub nonzero : (d : ℕ) → Divisor ps d → d ≢ 0
  pub invertible : (d : ℕ) → Divisor ps d → inverse d ≢ None
  -- the code divides by these: for row i of the basis, the product over the other points, at point i
  pub of_row : (i : ℕ) → i < length ps → Divisor ps (eval (get_or ps i 0) (vanishing (without i ps)))
  -- and the definition, `through`, by these: the product over the points after point i, at point i
  pub of_step : (i : ℕ) → i < length ps → Divisor ps (eval (get_or ps i 0) (vanishing (drop (suc i) ps)))
