-- Polynomials over the bytes of FIPS 197, as lists of coefficients, the lowest degree first.
-- Assumes nothing.
use Rattle.std.specs.Prelude.{List, [], ◌∷◌, map, ℕ, zero, suc, get_or}
use Rattle.lists.specs.Table.{tabulate}
use Rattle.gf256.specs.Byte.{◌⊕◌, ◌⊗◌}

-- one coefficient more, from the highest down: what the value at x becomes
unfoldable pub next : ℕ → ℕ → ℕ → ℕ
next x value coefficient = coefficient ⊕ x ⊗ value

-- the value at x
unfoldable pub eval : ℕ → List ℕ → ℕ
eval x [] = 0
eval x (c ∷ cs) = next x (eval x cs) c

-- the values at the points
abbrev pub values : List ℕ → List ℕ → List ℕ
values ps cs = map (λ x. eval x cs) ps

-- the sum of two polynomials, as long as the longer one
unfoldable pub plus : List ℕ → List ℕ → List ℕ
plus [] ds = ds
plus (c ∷ cs) [] = c ∷ cs
plus (c ∷ cs) (d ∷ ds) = (c ⊕ d) ∷ plus cs ds

-- k times a polynomial
unfoldable pub scale : ℕ → List ℕ → List ℕ
scale k [] = []
scale k (c ∷ cs) = (k ⊗ c) ∷ scale k cs

-- the upper part: the coefficients of degree d and more, zeros at the degrees below
unfoldable pub above : ℕ → List ℕ → List ℕ
above zero cs = cs
above (suc d) [] = []
above (suc d) (c ∷ cs) = 0 ∷ above d cs

-- low, plus (x + p) times a polynomial: one coefficient longer
unfoldable pub linear : ℕ → ℕ → List ℕ → List ℕ
linear p low [] = low ∷ []
linear p low (c ∷ cs) = (low ⊕ p ⊗ c) ∷ linear p c cs

-- the product of x + p over the points p
unfoldable pub vanishing : List ℕ → List ℕ
vanishing [] = 1 ∷ []
vanishing (p ∷ ps) = linear p 0 (vanishing ps)

-- the n lowest coefficients, zeros where there are no more
abbrev pub lowest : ℕ → List ℕ → List ℕ
lowest n cs = tabulate n (λ e. get_or cs e 0)

-- f 0 + f 1 + .. + f (n - 1)
unfoldable pub sum_to : ℕ → (ℕ → ℕ) → ℕ
sum_to zero f = 0
sum_to (suc n) f = sum_to n f ⊕ f n
