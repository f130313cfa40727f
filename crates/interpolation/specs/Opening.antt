-- The weights of an opening: where a row has more coefficients than parties are read, those of the higher degrees are known, and the others are
-- sums of the parties' values and of the known coefficients, each times its weight.
-- Assumes nothing.
use Rattle.std.specs.Prelude.{cond, List, [], ◌∷◌, ℕ, zero, suc, ◌-◌, ltb, length, get_or, take}
use Rattle.lists.specs.Table.{tabulate}
use Rattle.gf256.specs.Byte.{◌⊕◌, power}
use Rattle.interpolation.specs.Polynomial.{eval, plus, scale, vanishing, lowest}
use Rattle.interpolation.specs.Interpolation.{side, weight}

-- what a division of x to the power d + k by the product of x + p over the d points leaves: the product without its highest coefficient, and
-- then, each time, x times the last remainder, with the multiple of the product added that takes its highest coefficient off
unfoldable pub remainder : List ℕ → ℕ → List ℕ
remainder ps zero = take (length ps) (vanishing ps)
remainder ps (suc k) = take (length ps) (plus (0 ∷ remainder ps k) (scale (get_or (remainder ps k) (length ps - 1) 0) (vanishing ps)))

-- row i below d: the weights of the party at place i; from d up, below top: those of the known coefficient of degree i. Column e is the degree
-- that is found
unfoldable pub opening_weight : List ℕ → ℕ → ℕ → ℕ → ℕ
opening_weight ps top i e = cond (ltb i (length ps)) (weight ps i e) (cond (ltb i top) (get_or (remainder ps (i - length ps)) e 0) 0)

unfoldable pub opening_table : List ℕ → ℕ → List (List ℕ)
opening_table ps top = tabulate side (λ i. tabulate side (opening_weight ps top i))

-- from the weights of an opening at d points, those of a row's value at x: what the party at place i, or the known coefficient of degree i, adds to the
-- coefficients below d adds to the value at x, and a known coefficient adds itself times x to the power i
unfoldable pub value_weight : List (List ℕ) → ℕ → ℕ → ℕ → ℕ
value_weight weights d x i = eval x (lowest d (get_or weights i [])) ⊕ cond (ltb i d) 0 (power x i)
