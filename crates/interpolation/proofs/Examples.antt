-- Worked examples of the weights of an opening, by computing: the remainders at three sets of points, worked out by solving for the polynomial that has
-- at each point p the value of p to the power; a table; those of no points and of two equal ones; and the weights of a value.
-- Assumes nothing.
use mathlib.Core.Path.{◌≡◌, refl}
use mathlib.Core.List.{[], ◌∷◌, ◌++◌}
use lib.ListN.{replicate}
use Rattle.lists.specs.Each.{occurs, distinct}
use Rattle.lists.specs.Table.{tabulate}
use Rattle.gf256.specs.Byte as byte
use Rattle.gf256.specs.Byte.{◌⊕◌, ◌⊗◌, cut, reduce, squares_product, ◌⊘◌}
use Rattle.interpolation.specs.Polynomial.{next, eval, plus, scale, linear, vanishing}
use Rattle.interpolation.specs.Interpolation.{through, unit, basis, weight}
use Rattle.interpolation.specs.Opening.{remainder, opening_weight, opening_table, value_weight}

pub examples :
    -- the powers 3, 4 and 5 of x at 1, 2, 3
    (remainder (1 ∷ 2 ∷ 3 ∷ []) 0 ≡ 6 ∷ 7 ∷ 0 ∷ [])
    × (remainder (1 ∷ 2 ∷ 3 ∷ []) 1 ≡ 0 ∷ 6 ∷ 7 ∷ [])
    × (remainder (1 ∷ 2 ∷ 3 ∷ []) 2 ≡ 18 ∷ 21 ∷ 6 ∷ [])
    -- the powers 2, 3 and 4 at 57 and 83 hex
    × (remainder (0x57 ∷ 0x83 ∷ []) 0 ≡ 193 ∷ 212 ∷ [])
    × (remainder (0x57 ∷ 0x83 ∷ []) 1 ≡ 124 ∷ 251 ∷ [])
    × (remainder (0x57 ∷ 0x83 ∷ []) 2 ≡ 12 ∷ 99 ∷ [])
    -- a row of five coefficients read at 1, 2, 4: the basis, and the powers 3 and 4
    × (opening_table (1 ∷ 2 ∷ 4 ∷ []) 5
    ≡ (98 ∷ 164 ∷ 199 ∷ replicate 13 0) ∷ (164 ∷ 141 ∷ 41 ∷ replicate 13 0) ∷ (199 ∷ 41 ∷ 238 ∷ replicate 13 0)
    ∷ (8 ∷ 14 ∷ 7 ∷ replicate 13 0) ∷ (56 ∷ 34 ∷ 27 ∷ replicate 13 0) ∷ replicate 11 (replicate 16 0))
    -- no points: zeros; equal points: zeros for the parties alone
    × (opening_table [] 3 ≡ replicate 16 (replicate 16 0))
    × (opening_table (1 ∷ 1 ∷ []) 4
    ≡ replicate 2 (replicate 16 0) ++ (1 ∷ replicate 15 0) ∷ (0 ∷ 1 ∷ replicate 14 0) ∷ replicate 12 (replicate 16 0))
    -- the value at 3 of a row of three coefficients read at 1 and 2, worked out by hand: 1 / 3 and 2 / 3, since 3 + 2 is 1, 3 + 1 is 2 and 1 + 2 is 3;
    -- and of the coefficient of degree 2, (3 + 1) (3 + 2)
    × (tabulate 3 (value_weight (opening_table (1 ∷ 2 ∷ []) 3) 2 3) ≡ 246 ∷ 247 ∷ 2 ∷ [])
unfolding ◌⊕◌ ◌⊗◌ byte.product byte.power reduce cut squares_product ◌⊘◌ occurs distinct tabulate next eval plus scale linear vanishing through unit basis weight remainder opening_weight opening_table value_weight
examples = (refl, refl, refl, refl, refl, refl, refl, refl, refl, refl)
