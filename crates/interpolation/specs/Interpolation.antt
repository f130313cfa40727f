-- The polynomial through given points, the Lagrange basis (document 01's weights), and the one fact about interpolation that the layers above cite.
-- Assumes nothing.
use Rattle.std.specs.Prelude.{◌≡◌, cond, ◌&&◌, List, [], ◌∷◌, ◌++◌, ℕ, ◌-◌, ◌≤◌, ltb, leb, eqb, length, get_or, drop, replicate}
use Rattle.lists.specs.Each.{Each, Distinct, Byte, distinct}
use Rattle.lists.specs.Table.{tabulate}
use Rattle.gf256.specs.Byte.{◌⊕◌, ◌⊘◌}
use Rattle.interpolation.specs.Polynomial.{eval, values, plus, scale, vanishing}

-- the polynomial with one coefficient a point that has the values vs at the points: a point more adds the multiple of the product over
-- the others that gives the point its value
unfoldable pub through : List ℕ → List ℕ → List ℕ
through [] vs = []
through (p ∷ ps) vs =
    let others : List ℕ = through ps (drop 1 vs) in
    plus others (scale ((get_or vs 0 0 ⊕ eval p others) ⊘ eval p (vanishing ps)) (vanishing ps))

-- the same with zeros up to z coefficients, for at most z points
unfoldable pub fitted : ℕ → List ℕ → List ℕ → List ℕ
fitted z ps vs = through ps vs ++ replicate (z - length ps) 0

-- the one fact about interpolation: at distinct bytes, the values fix a polynomial with no more coefficients than points, and for any values at
-- no more than z points there is one with z coefficients
pub record Interpolation : Type 0 where
  pub unique : (ps cs ds : List ℕ) → Each Byte ps → Distinct ps → Each Byte cs → Each Byte ds → length cs ≡ length ds → length cs ≤ length ps
      → values ps cs ≡ values ps ds → cs ≡ ds
  pub exists : (z : ℕ) (ps vs : List ℕ) → Each Byte ps → Distinct ps → length vs ≡ length ps → Each Byte vs → values ps (fitted z ps vs) ≡ vs
  pub exists_length : (z : ℕ) (ps vs : List ℕ) → length ps ≤ z → length (fitted z ps vs) ≡ z
  pub exists_byte : (z : ℕ) (ps vs : List ℕ) → Each Byte (fitted z ps vs)

-- 1 at place i and 0 at the others, of n places
unfoldable pub unit : ℕ → ℕ → List ℕ
unit n i = tabulate n (λ k. cond (eqb k i) 1 0)

-- document 01's weights of the party at place i: the coefficients of the polynomial that is 1 at its point and 0 at the others
unfoldable pub basis : List ℕ → ℕ → List ℕ
basis ps i = through ps (unit (length ps) i)

-- the rows and columns of the table of weights
abbrev pub side : ℕ
side = 16

-- row i is the party at place i, column e the degree; zero beyond the points, and all zero unless these are at most 16 and distinct
unfoldable pub weight : List ℕ → ℕ → ℕ → ℕ
weight ps i e = cond (leb (length ps) side && distinct ps && ltb i (length ps)) (get_or (basis ps i) e 0) 0

unfoldable pub basis_table : List ℕ → List (List ℕ)
basis_table ps = tabulate side (λ i. tabulate side (weight ps i))
