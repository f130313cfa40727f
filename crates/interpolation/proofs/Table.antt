-- Polynomials as the code holds them, in a fixed number of coefficients, with zeros above the degree; and the product over the points as the code
-- makes it, from the last point down.
-- Assumes nothing.
use mathlib.Core.Path.{◌≡◌, sym, ap, ap₂, ◌∙◌}
use mathlib.Core.List.{List, ◌∷◌}
use mathlib.Core.Logic.{⊎_elim}
use Prim.Native.Nat.{ℕ, zero, suc, ◌+◌, ◌-◌, ◌≤◌, ◌<◌}
use native.Mathlib.Numerals.{add-one}
use native.Mathlib.Omega.{arith}
use lib.ListN.{length, get_or, drop, replicate, set, length-drop, get_or-eq_default}
use lib.Seq.{drop-cons, drop-length}
use Rattle.lists.specs.Table.{tabulate}
use Rattle.lists.proofs.Tests.{lt_or_le}
use Rattle.lists.proofs.Table.{length-tabulate, get_or-tabulate, tabulate-same}
use Rattle.gf256.specs.Byte.{◌⊕◌, ◌⊗◌}
use Rattle.gf256.proofs.Laws.{⊕-zero, ⊗-zero}
use Rattle.interpolation.specs.Polynomial.{linear, vanishing, lowest}
use Rattle.interpolation.specs.Interpolation.{side}
use Rattle.interpolation.proofs.Polynomial.{linear-first, linear-next, vanishing-length}

-- where nothing is cut off, every coefficient is the same
pub lowest-at : (n : ℕ) (cs : List ℕ) (e : ℕ) → length cs ≤ n → get_or (lowest n cs) e 0 ≡ get_or cs e 0
lowest-at n cs e h =
    ⊎_elim (λ (l : e < n). get_or-tabulate n (λ k. get_or cs k 0) e 0 l)
    (λ (l : n ≤ e). get_or-eq_default (lowest n cs) 0 (rw length-tabulate l) ∙ sym (get_or-eq_default cs 0 (omega arith))) (lt_or_le e n)

-- ---- x + p times a polynomial

pub linear-at : (p : ℕ) (cs : List ℕ) (e : ℕ) → get_or (linear p 0 cs) e 0 ≡ get_or (0 ∷ cs) e 0 ⊕ p ⊗ get_or cs e 0
linear-at p cs zero = linear-first p 0 cs
linear-at p cs (suc e) = linear-next p 0 cs e

-- above the degree it is 0
pub linear_beyond : (p degree : ℕ) (cs : List ℕ) → ((e : ℕ) → degree ≤ e → get_or cs e 0 ≡ 0) → (e : ℕ) → degree < e → get_or (linear p 0 cs) e 0 ≡ 0
linear_beyond p degree cs none zero h = omega arith
linear_beyond p degree cs none (suc e) h =
    linear-next p 0 cs e
    ∙ ap₂ (λ (a b : ℕ). a ⊕ p ⊗ b) (none e (omega arith)) (none (suc e) (omega arith)) ∙ ap (◌⊕◌ 0) (⊗-zero p) ∙ ⊕-zero 0

-- polynomials with the same coefficients have the same multiple
pub linear-same : (p : ℕ) (cs ds : List ℕ) → ((e : ℕ) → get_or cs e 0 ≡ get_or ds e 0) → (e : ℕ) → get_or (linear p 0 cs) e 0 ≡ get_or (linear p 0 ds) e 0
linear-same p cs ds same zero = linear-first p 0 cs ∙ ap (λ (c : ℕ). 0 ⊕ p ⊗ c) (same 0) ∙ sym (linear-first p 0 ds)
linear-same p cs ds same (suc e) =
    linear-next p 0 cs e ∙ ap₂ (λ (a b : ℕ). a ⊕ p ⊗ b) (same e) (same (suc e)) ∙ sym (linear-next p 0 ds e)

-- ---- the product over the points from place j on

-- how the code holds it
abbrev pub product_from : List ℕ → ℕ → List ℕ
product_from ps j = lowest (side + 1) (vanishing (drop j ps))

-- no point passed: the polynomial 1
pub product_none : (ps : List ℕ) → set (replicate (side + 1) 0) 0 1 ≡ product_from ps (length ps)
unfolding vanishing tabulate
product_none ps = rw (drop-length ps)

module _ (ps : List ℕ) (short : length ps ≤ side) where
  from_length : (j : ℕ) → length (vanishing (drop j ps)) ≡ suc (length ps - j)
  from_length j = vanishing-length (drop j ps) ∙ ap suc (length-drop j ps)

  from_at : (j e : ℕ) → get_or (product_from ps j) e 0 ≡ get_or (vanishing (drop j ps)) e 0
  from_at j e = lowest-at (side + 1) (vanishing (drop j ps)) e (omega (arith, from_length j))

  -- where point j comes next, the product is 0 from the degree on that it then has
  pub product_degree : (j k : ℕ) (product : List ℕ) → k ≡ j + 1 → k ≤ length ps → product ≡ product_from ps k
      → (e : ℕ) → length ps - j ≤ e → get_or product e 0 ≡ 0
  product_degree j k product q h p e l =
      ap (λ (w : List ℕ). get_or w e 0) p ∙ from_at k e ∙ get_or-eq_default (vanishing (drop k ps)) 0 (omega (arith, from_length k))

  -- one place further down
  pub product_more : (j k : ℕ) (product longer : List ℕ) → k ≡ j + 1 → k ≤ length ps → product ≡ product_from ps k
      → longer ≡ lowest (side + 1) (linear (get_or ps j 0) 0 product) → longer ≡ product_from ps j
  unfolding vanishing
  product_more j k product longer q h p el =
      let s : drop j ps ≡ get_or ps j 0 ∷ drop k ps = drop-cons ps j 0 (omega arith) ∙ rw (q, add-one) in
      el
      ∙ tabulate-same (side + 1) _ _
      (λ e l. linear-same (get_or ps j 0) product (vanishing (drop k ps)) (λ d. ap (λ (w : List ℕ). get_or w d 0) p ∙ from_at k d) e ∙ rw s)
