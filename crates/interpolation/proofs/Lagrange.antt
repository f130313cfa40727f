-- The Lagrange basis: its rule, that the rule fixes it, the formula by which the code computes it, and a polynomial's coefficients from its values.
-- The last three follow from uniqueness: both sides have the same values at the points.
-- Assumes nothing.
use mathlib.Core.Path.{◌≡◌, refl, sym, ap, ap₂, ◌∙◌}
use mathlib.Core.Bool.{Bool, true, false, cond}
use mathlib.Core.Logic.{◌≢◌, ⊎_elim}
use mathlib.Core.List.{List}
use Prim.Native.Nat.{ℕ, zero, suc, ◌<◌}
use native.Mathlib.Nat.{le_refl, le_step, le_of_suc-le-suc, not-suc-le-zero, eq-or-lt_of_le}
use native.Mathlib.Omega.{arith}
use lib.Dec.{eqb, lit<}
use lib.ListN.{length, get_or, replicate, length-map, length-replicate}
use borrow.Author.Tests.{eqb-true, eqb-false, eq-eqb, ne_eqb}
use Rattle.lists.specs.Each.{Each, Distinct, Byte}
use Rattle.lists.specs.Without.{without}
use Rattle.lists.proofs.Tests.{cond_ind}
use Rattle.lists.proofs.Each.{each_of, each_map, each_replicate, each_tabulate, replicate-at, get_or-map}
use Rattle.lists.proofs.Table.{length-tabulate, get_or-tabulate, tabulate_is}
use Rattle.lists.proofs.Without.{length_without, without_other}
use Rattle.gf256.specs.Byte.{◌⊕◌, ◌⊗◌}
use Rattle.gf256.proofs.Laws.{zero-⊕, ⊕-zero, interchange, ⊗-⊕, ⊗-zero, ⊗_one, ⊗_comm}
use Rattle.interpolation.specs.Polynomial.{eval, values, plus, scale, vanishing, sum_to}
use Rattle.interpolation.specs.Interpolation.{unit, basis}
use Rattle.interpolation.proofs.Polynomial.{eval-plus, eval-scale, eval-zeros, eval-byte, plus-at, plus-byte, plus-length, scale_at, scale-byte, scale-length, vanishing-length, vanishing-zero}
use Rattle.interpolation.proofs.Unique.{unique}
use Rattle.interpolation.proofs.Through.{through-byte, through-length, through-values}

-- ---- 1 at one place, 0 at the others

unit-at : (n i j : ℕ) → j < n → get_or (unit n i) j 0 ≡ cond (eqb j i) 1 0
unfolding unit
unit-at n i j h = get_or-tabulate n (λ k. cond (eqb k i) 1 0) j 0 h

unit-length : (n i : ℕ) → length (unit n i) ≡ n
unfolding unit
unit-length n i = length-tabulate n (λ k. cond (eqb k i) 1 0)

unit-byte : (n i : ℕ) → Each Byte (unit n i)
unfolding unit
unit-byte n i = each_tabulate Byte n (λ k. cond (eqb k i) 1 0) (λ k h. cond_ind Byte {t = eqb k i} {a = 1} {b = 0} (λ e. lit< tt) (λ e. lit< tt))

-- a polynomial with these values at the points has them as a list
pub unit-values : (ps cs : List ℕ) (i : ℕ) → ((j : ℕ) → j < length ps → eval (get_or ps j 0) cs ≡ cond (eqb j i) 1 0) → values ps cs ≡ unit (length ps) i
unfolding unit
unit-values ps cs i h =
    tabulate_is (values ps cs) (length ps) (λ k. cond (eqb k i) 1 0) 0 (length-map ps (λ x. eval x cs))
    (λ j b. get_or-map (λ x. eval x cs) ps j 0 0 b ∙ h j b)

-- ---- the basis

pub basis-length : (ps : List ℕ) (i : ℕ) → length (basis ps i) ≡ length ps
unfolding basis
basis-length ps i = through-length ps (unit (length ps) i)

pub basis-byte : (ps : List ℕ) (i : ℕ) → Each Byte (basis ps i)
unfolding basis
basis-byte ps i = through-byte ps (unit (length ps) i)

-- what is asked of the points
module _ (ps : List ℕ) (bytes : Each Byte ps) (apart : Distinct ps) where
  pub basis-rule : (i : ℕ) → values ps (basis ps i) ≡ unit (length ps) i
  unfolding basis
  basis-rule i = through-values ps (unit (length ps) i) bytes apart (unit-length (length ps) i) (unit-byte (length ps) i)

  -- the same at each point
  pub basis-at : (i j : ℕ) → j < length ps → eval (get_or ps j 0) (basis ps i) ≡ cond (eqb j i) 1 0
  basis-at i j h =
      sym (get_or-map (λ x. eval x (basis ps i)) ps j 0 0 h) ∙ ap (λ (l : List ℕ). get_or l j 0) (basis-rule i) ∙ unit-at (length ps) i j h

  -- no other polynomial of this length has the rule
  pub basis_unique : (i : ℕ) (cs : List ℕ) → length cs ≡ length ps → Each Byte cs → values ps cs ≡ unit (length ps) i → cs ≡ basis ps i
  basis_unique i cs n b h =
      unique ps cs (basis ps i) bytes apart b (basis-byte ps i) (n ∙ sym (basis-length ps i)) (omega arith) (h ∙ sym (basis-rule i))

  -- the product over the other points, times the inverse of its value at the point
  pub basis_formula : (i k : ℕ) → i < length ps → eval (get_or ps i 0) (vanishing (without i ps)) ⊗ k ≡ 1 → basis ps i ≡ scale k (vanishing (without i ps))
  basis_formula i k h one =
      sym
      (basis_unique i (scale k others) (scale-length k others ∙ vanishing-length (without i ps) ∙ length_without ps i h) (scale-byte k others)
      (unit-values ps (scale k others) i (λ j b. eval-scale (get_or ps j 0) k others ∙ at j b (eqb j i) refl)))
    where
      others : List ℕ
      others = vanishing (without i ps)

      at : (j : ℕ) → j < length ps → (t : Bool) → eqb j i ≡ t → k ⊗ eval (get_or ps j 0) others ≡ cond t 1 0
      at j b true e = ap (λ (n : ℕ). k ⊗ eval (get_or ps n 0) others) (eqb-true j i e) ∙ ⊗_comm k (eval (get_or ps i 0) others) ∙ one
      at j b false e =
          ap (◌⊗◌ k) (without_other (λ x. eval x others ≡ 0) ps i j 0 b (eqb-false j i e) (vanishing-zero (without i ps))) ∙ ⊗-zero k

-- ---- sums

pub sum_to-same : (n : ℕ) (f g : ℕ → ℕ) → ((i : ℕ) → i < n → f i ≡ g i) → sum_to n f ≡ sum_to n g
unfolding sum_to
sum_to-same zero f g h = refl
sum_to-same (suc n) f g h = ap₂ ◌⊕◌ (sum_to-same n f g (λ i b. h i (le_step b))) (h n (le_refl (suc n)))

pub sum_to-zero : (n : ℕ) (f : ℕ → ℕ) → ((i : ℕ) → i < n → f i ≡ 0) → sum_to n f ≡ 0
unfolding sum_to
sum_to-zero zero f h = refl
sum_to-zero (suc n) f h = ap₂ ◌⊕◌ (sum_to-zero n f (λ i b. h i (le_step b))) (h n (le_refl (suc n))) ∙ ⊕-zero 0

-- k times a sum, and another sum, term by term
pub sum_to-linear : (k n : ℕ) (f g : ℕ → ℕ) → sum_to n (λ i. k ⊗ f i ⊕ g i) ≡ k ⊗ sum_to n f ⊕ sum_to n g
unfolding sum_to
sum_to-linear k zero f g = sym (⊕-zero (k ⊗ 0) ∙ ⊗-zero k)
sum_to-linear k (suc n) f g =
    ap (λ (s : ℕ). s ⊕ (k ⊗ f n ⊕ g n)) (sum_to-linear k n f g) ∙ interchange (k ⊗ sum_to n f) (sum_to n g) (k ⊗ f n) (g n)
    ∙ ap (λ (s : ℕ). s ⊕ (sum_to n g ⊕ g n)) (sym (⊗-⊕ k (sum_to n f) (f n)))

-- where all terms but one are 0, the sum is that one
pub sum_to_one : (n j : ℕ) (f : ℕ → ℕ) → j < n → ((i : ℕ) → i < n → i ≢ j → f i ≡ 0) → sum_to n f ≡ f j
unfolding sum_to
sum_to_one zero j f b h = absurd (not-suc-le-zero b)
sum_to_one (suc n) j f b h =
    ⊎_elim
    (λ (e : j ≡ n). ap₂ ◌⊕◌ (sum_to-zero n f (λ i l. h i (le_step l) (omega arith))) (ap f (sym e)) ∙ zero-⊕ (f j))
    (λ (l : j < n). ap₂ ◌⊕◌ (sum_to_one n j f l (λ i m. h i (le_step m))) (h n (le_refl (suc n)) (omega arith)) ∙ ⊕-zero (f j))
    (eq-or-lt_of_le (le_of_suc-le-suc b))

-- ---- a polynomial from its values

-- the first n basis polynomials, each times its value, as d coefficients
combined : ℕ → List ℕ → (ℕ → ℕ) → ℕ → List ℕ
combined d ps v zero = replicate d 0
combined d ps v (suc n) = plus (combined d ps v n) (scale (v n) (basis ps n))

combined-length : (ps : List ℕ) (v : ℕ → ℕ) (n : ℕ) → length (combined (length ps) ps v n) ≡ length ps
unfolding combined
combined-length ps v zero = length-replicate {A = ℕ} (length ps) 0
combined-length ps v (suc n) =
    let l : length (combined (length ps) ps v n) ≡ length ps = combined-length ps v n in
    plus-length (combined (length ps) ps v n) (scale (v n) (basis ps n)) (l ∙ sym (scale-length (v n) (basis ps n) ∙ basis-length ps n)) ∙ l

combined-byte : (ps : List ℕ) (v : ℕ → ℕ) (n : ℕ) → Each Byte (combined (length ps) ps v n)
unfolding combined
combined-byte ps v zero = each_replicate Byte (length ps) 0 (lit< tt)
combined-byte ps v (suc n) =
    plus-byte (combined (length ps) ps v n) (scale (v n) (basis ps n)) (combined-byte ps v n) (scale-byte (v n) (basis ps n))

combined-eval : (x : ℕ) (ps : List ℕ) (v : ℕ → ℕ) (n : ℕ) → eval x (combined (length ps) ps v n) ≡ sum_to n (λ i. v i ⊗ eval x (basis ps i))
unfolding combined sum_to
combined-eval x ps v zero = eval-zeros x (length ps)
combined-eval x ps v (suc n) =
    eval-plus x (combined (length ps) ps v n) (scale (v n) (basis ps n)) ∙ ap₂ ◌⊕◌ (combined-eval x ps v n) (eval-scale x (v n) (basis ps n))

combined-at : (ps : List ℕ) (v : ℕ → ℕ) (n e : ℕ) → get_or (combined (length ps) ps v n) e 0 ≡ sum_to n (λ i. get_or (basis ps i) e 0 ⊗ v i)
unfolding combined sum_to
combined-at ps v zero e = replicate-at (length ps) e 0
combined-at ps v (suc n) e =
    plus-at (combined (length ps) ps v n) (scale (v n) (basis ps n)) e
    ∙ ap₂ ◌⊕◌ (combined-at ps v n e) (scale_at (v n) (basis ps n) e ∙ ⊗_comm (v n) (get_or (basis ps n) e 0))

-- all of them, each times the polynomial's value at its point, are the polynomial
interpolate_sum : (ps cs : List ℕ) → Each Byte ps → Distinct ps → length cs ≡ length ps → Each Byte cs
    → cs ≡ combined (length ps) ps (λ i. eval (get_or ps i 0) cs) (length ps)
interpolate_sum ps cs bytes apart n b =
    unique ps cs sum bytes apart b (combined-byte ps v (length ps)) (n ∙ sym (combined-length ps v (length ps))) (omega arith)
    (each_map (λ x. eval x cs) (λ x. eval x sum) ps (each_of (λ x. eval x cs ≡ eval x sum) ps 0 at))
  where
    v : ℕ → ℕ
    v i = eval (get_or ps i 0) cs

    sum : List ℕ
    sum = combined (length ps) ps v (length ps)

    at : (j : ℕ) → j < length ps → eval (get_or ps j 0) cs ≡ eval (get_or ps j 0) sum
    at j h =
        sym
        (combined-eval (get_or ps j 0) ps v (length ps)
        ∙ sum_to_one (length ps) j (λ i. v i ⊗ eval (get_or ps j 0) (basis ps i)) h
        (λ i l m. ap (◌⊗◌ (v i)) (basis-at ps bytes apart i j h ∙ ap (λ (t : Bool). cond t 1 0) (ne_eqb j i (λ q. m (sym q)))) ∙ ⊗-zero (v i))
        ∙ ap (◌⊗◌ (v j)) (basis-at ps bytes apart j j h ∙ ap (λ (t : Bool). cond t 1 0) (eq-eqb j j refl))
        ∙ ⊗_one (v j) (eval-byte (get_or ps j 0) cs b))

-- each coefficient is the sum over the points of the basis' coefficient times the value there
pub interpolate_back : (ps cs : List ℕ) → Each Byte ps → Distinct ps → length cs ≡ length ps → Each Byte cs → (e : ℕ)
    → get_or cs e 0 ≡ sum_to (length ps) (λ i. get_or (basis ps i) e 0 ⊗ eval (get_or ps i 0) cs)
interpolate_back ps cs bytes apart n b e =
    ap (λ (l : List ℕ). get_or l e 0) (interpolate_sum ps cs bytes apart n b) ∙ combined-at ps (λ i. eval (get_or ps i 0) cs) (length ps) e

-- and so is the value at any x, of the basis' value there
pub interpolate_value : (ps cs : List ℕ) → Each Byte ps → Distinct ps → length cs ≡ length ps → Each Byte cs → (x : ℕ)
    → eval x cs ≡ sum_to (length ps) (λ i. eval x (basis ps i) ⊗ eval (get_or ps i 0) cs)
interpolate_value ps cs bytes apart n b x =
    ap (eval x) (interpolate_sum ps cs bytes apart n b) ∙ combined-eval x ps (λ i. eval (get_or ps i 0) cs) (length ps)
    ∙ sum_to-same (length ps) _ _ (λ i _. ⊗_comm (eval (get_or ps i 0) cs) (eval x (basis ps i)))
