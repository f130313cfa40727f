-- At distinct bytes, a polynomial with no more coefficients than points is the only one of its length with its values.
-- The sum of two such polynomials is 0 at each point; dividing by x + p for one point after the other shows that it is 0.
-- Assumes nothing.
use mathlib.Core.Path.{◌≡◌, refl, sym, ap, ap₂, ◌∙◌}
use mathlib.Core.Logic.{◌≢◌, ◌⊎◌, inl, inr}
use mathlib.Core.List.{List, [], ◌∷◌}
use Prim.Native.Nat.{ℕ, suc, ◌≤◌}
use native.Mathlib.Nat.{le_of_suc-le-suc, not-suc-le-zero, suc_inj, suc-ne-zero}
use lib.ListN.{length}
use Rattle.lists.specs.Each.{Each, Distinct, Byte}
use Rattle.lists.proofs.Each.{map_each, each_imp}
use Rattle.gf256.specs.Byte.{◌⊕◌, ◌⊗◌}
use Rattle.gf256.proofs.Laws.{⊕_assoc, ⊕_left_comm, zero-⊕, ⊕-zero, ⊕_self, ⊕-twice, ⊕_equal, ⊕-byte, ⊗_left_comm, ⊗-⊕, ⊕-⊗, ⊗-zero, no_zero_divisors}
use Rattle.interpolation.specs.Polynomial.{next, eval, values, plus}
use Rattle.interpolation.proofs.Polynomial.{eval-plus, eval-byte, plus-byte, plus-length}

-- ---- division by x + p

quotient : ℕ → List ℕ → List ℕ
quotient p [] = []
quotient p (c ∷ cs) = eval p (c ∷ cs) ∷ quotient p cs

divided : (x p : ℕ) (cs : List ℕ) → x ⊗ eval x cs ≡ p ⊗ eval p cs ⊕ (x ⊕ p) ⊗ eval x (quotient p cs)
unfolding next eval quotient
divided x p [] = simp (⊗-zero, ⊕-zero)
divided x p (c ∷ cs) = simp (divided x p cs, ⊗-⊕, ⊕-⊗, ⊗_left_comm, ⊕_assoc, ⊕_left_comm, ⊕-twice)

quotient_length : (p : ℕ) (cs : List ℕ) → length (quotient p cs) ≡ length cs
unfolding quotient
quotient_length p [] = refl
quotient_length p (c ∷ cs) = ap suc (quotient_length p cs)

quotient_byte : (p : ℕ) (cs : List ℕ) → Each Byte cs → Each Byte (quotient p cs)
unfolding quotient
quotient_byte p [] h = tt
quotient_byte p (c ∷ cs) h = (eval-byte p (c ∷ cs) h, quotient_byte p cs h.1)

-- ---- polynomials that are 0

Zeros : List ℕ → Type 0
Zeros cs = Each (λ c. c ≡ 0) cs

zeros-eval : (x : ℕ) (cs : List ℕ) → Zeros cs → eval x cs ≡ 0
unfolding Zeros next eval
zeros-eval x [] h = refl
zeros-eval x (c ∷ cs) h = simp (h.0, zeros-eval x cs h.1, ⊗-zero, ⊕-zero)

quotient_zeros : (p : ℕ) (cs : List ℕ) → Zeros (quotient p cs) → Zeros cs
unfolding Zeros quotient next eval
quotient_zeros p [] h = tt
quotient_zeros p (c ∷ cs) h =
    let rest : Zeros cs = quotient_zeros p cs h.1 in
    (sym (⊕-zero c) ∙ ap (◌⊕◌ c) (sym (ap (◌⊗◌ p) (zeros-eval p cs rest) ∙ ⊗-zero p)) ∙ h.0, rest)

-- a zero at x other than p is a zero of the quotient
quotient_root : (x p c : ℕ) (cs : List ℕ) → Byte x → Byte p → Each Byte cs → p ≢ x → eval p (c ∷ cs) ≡ 0 → eval x (c ∷ cs) ≡ 0 → eval x (quotient p cs) ≡ 0
unfolding next eval
quotient_root x p c cs hx hp b n ep ex =
    split (no_zero_divisors (x ⊕ p) (eval x (quotient p cs)) (⊕-byte x p hx hp) (eval-byte x (quotient p cs) (quotient_byte p cs b)) factors)
  where
    factors : (x ⊕ p) ⊗ eval x (quotient p cs) ≡ 0
    factors =
        sym (zero-⊕ _) ∙ ap (λ (t : ℕ). t ⊕ (x ⊕ p) ⊗ eval x (quotient p cs)) (sym ep) ∙ ⊕_assoc c _ _ ∙ ap (◌⊕◌ c) (sym (divided x p cs)) ∙ ex

    split : (x ⊕ p ≡ 0) ⊎ (eval x (quotient p cs) ≡ 0) → eval x (quotient p cs) ≡ 0
    split (inl z) = absurd (n (sym (⊕_equal x p z)))
    split (inr z) = z

-- 0 at as many distinct bytes as there are coefficients
roots_zeros : (ps cs : List ℕ) → Each Byte ps → Distinct ps → Each Byte cs → length cs ≤ length ps → Each (λ x. eval x cs ≡ 0) ps → Zeros cs
unfolding Zeros quotient
roots_zeros [] [] bp d bc le h = tt
roots_zeros (p ∷ ps) [] bp d bc le h = tt
roots_zeros [] (c ∷ cs) bp d bc le h = absurd (not-suc-le-zero le)
roots_zeros (p ∷ ps) (c ∷ cs) bp d bc le h =
    quotient_zeros p (c ∷ cs)
    (h.0, roots_zeros ps (quotient p cs) bp.1 d.1 (quotient_byte p cs bc.1) (rw (quotient_length p cs) (le_of_suc-le-suc le)) (rest ps bp.1 d.0 h.1))
  where
    rest : (xs : List ℕ) → Each Byte xs → Each (λ y. p ≢ y) xs → Each (λ x. eval x (c ∷ cs) ≡ 0) xs → Each (λ x. eval x (quotient p cs) ≡ 0) xs
    rest [] b n e = tt
    rest (x ∷ xs) b n e = (quotient_root x p c cs b.0 bp.0 bc.1 n.0 h.0 e.0, rest xs b.1 n.1 e.1)

-- ---- polynomials with the same values

plus-zeros : (cs ds : List ℕ) → length cs ≡ length ds → Zeros (plus cs ds) → cs ≡ ds
unfolding Zeros plus
plus-zeros [] [] n h = refl
plus-zeros [] (d ∷ ds) n h = absurd (suc-ne-zero (length ds) (sym n))
plus-zeros (c ∷ cs) [] n h = absurd (suc-ne-zero (length cs) n)
plus-zeros (c ∷ cs) (d ∷ ds) n h = ap₂ ◌∷◌ (⊕_equal c d h.0) (plus-zeros cs ds (suc_inj n) h.1)

pub unique : (ps cs ds : List ℕ) → Each Byte ps → Distinct ps → Each Byte cs → Each Byte ds → length cs ≡ length ds → length cs ≤ length ps
    → values ps cs ≡ values ps ds → cs ≡ ds
unique ps cs ds bp d bc bd n le h =
    plus-zeros cs ds n
    (roots_zeros ps (plus cs ds) bp d (plus-byte cs ds bc bd) (rw (plus-length cs ds n) le)
    (each_imp (λ x. eval x cs ≡ eval x ds) (λ x. eval x (plus cs ds) ≡ 0) same ps (map_each (λ x. eval x cs) (λ x. eval x ds) ps h)))
  where
    same : (x : ℕ) → eval x cs ≡ eval x ds → eval x (plus cs ds) ≡ 0
    same x e = eval-plus x cs ds ∙ ap (λ (t : ℕ). t ⊕ eval x ds) e ∙ ⊕_self (eval x ds)
