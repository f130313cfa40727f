-- Existence: `through` has the wanted values, one point after the other, and `fitted` has them too. With uniqueness this is `interpolation`,
-- the one fact that the layers above cite.
-- Assumes nothing.
use mathlib.Core.Path.{◌≡◌, refl, sym, ap, ap₂, ◌∙◌}
use mathlib.Core.Logic.{◌≢◌}
use mathlib.Core.List.{List, [], ◌∷◌, map}
use Prim.Native.Nat.{ℕ, suc, ◌-◌, ◌≤◌}
use native.Mathlib.Nat.{suc_inj, suc-ne-zero, zero-lt-suc}
use native.Mathlib.Omega.{arith}
use lib.Dec.{lit<}
use lib.ListN.{length, get_or, drop, length-append, length-replicate}
use Rattle.lists.specs.Each.{Each, Distinct, Byte}
use Rattle.lists.proofs.Each.{each_append, each_replicate}
use Rattle.gf256.specs.Byte.{◌⊕◌, ◌⊗◌, ◌⊘◌}
use Rattle.gf256.proofs.Laws.{⊕_comm, ⊕-zero, ⊕-twice, ⊕-byte, ⊗-zero, ⊘-⊗}
use Rattle.interpolation.specs.Polynomial.{eval, values, plus, scale, vanishing}
use Rattle.interpolation.specs.Interpolation.{through, fitted, Interpolation}
use Rattle.interpolation.proofs.Polynomial.{eval-plus, eval-scale, eval_append_zeros, eval-byte, plus-byte, plus_length_longer, scale-byte, scale-length, vanishing-byte, vanishing-length, vanishing-zero}
use Rattle.interpolation.specs.Divisors.{Divisors}
use Rattle.interpolation.proofs.Divisors.{divisors}
use Rattle.interpolation.proofs.Unique.{unique}

-- ---- through

pub through-byte : (ps vs : List ℕ) → Each Byte (through ps vs)
unfolding through
through-byte [] vs = tt
through-byte (p ∷ ps) vs = plus-byte (through ps (drop 1 vs)) (scale _ _) (through-byte ps (drop 1 vs)) (scale-byte _ _)

-- a multiple of the product over the points makes a polynomial one coefficient longer
lengthened : (cs : List ℕ) (k : ℕ) (ps : List ℕ) → length cs ≡ length ps → length (plus cs (scale k (vanishing ps))) ≡ suc (length ps)
lengthened cs k ps n =
    let l : length (scale k (vanishing ps)) ≡ suc (length ps) = scale-length k (vanishing ps) ∙ vanishing-length ps in
    plus_length_longer cs (scale k (vanishing ps)) (omega arith) ∙ l

pub through-length : (ps vs : List ℕ) → length (through ps vs) ≡ length ps
unfolding through
through-length [] vs = refl
through-length (p ∷ ps) vs = lengthened _ _ _ (through-length ps (drop 1 vs))

through-next : (x p : ℕ) (ps vs : List ℕ)
    → eval x (through (p ∷ ps) vs)
    ≡ eval x (through ps (drop 1 vs)) ⊕ (get_or vs 0 0 ⊕ eval p (through ps (drop 1 vs))) ⊘ eval p (vanishing ps) ⊗ eval x (vanishing ps)
unfolding through
through-next x p ps vs =
    let others : List ℕ = through ps (drop 1 vs) in
    let k : ℕ = (get_or vs 0 0 ⊕ eval p others) ⊘ eval p (vanishing ps) in
    eval-plus x others (scale k (vanishing ps)) ∙ ap (◌⊕◌ (eval x others)) (eval-scale x k (vanishing ps))

pub through-values : (ps vs : List ℕ) → Each Byte ps → Distinct ps → length vs ≡ length ps → Each Byte vs → values ps (through ps vs) ≡ vs
through-values [] [] b d n h = refl
through-values [] (v ∷ vs) b d n h = absurd (suc-ne-zero (length vs) n)
through-values (p ∷ ps) [] b d n h = absurd (suc-ne-zero (length ps) (sym n))
through-values (p ∷ ps) (v ∷ vs) b d n h = ap₂ ◌∷◌ own (others ps (vanishing-zero ps) ∙ through-values ps vs b.1 d.1 (suc_inj n) h.1)
  where
    q : List ℕ
    q = through ps vs

    w : ℕ
    w = eval p (vanishing ps)

    own : eval p (through (p ∷ ps) (v ∷ vs)) ≡ v
    own =
        let hq : Byte (eval p q) = eval-byte p q (through-byte ps vs) in
        let hw : Byte w = eval-byte p (vanishing ps) (vanishing-byte ps) in
        let D : Divisors (p ∷ ps) = divisors (p ∷ ps) b d in
        let nw : w ≢ 0 = D.nonzero w (D.of_step 0 (zero-lt-suc (length ps))) in
        through-next p p ps (v ∷ vs)
        ∙ ap (◌⊕◌ (eval p q)) ((⊘-⊗ (v ⊕ eval p q) w nw (⊕-byte v (eval p q) h.0 hq) hw).1 ∙ ⊕_comm v (eval p q))
        ∙ ⊕-twice (eval p q) v

    others : (xs : List ℕ) → Each (λ x. eval x (vanishing ps) ≡ 0) xs → map (λ x. eval x (through (p ∷ ps) (v ∷ vs))) xs ≡ map (λ x. eval x q) xs
    others [] z = refl
    others (x ∷ xs) z =
        ap₂ ◌∷◌
        (through-next x p ps (v ∷ vs) ∙ ap (λ (t : ℕ). eval x q ⊕ (v ⊕ eval p q) ⊘ w ⊗ t) z.0 ∙ ap (◌⊕◌ (eval x q)) (⊗-zero _) ∙ ⊕-zero (eval x q))
        (others xs z.1)

-- ---- with zeros up to z coefficients

fitted-values : (z : ℕ) (ps vs : List ℕ) → Each Byte ps → Distinct ps → length vs ≡ length ps → Each Byte vs → values ps (fitted z ps vs) ≡ vs
unfolding fitted
fitted-values z ps vs b d n h = simp (eval_append_zeros) (through-values ps vs b d n h)

fitted-length : (z : ℕ) (ps vs : List ℕ) → length ps ≤ z → length (fitted z ps vs) ≡ z
unfolding fitted
fitted-length z ps vs h = simp (length-append, length-replicate, through-length) (omega arith)

fitted-byte : (z : ℕ) (ps vs : List ℕ) → Each Byte (fitted z ps vs)
unfolding fitted
fitted-byte z ps vs = each_append Byte (through ps vs) _ (through-byte ps vs) (each_replicate Byte (z - length ps) 0 (lit< tt))

-- ---- the one fact about interpolation

pub interpolation : Interpolation
interpolation =
    record {
      unique = unique;
      exists = fitted-values;
      exists_length = fitted-length;
      exists_byte = fitted-byte;
    }
