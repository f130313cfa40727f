-- The weights of an opening. What a division of a power of x by the product over the points leaves has at each of them the value of that power, so a
-- polynomial and what is left of it have the same values there, and the basis gives back from these what is left. And the entries of the table.
-- Assumes nothing.
use mathlib.Core.Path.{◌≡◌, sym, ap, ap₂, ◌∙◌}
use mathlib.Core.Bool.{true}
use mathlib.Core.List.{List, [], ◌∷◌}
use Prim.Native.Nat.{ℕ, zero, suc, ◌+◌, ◌-◌, ◌≤◌, ◌<◌}
use native.Mathlib.Nat.{add-sub_cancel_left}
use native.Mathlib.Numerals.{unary_clauses}
use native.Mathlib.Omega.{arith}
use lib.Dec.{lit<}
use lib.ListN.{length, get_or, take, get_or-eq_default}
use lib.Seq.{get_or-take, length-take-le, take_all}
use borrow.Author.Tests.{lt-ltb, le-ltb}
use Rattle.lists.specs.Each.{Each, Distinct, Byte, distinct}
use Rattle.lists.proofs.Each.{each_at, each_get_d, each_take}
use Rattle.lists.proofs.Table.{get_or-rows}
use Rattle.gf256.specs.Byte.{◌⊕◌, ◌⊗◌, power}
use Rattle.gf256.proofs.Laws.{⊕_assoc, ⊕_comm, zero-⊕, ⊕-zero, ⊕_self, ⊕-twice, ⊕_equal, ⊗_comm, ⊗-zero, ⊗_one, power-byte}
use Rattle.interpolation.specs.Polynomial.{next, eval, plus, scale, vanishing, sum_to}
use Rattle.interpolation.specs.Interpolation.{side, basis}
use Rattle.interpolation.specs.Opening.{remainder, opening_weight, opening_table}
use Rattle.interpolation.proofs.Polynomial.{eval-plus, eval-scale, eval-take, eval_highest, plus-at, plus-byte, plus-length, scale_at, scale-byte, scale-length, vanishing-byte, vanishing-length, vanishing_highest, vanishing-zero}
use Rattle.interpolation.proofs.Lagrange.{interpolate_back, sum_to-same}
use Rattle.interpolation.proofs.Weights.{weight-within}

-- ---- the remainders

-- x times a polynomial, with a multiple of the product added
pub raised_at : (r : List ℕ) (c : ℕ) (product : List ℕ) (e : ℕ)
    → get_or (plus (0 ∷ r) (scale c product)) e 0 ≡ get_or (0 ∷ r) e 0 ⊕ c ⊗ get_or product e 0
raised_at r c product e = plus-at (0 ∷ r) (scale c product) e ∙ ap (◌⊕◌ (get_or (0 ∷ r) e 0)) (scale_at c product e)

-- x times a remainder, with the multiple of the product that takes its highest coefficient off
abbrev raised : List ℕ → List ℕ → List ℕ
raised ps r = plus (0 ∷ r) (scale (get_or r (length ps - 1) 0) (vanishing ps))

raised_byte : (ps r : List ℕ) → Each Byte r → Each Byte (raised ps r)
raised_byte ps r b = plus-byte (0 ∷ r) (scale _ (vanishing ps)) (lit< tt, b) (scale-byte _ (vanishing ps))

raised-length : (ps r : List ℕ) → length r ≡ length ps → length (raised ps r) ≡ suc (length ps)
raised-length ps r n =
    plus-length (0 ∷ r) (scale _ (vanishing ps)) (ap suc n ∙ sym (scale-length _ (vanishing ps) ∙ vanishing-length ps)) ∙ ap suc n

module _ (ps r : List ℕ) (n : length r ≡ length ps) (b : Each Byte r) where
  raised_highest : get_or (raised ps r) (length ps) 0 ≡ 0
  raised_highest =
      raised_at r highest (vanishing ps) (length ps)
      ∙ ap₂ ◌⊕◌ (shifted (length ps) n) (ap (◌⊗◌ highest) (vanishing_highest ps) ∙ ⊗_one highest (each_at Byte r (length ps - 1) 0 (lit< tt) b))
      ∙ ⊕_self highest
    where
      highest : ℕ
      highest = get_or r (length ps - 1) 0

      shifted : (d : ℕ) → length r ≡ d → get_or (0 ∷ r) d 0 ≡ get_or r (d - 1) 0
      shifted zero h = sym (get_or-eq_default r 0 (omega arith))
      shifted (suc d) h = simp unary_clauses

  -- without its highest coefficient, which is 0, it has at each of the points the value of x times the remainder
  raised_value : (x : ℕ) → eval x (vanishing ps) ≡ 0 → eval x (take (length ps) (raised ps r)) ≡ x ⊗ eval x r
  unfolding eval next
  raised_value x root =
      sym
      (eval_highest x (raised ps r) (length ps) (raised_byte ps r b) (raised-length ps r n)
      ∙ ap (λ (c : ℕ). eval x (take (length ps) (raised ps r)) ⊕ power x (length ps) ⊗ c) raised_highest
      ∙ ap (◌⊕◌ (eval x (take (length ps) (raised ps r)))) (⊗-zero _) ∙ ⊕-zero _)
      ∙ eval-plus x (0 ∷ r) (scale _ (vanishing ps))
      ∙ ap₂ ◌⊕◌ (zero-⊕ (x ⊗ eval x r)) (eval-scale x _ (vanishing ps) ∙ ap (◌⊗◌ _) root ∙ ⊗-zero _)
      ∙ ⊕-zero (x ⊗ eval x r)

remainder-byte : (ps : List ℕ) (k : ℕ) → Each Byte (remainder ps k)
unfolding remainder
remainder-byte ps zero = each_take Byte (length ps) (vanishing ps) (vanishing-byte ps)
remainder-byte ps (suc k) =
    each_take Byte (length ps) (raised ps (remainder ps k)) (raised_byte ps (remainder ps k) (remainder-byte ps k))

pub remainder-length : (ps : List ℕ) (k : ℕ) → length (remainder ps k) ≡ length ps
unfolding remainder
remainder-length ps zero = length-take-le (length ps) (vanishing ps) (omega (arith, vanishing-length ps))
remainder-length ps (suc k) =
    length-take-le (length ps) (raised ps (remainder ps k)) (omega (arith, raised-length ps (remainder ps k) (remainder-length ps k)))

-- at each of the points a remainder has the value of the power of x that was divided
remainder_value : (ps : List ℕ) (x : ℕ) → eval x (vanishing ps) ≡ 0 → (k : ℕ) → eval x (remainder ps k) ≡ power x (length ps + k)
unfolding remainder power
remainder_value ps x root zero =
    ⊕_equal _ _
    (ap (◌⊕◌ (eval x (take (length ps) (vanishing ps)))) (simp unary_clauses (sym (ap (◌⊗◌ (power x (length ps))) (vanishing_highest ps) ∙ ⊗_one _ (power-byte x (length ps)))))
    ∙ sym (eval_highest x (vanishing ps) (length ps) (vanishing-byte ps) (vanishing-length ps)) ∙ root)
remainder_value ps x root (suc k) =
    raised_value ps (remainder ps k) (remainder-length ps k) (remainder-byte ps k) x root ∙ ap (◌⊗◌ x) (remainder_value ps x root k) ∙ simp unary_clauses

-- ---- what a division leaves of a polynomial's first d + m coefficients

unfoldable pub left : List ℕ → List ℕ → ℕ → List ℕ
left ps cs zero = take (length ps) cs
left ps cs (suc m) = plus (left ps cs m) (scale (get_or cs (length ps + m) 0) (remainder ps m))

module _ (ps cs : List ℕ) (bytes : Each Byte cs) (long : length ps ≤ length cs) where
  pub left-length : (m : ℕ) → length (left ps cs m) ≡ length ps
  unfolding left
  left-length zero = length-take-le (length ps) cs long
  left-length (suc m) =
      let n : length (left ps cs m) ≡ length ps = left-length m in
      plus-length (left ps cs m) (scale _ (remainder ps m)) (n ∙ sym (scale-length _ (remainder ps m) ∙ remainder-length ps m)) ∙ n

  pub left-byte : (m : ℕ) → Each Byte (left ps cs m)
  unfolding left
  left-byte zero = each_take Byte (length ps) cs bytes
  left-byte (suc m) = plus-byte (left ps cs m) (scale _ (remainder ps m)) (left-byte m) (scale-byte _ (remainder ps m))

  -- it has their value at each of the points
  pub left_value : (x : ℕ) → eval x (vanishing ps) ≡ 0 → (m : ℕ) → length ps + m ≤ length cs → eval x (left ps cs m) ≡ eval x (take (length ps + m) cs)
  unfolding left
  left_value x root zero h = simp unary_clauses
  left_value x root (suc m) h =
      let c : ℕ = get_or cs (length ps + m) 0 in
      eval-plus x (left ps cs m) (scale c (remainder ps m))
      ∙ ap₂ ◌⊕◌ (left_value x root m (omega arith)) (eval-scale x c (remainder ps m) ∙ ap (◌⊗◌ c) (remainder_value ps x root m) ∙ ⊗_comm c _)
      ∙ sym (eval-take x cs (length ps + m) bytes (omega arith)) ∙ simp unary_clauses

-- ---- the law

-- the parties' values and the known coefficients, each times its weight, are the coefficient of degree e
pub opening_solved : (ps cs : List ℕ) → Each Byte ps → Distinct ps → Each Byte cs → length ps ≤ length cs
    → (w v : ℕ → ℕ) (e : ℕ) → e < length ps
    → ((a : ℕ) → a < length ps → w a ≡ get_or (basis ps a) e 0)
    → ((a : ℕ) → a < length ps → v a ≡ eval (get_or ps a 0) cs)
    → ((i : ℕ) → length ps ≤ i → i < length cs → w i ≡ get_or (remainder ps (i - length ps)) e 0)
    → ((i : ℕ) → length ps ≤ i → i < length cs → v i ≡ get_or cs i 0)
    → sum_to (length cs) (λ i. w i ⊗ v i) ≡ get_or cs e 0
unfolding left sum_to
opening_solved ps cs points apart bytes long w v e h wp vp wk vk =
    ap (λ (n : ℕ). sum_to n (λ i. w i ⊗ v i)) all
    ∙ sums known (omega arith) ∙ ap (◌⊕◌ whole) (⊕_comm (get_or cs e 0) whole) ∙ ⊕-twice whole (get_or cs e 0)
  where
    known : ℕ
    known = length cs - length ps

    all : length cs ≡ length ps + known
    all = omega arith

    whole : ℕ
    whole = get_or (left ps cs known) e 0

    at : (a : ℕ) → a < length ps → v a ≡ eval (get_or ps a 0) (left ps cs known)
    at a l =
        vp a l
        ∙ sym
        (left_value ps cs bytes long (get_or ps a 0) (each_get_d (λ x. eval x (vanishing ps) ≡ 0) ps a 0 l (vanishing-zero ps)) known (omega arith)
        ∙ ap (eval (get_or ps a 0)) (take_all (length ps + known) cs (omega arith)))

    -- the sum so far, and what the known coefficients that it leaves out still add
    sums : (m : ℕ) → m ≤ known → sum_to (length ps + m) (λ i. w i ⊗ v i) ≡ get_or (left ps cs m) e 0 ⊕ (get_or cs e 0 ⊕ whole)
    sums zero l =
        simp unary_clauses
        (sum_to-same (length ps) _ _ (λ a b. ap₂ ◌⊗◌ (wp a b) (at a b))
        ∙ sym (interpolate_back ps (left ps cs known) points apart (left-length ps cs bytes long known) (left-byte ps cs bytes long known) e)
        ∙ sym (ap (λ (c : ℕ). c ⊕ (get_or cs e 0 ⊕ whole)) (get_or-take (length ps) cs e 0 h) ∙ ⊕-twice (get_or cs e 0) whole))
    sums (suc m) l =
        let c : ℕ = get_or cs (length ps + m) 0 in
        simp unary_clauses
        (ap₂ ◌⊕◌ (sums m (omega arith))
        (ap₂ ◌⊗◌ (wk (length ps + m) (omega arith) (omega arith) ∙ ap (λ (n : ℕ). get_or (remainder ps n) e 0) (add-sub_cancel_left (length ps) m)) (vk (length ps + m) (omega arith) (omega arith))
        ∙ ⊗_comm _ c ∙ sym (scale_at c (remainder ps m) e))
        ∙ ⊕_assoc _ _ _ ∙ ap (◌⊕◌ (get_or (left ps cs m) e 0)) (⊕_comm _ _) ∙ sym (⊕_assoc _ _ _)
        ∙ ap (λ (t : ℕ). t ⊕ (get_or cs e 0 ⊕ whole)) (sym (plus-at (left ps cs m) (scale c (remainder ps m)) e)))

-- ---- the table's entries

module _ (ps : List ℕ) (top : ℕ) where
  opening_at : (i e : ℕ) → i < side → e < side → get_or (get_or (opening_table ps top) i []) e 0 ≡ opening_weight ps top i e
  unfolding opening_table
  opening_at i e h l = get_or-rows side side (opening_weight ps top) i e 0 h l

  pub opening_parties : (a e : ℕ) → a < length ps → a < side → e < side → length ps ≤ side → distinct ps ≡ true
      → get_or (get_or (opening_table ps top) a []) e 0 ≡ get_or (basis ps a) e 0
  unfolding opening_weight
  opening_parties a e h m l short apart = opening_at a e m l ∙ simp (lt-ltb _ _ h, weight-within ps a e h short apart)

  pub opening_known : (i e : ℕ) → length ps ≤ i → i < top → i < side → e < side
      → get_or (get_or (opening_table ps top) i []) e 0 ≡ get_or (remainder ps (i - length ps)) e 0
  unfolding opening_weight
  opening_known i e h t m l = opening_at i e m l ∙ simp (le-ltb _ _ h, lt-ltb _ _ t)
