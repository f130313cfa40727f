-- The weights of a row's value at any x. The parties' values give what is left of the row's polynomial by the division, and its value at x; each known
-- coefficient takes off what its power of x left there, and adds itself times that power. And these weights from those of an opening.
-- Assumes nothing.
use mathlib.Core.Path.{◌≡◌, sym, ap, ap₂, ◌∙◌}
use mathlib.Core.List.{List, []}
use Prim.Native.Nat.{ℕ, zero, suc, ◌+◌, ◌-◌, ◌≤◌, ◌<◌}
use native.Mathlib.Nat.{add-sub_cancel_left}
use native.Mathlib.Numerals.{unary_clauses}
use native.Mathlib.Omega.{arith}
use lib.ListN.{length, get_or, take}
use lib.Seq.{take_all}
use borrow.Author.Tests.{lt-ltb, le-ltb}
use Rattle.lists.specs.Each.{Each, Distinct, Byte}
use Rattle.lists.proofs.Each.{each_get_d}
use Rattle.lists.proofs.Table.{tabulate_is}
use Rattle.gf256.specs.Byte.{◌⊕◌, ◌⊗◌, power}
use Rattle.gf256.proofs.Laws.{⊕_assoc, ⊕-zero, ⊕_self, ⊕-twice, interchange, ⊗_comm, ⊕-⊗}
use Rattle.interpolation.specs.Polynomial.{eval, scale, vanishing, lowest, sum_to}
use Rattle.interpolation.specs.Interpolation.{basis}
use Rattle.interpolation.specs.Opening.{remainder, value_weight}
use Rattle.interpolation.proofs.Polynomial.{eval-plus, eval-scale, eval-take, vanishing-zero}
use Rattle.interpolation.proofs.Lagrange.{basis-length, interpolate_value, sum_to-same}
use Rattle.interpolation.proofs.Remainders.{remainder-length, left, left-length, left-byte, left_value}

-- the parties' values and the known coefficients, each times its weight, are the value at x
pub value_solved : (ps cs : List ℕ) → Each Byte ps → Distinct ps → Each Byte cs → length ps ≤ length cs → (x : ℕ)
    → (w v : ℕ → ℕ)
    → ((a : ℕ) → a < length ps → w a ≡ eval x (basis ps a))
    → ((a : ℕ) → a < length ps → v a ≡ eval (get_or ps a 0) cs)
    → ((i : ℕ) → length ps ≤ i → i < length cs → w i ≡ eval x (remainder ps (i - length ps)) ⊕ power x i)
    → ((i : ℕ) → length ps ≤ i → i < length cs → v i ≡ get_or cs i 0)
    → sum_to (length cs) (λ i. w i ⊗ v i) ≡ eval x cs
unfolding left sum_to
value_solved ps cs points apart bytes long x w v wp vp wk vk =
    ap (λ (n : ℕ). sum_to n (λ i. w i ⊗ v i)) all
    ∙ sums known (omega arith) ∙ ⊕-twice whole (up_to known) ∙ ap (eval x) (take_all (length ps + known) cs (omega arith))
  where
    known : ℕ
    known = length cs - length ps

    all : length cs ≡ length ps + known
    all = omega arith

    -- the value of the coefficients below degree d + m, and of what the division leaves of these
    up_to : ℕ → ℕ
    up_to m = eval x (take (length ps + m) cs)

    left_of : ℕ → ℕ
    left_of m = eval x (left ps cs m)

    whole : ℕ
    whole = left_of known

    at : (a : ℕ) → a < length ps → v a ≡ eval (get_or ps a 0) (left ps cs known)
    at a l =
        vp a l
        ∙ sym
        (left_value ps cs bytes long (get_or ps a 0) (each_get_d (λ p. eval p (vanishing ps) ≡ 0) ps a 0 l (vanishing-zero ps)) known (omega arith)
        ∙ ap (eval (get_or ps a 0)) (take_all (length ps + known) cs (omega arith)))

    sums : (m : ℕ) → m ≤ known → sum_to (length ps + m) (λ i. w i ⊗ v i) ≡ whole ⊕ (left_of m ⊕ up_to m)
    sums zero l =
        simp unary_clauses
        (sum_to-same (length ps) _ _ (λ a b. ap₂ ◌⊗◌ (wp a b) (at a b))
        ∙ sym (interpolate_value ps (left ps cs known) points apart (left-length ps cs bytes long known) (left-byte ps cs bytes long known) x)
        ∙ sym (ap (◌⊕◌ whole) (⊕_self (eval x (take (length ps) cs))) ∙ ⊕-zero whole))
    sums (suc m) l =
        let c : ℕ = get_or cs (length ps + m) 0 in
        let r : ℕ = eval x (remainder ps m) in
        let p : ℕ = power x (length ps + m) in
        simp unary_clauses
        (ap₂ ◌⊕◌ (sums m (omega arith))
        (ap₂ ◌⊗◌ (wk (length ps + m) (omega arith) (omega arith) ∙ ap (λ (n : ℕ). eval x (remainder ps n) ⊕ p) (add-sub_cancel_left (length ps) m)) (vk (length ps + m) (omega arith) (omega arith))
        ∙ ⊕-⊗ r p c)
        ∙ ⊕_assoc whole (left_of m ⊕ up_to m) (r ⊗ c ⊕ p ⊗ c)
        ∙ ap (◌⊕◌ whole)
        (interchange (left_of m) (up_to m) (r ⊗ c) (p ⊗ c)
        ∙ ap₂ ◌⊕◌
        (ap (◌⊕◌ (left_of m)) (⊗_comm r c ∙ sym (eval-scale x c (remainder ps m))) ∙ sym (eval-plus x (left ps cs m) (scale c (remainder ps m))))
        (sym (eval-take x cs (length ps + m) bytes (omega arith)))))

-- ---- from the weights of an opening

module _ (ps : List ℕ) (d : ℕ) (weights : List (List ℕ)) where
  -- a row that has below d the coefficients of a polynomial of length d
  chosen-row : (i : ℕ) (cs : List ℕ) → length cs ≡ d → ((e : ℕ) → e < d → get_or (get_or weights i []) e 0 ≡ get_or cs e 0) → lowest d (get_or weights i []) ≡ cs
  chosen-row i cs n same = sym (tabulate_is cs d (λ e. get_or (get_or weights i []) e 0) 0 n (λ e h. sym (same e h)))

  pub chosen_party : (x a : ℕ) → length ps ≡ d → a < d → ((e : ℕ) → e < d → get_or (get_or weights a []) e 0 ≡ get_or (basis ps a) e 0)
      → value_weight weights d x a ≡ eval x (basis ps a)
  unfolding value_weight
  chosen_party x a n h same = simp (lt-ltb a d h) (⊕-zero _ ∙ ap (eval x) (chosen-row a (basis ps a) (basis-length ps a ∙ n) same))

  pub chosen-known : (x i : ℕ) → length ps ≡ d → d ≤ i → ((e : ℕ) → e < d → get_or (get_or weights i []) e 0 ≡ get_or (remainder ps (i - d)) e 0)
      → value_weight weights d x i ≡ eval x (remainder ps (i - d)) ⊕ power x i
  unfolding value_weight
  chosen-known x i n h same =
      simp (le-ltb i d h) (ap (λ (r : List ℕ). eval x r ⊕ power x i) (chosen-row i (remainder ps (i - d)) (remainder-length ps (i - d) ∙ n) same))
