-- Numbers that are in a list, in one of several lists, and lists of numbers that are all in another.
-- Assumes nothing.
use mathlib.Core.Path.{◌≡◌, refl, sym, ap, ◌∙◌}
use mathlib.Core.Bool.{Bool, true, ◌||◌, true≢false}
use mathlib.Core.List.{List, [], ◌∷◌, ◌++◌}
use mathlib.Core.Logic.{⊎_elim}
use Prim.Native.Nat.{ℕ, zero, suc, ◌<◌, ◌≤◌}
use native.Mathlib.Omega.{arith}
use lib.Dec.{eqb}
use lib.ListN.{length, get_or}
use borrow.Author.Tests.{eq-eqb}
use Rattle.lists.specs.Each.{occurs, all_in}
use Rattle.lists.specs.Table.{joined}
use Rattle.lists.proofs.Tests.{both, either, or_right, or_assoc, lt_or_le}

pub occurs-at : (x : ℕ) (l : List ℕ) (i : ℕ) → i < length l → get_or l i 0 ≡ x → occurs x l ≡ true
unfolding occurs
occurs-at x [] i h e = absurd (omega arith)
occurs-at x (y ∷ ys) zero h e = rw (eq-eqb x y (sym e))
occurs-at x (y ∷ ys) (suc i) h e = or_right (eqb x y) (occurs x ys) (occurs-at x ys i (omega arith) e)

occurs-append : (x : ℕ) (l k : List ℕ) → occurs x (l ++ k) ≡ occurs x l || occurs x k
unfolding occurs
occurs-append x [] k = refl
occurs-append x (y ∷ ys) k = rw (occurs-append x ys k) (or_assoc (eqb x y) (occurs x ys) (occurs x k))

-- ---- in one of the lists f 0, f 1, .., f (t − 1)

module _ (x : ℕ) (f : ℕ → List ℕ) where
  pub in-joined : (t u : ℕ) → u < t → occurs x (f u) ≡ true → occurs x (joined t f) ≡ true
  unfolding joined
  in-joined zero u h e = absurd (omega arith)
  in-joined (suc t) u h e =
      occurs-append x (joined t f) (f t)
      ∙ ⊎_elim (λ (l : u < t). ap (λ (c : Bool). c || occurs x (f t)) (in-joined t u l e))
      (λ (l : t ≤ u).
      let s : t ≡ u = omega arith in
      or_right (occurs x (joined t f)) (occurs x (f t)) (rw s e))
      (lt_or_le u t)

  pub joined_in : (t : ℕ) → occurs x (joined t f) ≡ true → (u : ℕ) × (u < t) × (occurs x (f u) ≡ true)
  unfolding joined occurs
  joined_in zero e = absurd (true≢false (sym e))
  joined_in (suc t) e =
      ⊎_elim (λ (h : occurs x (joined t f) ≡ true).
      let r = joined_in t h in
      (r.0, omega (arith, r.1), r.2))
      (λ (h : occurs x (f t) ≡ true). (t, omega arith, h))
      (either (occurs x (joined t f)) (occurs x (f t)) (sym (occurs-append x (joined t f) (f t)) ∙ e))

-- ---- all of a list

pub all_in_lem : (xs ys : List ℕ) → all_in xs ys ≡ true → (i : ℕ) → i < length xs → occurs (get_or xs i 0) ys ≡ true
unfolding all_in
all_in_lem [] ys e i h = absurd (omega arith)
all_in_lem (x ∷ xs) ys e zero h = (both (occurs x ys) (all_in xs ys) e).0
all_in_lem (x ∷ xs) ys e (suc i) h = all_in_lem xs ys (both (occurs x ys) (all_in xs ys) e).1 i (omega arith)

pub in_all : (xs ys : List ℕ) → ((i : ℕ) → i < length xs → occurs (get_or xs i 0) ys ≡ true) → all_in xs ys ≡ true
unfolding all_in
in_all [] ys h = refl
in_all (x ∷ xs) ys h = rw (h 0 (omega arith)) (in_all xs ys (λ i l. h (suc i) (omega arith)))
