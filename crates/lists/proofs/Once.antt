-- A list of numbers with each of them once: as a set it is the same.
-- Assumes nothing.
use mathlib.Core.Path.{◌≡◌, refl}
use mathlib.Core.Bool.{Bool, true, false, cond}
use mathlib.Core.List.{List, [], ◌∷◌}
use Prim.Native.Nat.{ℕ, suc, ◌≤◌}
use native.Mathlib.Omega.{arith}
use lib.ListN.{length}
use Rattle.lists.specs.Each.{Each, Distinct, occurs}
use Rattle.lists.proofs.Each.{each_get_d, occurs-false, occurs-place}

unfoldable pub once : List ℕ → List ℕ
once [] = []
once (x ∷ xs) = cond (occurs x (once xs)) (once xs) (x ∷ once xs)

-- an entry more, by whether it is there already
module _ (x : ℕ) (xs : List ℕ) where
  distinct_by : (t : Bool) → occurs x xs ≡ t → Distinct xs → Distinct (cond t xs (x ∷ xs))
  distinct_by true e d = d
  distinct_by false e d = (occurs-false x xs e, d)

  short_by : (t : Bool) → length (cond t xs (x ∷ xs)) ≤ suc (length xs)
  short_by true = omega arith
  short_by false = omega arith

  module _ (P : ℕ → Type 0) where
    each_by : (t : Bool) → P x → Each P xs → Each P (cond t xs (x ∷ xs))
    each_by true p h = h
    each_by false p h = (p, h)

    back_by : (t : Bool) → occurs x xs ≡ t → Each P (cond t xs (x ∷ xs)) → P x × Each P xs
    back_by true e h =
        let at = occurs-place x xs e in
        (rw at.2 at (each_get_d P xs at.0 0 at.1 h), h)
    back_by false e h = h

pub once-distinct : (l : List ℕ) → Distinct (once l)
unfolding once
once-distinct [] = tt
once-distinct (x ∷ l) = distinct_by x (once l) (occurs x (once l)) refl (once-distinct l)

pub once_short : (l : List ℕ) → length (once l) ≤ length l
unfolding once
once_short [] = omega arith
once_short (x ∷ l) = omega (arith, short_by x (once l) (occurs x (once l)), once_short l)

module _ (P : ℕ → Type 0) where
  pub once_each : (l : List ℕ) → Each P l → Each P (once l)
  unfolding once
  once_each [] h = tt
  once_each (x ∷ l) h = each_by x (once l) P (occurs x (once l)) h.0 (once_each l h.1)

  pub each_once : (l : List ℕ) → Each P (once l) → Each P l
  unfolding once
  each_once [] h = tt
  each_once (x ∷ l) h =
      let b = back_by x (once l) P (occurs x (once l)) refl h in
      (b.0, each_once l b.1)
