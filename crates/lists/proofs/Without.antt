-- Laws of `without`: its length, its entries, and that it lacks the entry left out of a list with no number twice.
-- Assumes nothing.
use mathlib.Core.Path.{◌≡◌, refl, sym, ap}
use mathlib.Core.Logic.{◌≢◌}
use mathlib.Core.List.{List, [], ◌∷◌}
use Prim.Native.Nat.{ℕ, zero, suc, ◌<◌, suc-le-suc}
use native.Mathlib.Nat.{le_of_suc-le-suc, zero-lt-suc, suc_inj, suc-ne-zero, not-suc-le-zero}
use lib.ListN.{length, get_or}
use Rattle.lists.specs.Each.{Each, Distinct}
use Rattle.lists.specs.Without.{without}
use Rattle.lists.proofs.Each.{each_get_d, each_of}

module _ {ℓ} {A : Type ℓ} where
  pub length_without : (l : List A) (i : ℕ) → i < length l → suc (length (without i l)) ≡ length l
  unfolding without
  length_without [] i h = absurd (not-suc-le-zero h)
  length_without (x ∷ xs) zero h = refl
  length_without (x ∷ xs) (suc i) h = ap suc (length_without xs i (le_of_suc-le-suc h))

  -- every entry but the one left out is still there
  pub without_other : (P : A → Type 0) (l : List A) (i j : ℕ) (d : A) → j < length l → j ≢ i → Each P (without i l) → P (get_or l j d)
  unfolding without
  without_other P [] i j d b n h = absurd (not-suc-le-zero b)
  without_other P (x ∷ xs) zero zero d b n h = absurd (n refl)
  without_other P (x ∷ xs) zero (suc j) d b n h = each_get_d P xs j d (le_of_suc-le-suc b) h
  without_other P (x ∷ xs) (suc i) zero d b n h = h.0
  without_other P (x ∷ xs) (suc i) (suc j) d b n h = without_other P xs i j d (le_of_suc-le-suc b) (λ e. n (ap suc e)) h.1

  -- what every entry but one has, all have that are left
  pub without_each : (P : A → Type 0) (l : List A) (i : ℕ) (d : A) → ((j : ℕ) → j < length l → j ≢ i → P (get_or l j d)) → Each P (without i l)
  unfolding without
  without_each P [] i d h = tt
  without_each P (x ∷ xs) zero d h = each_of P xs d (λ j b. h (suc j) (suc-le-suc b) (suc-ne-zero j))
  without_each P (x ∷ xs) (suc i) d h =
      (h 0 (zero-lt-suc (length xs)) (λ e. suc-ne-zero i (sym e)), without_each P xs i d (λ j b n. h (suc j) (suc-le-suc b) (λ e. n (suc_inj e))))

-- where no number stands twice, the one left out is none of the others
pub without-distinct : (l : List ℕ) (i : ℕ) → i < length l → Distinct l → Each (λ y. get_or l i 0 ≢ y) (without i l)
unfolding without
without-distinct [] i b h = tt
without-distinct (x ∷ xs) zero b h = h.0
without-distinct (x ∷ xs) (suc i) b h =
    (λ e. each_get_d (λ y. x ≢ y) xs i 0 (le_of_suc-le-suc b) h.0 (sym e), without-distinct xs i (le_of_suc-le-suc b) h.1)

-- what all entries have, those that are left have, and no number stands twice among them
pub each_without : (P : ℕ → Type 0) (l : List ℕ) (i : ℕ) → Each P l → Each P (without i l)
each_without P l i h = without_each P l i 0 (λ j b _. each_get_d P l j 0 b h)

pub distinct_without : (l : List ℕ) (i : ℕ) → Distinct l → Distinct (without i l)
unfolding without
distinct_without [] i h = tt
distinct_without (x ∷ l) zero h = h.1
distinct_without (x ∷ l) (suc i) h = (each_without (λ y. x ≢ y) l i h.0, distinct_without l i h.1)
