-- Distinct places of a list: there are no more of them than the list has, and where no number stands twice in it the numbers at them are distinct too.
-- Assumes nothing.
use mathlib.Core.Path.{◌≡◌, refl}
use mathlib.Core.Bool.{Bool, true, false}
use mathlib.Core.Logic.{◌≢◌}
use mathlib.Core.List.{List, [], ◌∷◌, map}
use Prim.Native.Nat.{ℕ, zero, suc, ◌≤◌, ◌<◌}
use native.Mathlib.Omega.{arith}
use lib.ListN.{length, get_or}
use Rattle.lists.specs.Each.{Each, Distinct, occurs}
use Rattle.lists.specs.Without.{without}
use Rattle.lists.proofs.Each.{each_of, each_get_d, each_mapped, occurs-false, occurs-place}
use Rattle.lists.proofs.Without.{length_without, without_other, without-distinct, each_without, distinct_without}

lower : (n : ℕ) (l : List ℕ) → Each (λ a. n ≢ a) l → Each (λ a. a < suc n) l → Each (λ a. a < n) l
lower n l other below =
    each_of (λ a. a < n) l 0
    (λ k h. omega (arith, each_get_d (λ a. n ≢ a) l k 0 h other, each_get_d (λ a. a < suc n) l k 0 h below))

pub distinct_few : (n : ℕ) (l : List ℕ) → Distinct l → Each (λ a. a < n) l → length l ≤ n
distinct_few zero [] d h = omega arith
distinct_few zero (x ∷ l) d h = absurd (let no : ⊥ = omega (arith, h.0) in no)
distinct_few (suc n) l d h = by (distinct_few n) (occurs n l) refl
  where
    by : ((l : List ℕ) → Distinct l → Each (λ a. a < n) l → length l ≤ n) → (t : Bool) → occurs n l ≡ t → length l ≤ suc n
    by few false e = let short = few l d (lower n l (occurs-false n l e) h) in omega arith
    by few true e =
        let at = occurs-place n l e in
        let other : Each (λ a. n ≢ a) (without at.0 l) = rw at.2 at (without-distinct l at.0 at.1 d) in
        let short = few (without at.0 l) (distinct_without l at.0 d) (lower n (without at.0 l) other (each_without (λ a. a < suc n) l at.0 h)) in
        omega (arith, length_without l at.0 at.1)

module _ (l : List ℕ) (apart : Distinct l) where
  pub places-apart : (places : List ℕ) → Distinct places → Each (λ a. a < length l) places → Distinct (map (λ a. get_or l a 0) places)
  places-apart [] d h = tt
  places-apart (a ∷ places) d h = (
    each_mapped (λ y. get_or l a 0 ≢ y) (λ b. get_or l b 0) places
        (each_of (λ b. get_or l a 0 ≢ get_or l b 0) places 0
        (λ k b.
        without_other (λ y. get_or l a 0 ≢ y) l a (get_or places k 0) 0 (each_get_d (λ b. b < length l) places k 0 b h.1)
        (λ e. each_get_d (λ b. a ≢ b) places k 0 b d.0 (cc))
        (without-distinct l a h.0 apart))),
    places-apart places d.1 h.1,
  )
