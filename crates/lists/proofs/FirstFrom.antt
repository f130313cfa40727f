-- What the search for the first number that passes a test finds.
-- Assumes nothing.
use mathlib.Core.Path.{◌≡◌, refl}
use mathlib.Core.Bool.{Bool, true, false, cond}
use mathlib.Core.Logic.{⊎_elim}
use Prim.Native.Nat.{ℕ, zero, suc, ◌+◌, ◌-◌, ◌≤◌, ◌<◌}
use native.Mathlib.Nat.{eq-or-lt_of_le}
use native.Mathlib.Omega.{arith}
use Rattle.lists.specs.FirstFrom.{first_from}

-- none of the numbers from x up to y passes
abbrev pub NoneFrom : (ℕ → Bool) → ℕ → ℕ → Type 0
NoneFrom test x y = (k : ℕ) → x ≤ k → k < y → test k ≡ false

-- what the search over `many` numbers from x up finds
pub record FirstFound (test : ℕ → Bool) (many x y : ℕ) : Type 0 where
  pub low : x ≤ y
  pub high : y ≤ x + many
  pub here : y < x + many → test y ≡ true
  pub before : NoneFrom test x y

module _ (test : ℕ → Bool) where
  later : (many x y : ℕ) → test x ≡ false → FirstFound test many (x + 1) y → FirstFound test (suc many) x y
  later many x y e f =
      record {
        low = omega (arith, f.low);
        high = omega (arith, f.high);
        here = λ h. f.here (omega arith);
        before = λ k a b. ⊎_elim (λ s. rw (← s) e) (λ s. f.before k (omega arith) b) (eq-or-lt_of_le a);
      }

  found_by : (many x y : ℕ) (t : Bool) → test x ≡ t → FirstFound test many (x + 1) y → FirstFound test (suc many) x (cond t x y)
  found_by many x y true e f =
      record { low = omega arith; high = omega arith; here = λ h. e; before = λ k a b. absurd (let no : ⊥ = omega arith in no) }
  found_by many x y false e f = later many x y e f

  pub first_found : (many x : ℕ) → FirstFound test many x (first_from test many x)
  unfolding first_from
  first_found zero x =
      record {
        low = omega arith;
        high = omega arith;
        here = λ h. absurd (let no : ⊥ = omega arith in no);
        before = λ k a b. absurd (let no : ⊥ = omega arith in no);
      }
  first_found (suc many) x = found_by many x _ (test x) refl (first_found many (x + 1))

  -- ---- the search as a loop makes it: of n numbers those from i on are left

  pub first_here : (n i : ℕ) → i < n → test i ≡ true → first_from test (n - i) i ≡ i
  unfolding first_from
  first_here n i h e =
      let more : n - i ≡ suc (n - i - 1) = omega arith in
      rw (more, e)

  pub first_next : (n i : ℕ) → i < n → test i ≡ false → first_from test (n - i) i ≡ first_from test (n - (i + 1)) (i + 1)
  unfolding first_from
  first_next n i h e =
      let more : n - i ≡ suc (n - (i + 1)) = omega arith in
      rw (more, e)

  pub first_end : (n i : ℕ) → n ≤ i → first_from test (n - i) i ≡ i
  unfolding first_from
  first_end n i h =
      let none : n - i ≡ 0 = omega arith in
      rw none
