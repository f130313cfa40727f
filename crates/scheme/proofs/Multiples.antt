-- The search over the multiples of the first d − z, rising. Every number that all d − z divide is one of them, so the first of them that all divide is
-- the least of all numbers that they do, which is m; and where they divide none up to the limit, m is above it.
-- Assumes nothing.
use mathlib.Core.Path.{◌≡◌, sym, ap, ◌∙◌}
use mathlib.Core.Bool.{true, false, true≢false}
use mathlib.Core.Logic.{⊎_elim}
use mathlib.Core.List.{List}
use Prim.Native.Nat.{ℕ, ◌+◌, ◌-◌, ◌*◌, ◌/◌, ◌%◌, ◌≤◌, ◌<◌, ◌∣◌}
use native.Mathlib.Nat.{zero-mul, suc-mul, mul-le-mul_right, mul-mod_left, div-mul_cancel, div-eq_of_eq-mul_left, div-eq_of_lt-le, eq-or-lt_of_le}
use native.Mathlib.Numerals.{add-one}
use native.Mathlib.Omega.{arith}
use lib.ListN.{length}
use Rattle.lists.specs.Each.{Each}
use Rattle.lists.proofs.Each.{each_get_d}
use Rattle.lists.proofs.Numbers.{positive_factor}
use Rattle.std.specs.Prelude.{Some, None}
use Rattle.scheme.specs.Limits.{max_block}
use Rattle.scheme.specs.BlockLength.{divides, block_length, Least}
use Rattle.scheme.specs.Check.{first, rows_of_count}
use Rattle.scheme.specs.Tried.{SearchedTo}
use Rattle.scheme.proofs.BlockLength.{divides_each, each_divides, block_least, least_unique}

-- where every count is above z, the first d − z is positive
pub first_positive : (z : ℕ) (ds : List ℕ) → 0 < length ds → Each (λ d. z < d) ds → 0 < first ds - z
first_positive z ds some above = omega (arith, each_get_d {A = ℕ} (λ d. z < d) ds 0 0 some above)

-- the search so far: so many multiples of the first d − z, the step, were tried, up to m, and all d − z divide none of them
pub record Searching (z : ℕ) (ds : List ℕ) (step m tried : ℕ) : Type 0 where
  pub step_is : step ≡ first ds - z
  pub last_is : m ≡ tried * step
  pub within : m ≤ max_block
  pub none : (k : ℕ) → 0 < k → k ≤ tried → divides z ds (k * step) ≡ false

module _ (z : ℕ) (ds : List ℕ) (step : ℕ) where
  pub searching_first : step ≡ first ds - z → Searching z ds step 0 0
  searching_first e =
      record { step_is = e; last_is = sym (zero-mul step); within = omega arith; none = λ k a b. absurd (let no : ⊥ = omega arith in no) }

  module _ (m tried : ℕ) (s : Searching z ds step m tried) where
    next_is : m + step ≡ (tried + 1) * step
    next_is = rw (add-one tried, suc-mul tried step) (ap (λ (x : ℕ). x + step) s.last_is)

    -- the first d − z divides the next one
    pub first-divides : (m + step) % (first ds - z) ≡ 0
    first-divides = rw (sym s.step_is) (rw next_is (mul-mod_left (tried + 1) step))

    pub searching_more : m + step ≤ max_block → divides z ds (m + step) ≡ false → Searching z ds step (m + step) (tried + 1)
    searching_more h e =
        record {
          step_is = s.step_is;
          last_is = next_is;
          within = h;
          none = λ k a b. ⊎_elim (λ k-is. rw k-is (rw (sym next_is) e)) (λ l. s.none k a (omega arith)) (eq-or-lt_of_le b);
        }

    module _ (some : 0 < length ds) (above : Each (λ d. z < d) ds) where
      step_positive : 0 < step
      step_positive = rw s.step_is (first_positive z ds some above)

      -- a number that all divide is a multiple, and so the next one or a greater one
      past : (x : ℕ) → 0 < x → Each (λ d. d - z ∣ x) ds → m + step ≤ x
      past x p h =
          let divided : step ∣ x = rw s.step_is (each_get_d {A = ℕ} (λ d. d - z ∣ x) ds 0 0 some h) in
          let is : x / step * step ≡ x = div-mul_cancel step divided in
          let positive : 0 < x / step = positive_factor (x / step) step x p is in
          let no : x / step ≤ tried → ⊥ = λ l. true≢false (sym (each_divides z ds x h) ∙ (rw is at (s.none (x / step) positive l))) in
          let more : (tried + 1) * step ≤ x / step * step = mul-le-mul_right step (omega arith) in
          omega (arith, next_is)

      -- its two ways out: at a multiple that all divide, and past the limit
      pub search_found : m + step ≤ max_block → divides z ds (m + step) ≡ true → SearchedTo z ds (Some (m + step)) (tried + 1)
      unfolding rows_of_count
      search_found h e =
          let positive : 0 < m + step = omega (arith, step_positive) in
          let least : Least z ds (m + step) = record { positive = positive; divided = divides_each z ds (m + step) e; smallest = past } in (
            least_unique least (block_least z ds above),
            h,
            sym (div-eq_of_eq-mul_left step_positive next_is) ∙ ap (λ (d : ℕ). (m + step) / d) s.step_is,
          )

      pub search_past : max_block < m + step → SearchedTo z ds None tried
      search_past h =
          let b = block_least z ds above in (
            omega (arith, past (block_length z ds) b.positive b.divided),
            rw s.step_is at (sym (div-eq_of_lt-le step (rw s.last_is at s.within) (rw next_is at h))),
          )
