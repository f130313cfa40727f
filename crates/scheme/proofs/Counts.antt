-- Refusal 3 applies exactly if the counts are none or too many, do not fall, start above n or do not end at n − r: its test, read in
-- facts about the counts by their places. What the code's loop over the counts has found at each way out follows.
-- Assumes nothing.
use mathlib.Core.Path.{◌≡◌, refl}
use mathlib.Core.Bool.{Bool, true, false, ◌||◌, not, true≢false}
use mathlib.Core.Logic.{⊎_elim}
use mathlib.Core.List.{List, [], ◌∷◌}
use Prim.Native.Nat.{ℕ, zero, suc, ◌+◌, ◌-◌, ◌≤◌, ◌<◌}
use native.Mathlib.Omega.{arith}
use lib.Dec.{ltb, eqb}
use lib.ListN.{length, get_or}
use borrow.Author.Tests.{lt-ltb, le-ltb, ne_eqb, ltb-true, ltb-false, eqb-true, eqb-false, not-false}
use Rattle.lists.proofs.Tests.{both, neither, lt_or_le}
use Rattle.lists.proofs.Numbers.{falls_over}
use Rattle.scheme.specs.Limits.{max_counts}
use Rattle.scheme.specs.Check.{falls, first, last, counts_refused}

-- the counts fall strictly
abbrev pub Falls : List ℕ → Type 0
Falls ds = (i : ℕ) → i + 1 < length ds → get_or ds (i + 1) 0 < get_or ds i 0

pub falls_at : (ds : List ℕ) → falls ds ≡ true → Falls ds
unfolding falls
falls_at [] e i h = omega arith
falls_at (d ∷ []) e i h = omega arith
falls_at (d ∷ x ∷ ds) e zero h = ltb-true x d (both (ltb x d) (falls (x ∷ ds)) e).0
falls_at (d ∷ x ∷ ds) e (suc i) h =
    let s : suc i + 1 ≡ suc (i + 1) = omega arith in
    rw s (falls_at (x ∷ ds) (both (ltb x d) (falls (x ∷ ds)) e).1 i (omega arith))

-- the first place at which they do not
pub falls-not : (ds : List ℕ) → falls ds ≡ false → (i : ℕ) × (i + 1 < length ds) × (get_or ds i 0 ≤ get_or ds (i + 1) 0)
unfolding falls
falls-not [] e = absurd (true≢false e)
falls-not (d ∷ []) e = absurd (true≢false e)
falls-not (d ∷ x ∷ ds) e =
    ⊎_elim
    (λ less.
    let later = falls-not (x ∷ ds) (rw (lt-ltb x d less) at e) in
    let s : suc later.0 + 1 ≡ suc (later.0 + 1) = omega arith in
    (suc later.0, omega (arith, later.1), rw s later.2))
    (λ most. (0, omega arith, most))
    (lt_or_le x d)

falls_by : (ds : List ℕ) → Falls ds → falls ds ≡ true
unfolding falls
falls_by [] h = refl
falls_by (d ∷ []) h = refl
falls_by (d ∷ x ∷ ds) h =
    let next : Falls (x ∷ ds) = λ i l.
    let s : suc i + 1 ≡ suc (i + 1) = omega arith in
    rw s at (h (suc i) (omega arith)) in
    rw (lt-ltb x d (h 0 (omega arith)), falls_by (x ∷ ds) next)

last_is : (x : ℕ) (ds : List ℕ) → 0 < length ds → get_or (x ∷ ds) (length ds) 0 ≡ last ds
last_is x [] h = absurd (let no : ⊥ = omega arith in no)
last_is x (d ∷ ds) h =
    let e : suc (length ds) - 1 ≡ length ds = omega arith in
    rw e

-- what refusal 3 leaves
pub record Fit (n r : ℕ) (ds : List ℕ) : Type 0 where
  pub some : 0 < length ds
  pub most : length ds ≤ max_counts
  pub falling : Falls ds
  pub top : first ds ≤ n
  pub bottom : last ds ≡ n - r

module _ (n r : ℕ) (ds : List ℕ) where
  pub counts_fit : counts_refused n r ds ≡ false → Fit n r ds
  unfolding counts_refused
  counts_fit e =
      let none : Bool = eqb (length ds) 0 in
      let many : Bool = ltb max_counts (length ds) in
      let flat : Bool = not (falls ds) in
      let high : Bool = ltb n (first ds) in
      let t4 = neither (none || many || flat || high) (not (eqb (last ds) (n - r))) e in
      let t3 = neither (none || many || flat) high t4.0 in
      let t2 = neither (none || many) flat t3.0 in
      let t1 = neither none many t2.0 in
      record {
        some = omega (arith, eqb-false (length ds) 0 t1.0);
        most = ltb-false max_counts (length ds) t1.1;
        falling = falls_at ds (not-false (falls ds) t2.1);
        top = ltb-false n (first ds) t3.1;
        bottom = eqb-true (last ds) (n - r) (not-false (eqb (last ds) (n - r)) t4.1);
      }

  not_fit : (Fit n r ds → ⊥) → counts_refused n r ds ≡ true
  not_fit h = by (counts_refused n r ds) refl
    where
      by : (t : Bool) → counts_refused n r ds ≡ t → t ≡ true
      by true e = refl
      by false e = absurd (h (counts_fit e))

  pub counts_none : length ds ≡ 0 → counts_refused n r ds ≡ true
  counts_none e = not_fit (λ f. omega (arith, f.some))

  pub counts_many : max_counts < length ds → counts_refused n r ds ≡ true
  counts_many h = not_fit (λ f. omega (arith, f.most))

  -- each count is to be below the one before, the first below n + 1
  pub counts_rise : (i : ℕ) → i < length ds → get_or ((n + 1) ∷ ds) i 0 ≤ get_or ds i 0 → counts_refused n r ds ≡ true
  counts_rise zero h l = not_fit (λ f. omega (arith, f.top))
  counts_rise (suc i) h l =
      let s : i + 1 ≡ suc i = omega arith in
      not_fit (λ f. omega (arith, rw s at (f.falling i (omega arith))))

  pub counts_fall : 0 < length ds → length ds ≤ max_counts → ((i : ℕ) → i < length ds → get_or ds i 0 < get_or ((n + 1) ∷ ds) i 0)
      → counts_refused n r ds ≡ not (eqb (get_or ((n + 1) ∷ ds) (length ds) 0) (n - r))
  unfolding counts_refused
  counts_fall some most h =
      let falling : Falls ds = λ i l.
      let s : i + 1 ≡ suc i = omega arith in
      rw s (h (suc i) (omega arith)) in
      let none = ne_eqb (length ds) 0 (λ e. omega arith) in
      rw (none, le-ltb max_counts (length ds) most, falls_by ds falling, le-ltb n (first ds) (omega (arith, h 0 some)), last_is (n + 1) ds some)

-- every count is between the last and the first
module _ (n r : ℕ) (ds : List ℕ) (f : Fit n r ds) (i : ℕ) (h : i < length ds) where
  pub fit_low : n - r ≤ get_or ds i 0
  fit_low =
      let e : i + (length ds - 1 - i) ≡ length ds - 1 = omega arith in
      let l : last ds ≤ get_or ds i 0 = rw e at (falls_over (λ k. get_or ds k 0) (length ds) f.falling i (length ds - 1 - i) (omega arith)) in
      omega (arith, f.bottom)

  pub fit_high : get_or ds i 0 ≤ n
  fit_high =
      let e : 0 + i ≡ i = omega arith in
      let l : get_or ds i 0 ≤ first ds = rw e at (falls_over (λ k. get_or ds k 0) (length ds) f.falling 0 i (omega arith)) in
      omega (arith, f.top)
