-- The groups of rows: a row's group is the first whose P is above the row, and the P's rise from group to group up to b.
-- By induction on the list of counts, and by the facts of an accepted scheme.
-- Assumes nothing.
use mathlib.Core.Path.{◌≡◌}
use mathlib.Core.List.{List, [], ◌∷◌}
use mathlib.Core.Logic.{⊎_elim}
use Prim.Native.Nat.{ℕ, zero, suc, ◌+◌, ◌-◌, ◌≤◌, ◌<◌}
use native.Mathlib.Omega.{arith}
use lib.ListN.{length, get_or}
use borrow.Author.Tests.{lt-ltb, le-ltb}
use Rattle.lists.proofs.Tests.{lt_or_le}
use Rattle.lists.proofs.Numbers.{falls_over, rises_over}
use Rattle.scheme.specs.Check.{rows_of_count}
use Rattle.scheme.specs.Facts as facts
use Rattle.staircase.specs.Coefficients.{group_of, count_of}

-- ---- the search for a row's group, in any list of counts

module _ (m z j : ℕ) where
  here : (d : ℕ) (ds : List ℕ) → j < rows_of_count m z d → group_of m z (d ∷ ds) j ≡ 0
  unfolding group_of
  here d ds l = rw (lt-ltb j (rows_of_count m z d) l)

  later : (d : ℕ) (ds : List ℕ) → rows_of_count m z d ≤ j → group_of m z (d ∷ ds) j ≡ suc (group_of m z ds j)
  unfolding group_of
  later d ds l = rw (le-ltb j (rows_of_count m z d) l)

  -- the row is past every group before its own
  pub group_past : (ds : List ℕ) (k : ℕ) → k < group_of m z ds j → rows_of_count m z (get_or ds k 0) ≤ j
  unfolding group_of
  group_past [] k h = omega arith
  group_past (d ∷ ds) zero h = ⊎_elim (λ l. omega (arith, here d ds l)) (λ l. l) (lt_or_le j (rows_of_count m z d))
  group_past (d ∷ ds) (suc k) h =
      ⊎_elim (λ l. omega (arith, here d ds l))
      (λ l. group_past ds k (omega (arith, later d ds l)))
      (lt_or_le j (rows_of_count m z d))

  -- it is within its own
  pub group_within : (ds : List ℕ) → group_of m z ds j < length ds → j < rows_of_count m z (get_or ds (group_of m z ds j) 0)
  group_within [] h = absurd (omega arith)
  group_within (d ∷ ds) h =
      ⊎_elim (λ l. rw (here d ds l) l)
      (λ l. rw (later d ds l) (group_within ds (omega (arith, later d ds l))))
      (lt_or_le j (rows_of_count m z d))

  -- and its own is no later than any that it is within
  pub group_least : (ds : List ℕ) (k : ℕ) → k < length ds → j < rows_of_count m z (get_or ds k 0) → group_of m z ds j ≤ k
  group_least [] k h l = omega arith
  group_least (d ∷ ds) zero h l = omega (arith, here d ds l)
  group_least (d ∷ ds) (suc k) h l =
      ⊎_elim (λ p. omega (arith, here d ds p))
      (λ p. omega (arith, later d ds p, group_least ds k (omega arith) l))
      (lt_or_le j (rows_of_count m z d))

-- ---- an accepted scheme

module _ (n r z : ℕ) (ds : List ℕ) (m b : ℕ) (A : facts.SchemeFacts n r z ds m b) where
  -- every count is above z
  pub count-above : (i : ℕ) → i < length ds → z < get_or ds i 0
  count-above i h = omega (arith, A.low i h, A.sizes.room)

  pub counts_fall : (i k : ℕ) → i ≤ k → k < length ds → get_or ds k 0 ≤ get_or ds i 0
  counts_fall i k l h =
      let e : i + (k - i) ≡ k = omega arith in
      rw e at (falls_over (λ x. get_or ds x 0) (length ds) A.falling i (k - i) (omega arith))

  -- the P's rise with the groups, up to b
  pub rows_rise : (i k : ℕ) → i ≤ k → k < length ds → rows_of_count m z (get_or ds i 0) ≤ rows_of_count m z (get_or ds k 0)
  rows_rise i k l h =
      let e : i + (k - i) ≡ k = omega arith in
      rw e at (rises_over (λ x. rows_of_count m z (get_or ds x 0)) (length ds) A.rising i (k - i) (omega arith))

  pub rows_rise_strictly : (i k : ℕ) → i < k → k < length ds → rows_of_count m z (get_or ds i 0) < rows_of_count m z (get_or ds k 0)
  rows_rise_strictly i k l h = omega (arith, A.rising i (omega arith), rows_rise (i + 1) k (omega arith) h)

  pub rows_most : (i : ℕ) → i < length ds → rows_of_count m z (get_or ds i 0) ≤ b
  rows_most i h = omega (arith, rows_rise i (length ds - 1) (omega arith) (omega arith), A.last-rows)

  -- every row has a group
  pub group_place : (j : ℕ) → j < b → group_of m z ds j < length ds
  group_place j h =
      omega (arith, group_least m z j ds (length ds - 1) (omega (arith, A.some)) (omega (arith, A.last-rows)), A.some)

  pub group_below : (j : ℕ) → j < b → j < rows_of_count m z (count_of m z ds j)
  unfolding count_of
  group_below j h = group_within m z j ds (group_place j h)

  pub group_above : (j : ℕ) → j < b → 0 < group_of m z ds j → rows_of_count m z (get_or ds (group_of m z ds j - 1) 0) ≤ j
  group_above j h p = group_past m z j ds (group_of m z ds j - 1) (omega arith)

  pub group_is : (i j : ℕ) → i < length ds → j < rows_of_count m z (get_or ds i 0)
      → (0 < i → rows_of_count m z (get_or ds (i - 1) 0) ≤ j) → group_of m z ds j ≡ i
  group_is i j h l past =
      let most : group_of m z ds j ≤ i = group_least m z j ds i h l in
      ⊎_elim (λ (s : group_of m z ds j < i).
      let own : j < rows_of_count m z (get_or ds (group_of m z ds j) 0) = group_within m z j ds (omega arith) in
      omega (arith, past (omega arith), rows_rise (group_of m z ds j) (i - 1) (omega arith) (omega arith)))
      (λ s. omega arith)
      (lt_or_le (group_of m z ds j) i)
