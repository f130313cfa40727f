-- The order in which a block is opened from d parties: a coefficient of degree d or more of the first P rows stands again below degree d in a
-- later one of them, past its own row's group. By following it forward from group to group; and what else is known of the origins in these rows.
-- Assumes nothing.
use mathlib.Core.Path.{◌≡◌, refl, ap, ◌∙◌}
use mathlib.Core.List.{List}
use mathlib.Core.Logic.{⊎_elim}
use Prim.Native.Nat.{ℕ, zero, suc, ◌+◌, ◌-◌, ◌*◌, ◌%◌, ◌≤◌, ◌<◌}
use native.Mathlib.Nat.{mod-lt}
use native.Mathlib.Omega.{arith}
use lib.ListN.{length, get_or}
use Rattle.lists.proofs.Tests.{lt_or_le}
use Rattle.scheme.specs.Check.{rows_of_count}
use Rattle.scheme.specs.Facts as facts
use Rattle.staircase.specs.Coefficients.{group_of, count_of, origin}
use Rattle.staircase.proofs.Groups.{count-above, counts_fall, rows_rise, rows_most, group_within, group_least}
use Rattle.staircase.proofs.Origin.{Once, origin_below, origin_onto, origin_forward, rows-once}

-- the message byte at place p stands in one of the rows from `from` up, below P, at a degree from z, below d
pub record Stands (m z : ℕ) (ds : List ℕ) (P d from p : ℕ) : Type 0 where
  pub row : ℕ
  pub degree : ℕ
  pub past : from ≤ row
  pub within : row < P
  pub low : z ≤ degree
  pub high : degree < d
  pub is : origin m z ds row degree ≡ p

-- what the opening by a count d, with P rows, has to know of the origins
pub record Order (m b z : ℕ) (ds : List ℕ) (d P : ℕ) : Type 0 where
  pub above : z < d
  pub most : P ≤ b
  pub wide : (j : ℕ) → j < P → d ≤ count_of m z ds j
  pub own : (j : ℕ) → j < P → j < rows_of_count m z (count_of m z ds j)
  pub place : (j e : ℕ) → j < P → z ≤ e → e < d → origin m z ds j e < m
  pub once : Once z P d (origin m z ds)
  -- a coefficient of degree d or more stands again in a later group
  pub again : (j e : ℕ) → j < P → d ≤ e → e < count_of m z ds j → Stands m z ds P d (rows_of_count m z (count_of m z ds j)) (origin m z ds j e)
  pub onto : (p : ℕ) → p < m → Stands m z ds P d 0 p

-- a later start serves an earlier one
sooner : {m z : ℕ} {ds : List ℕ} {P d from p : ℕ} (first q : ℕ) → first ≤ from → p ≡ q → Stands m z ds P d from p → Stands m z ds P d first q
sooner first q le e s =
    record {
      row = s.row;
      degree = s.degree;
      past = omega (arith, s.past);
      within = s.within;
      low = s.low;
      high = s.high;
      is = s.is ∙ e;
    }

module _ (n r z : ℕ) (ds : List ℕ) (m b : ℕ) (A : facts.SchemeFacts n r z ds m b) (i d P : ℕ) (hi : i < length ds) (d-is : d ≡ get_or ds i 0)
    (P-is : P ≡ rows_of_count m z d) where
  in-first : (j : ℕ) → j < P → j < rows_of_count m z (get_or ds i 0)
  in-first j h = rw (P-is, d-is) at h

  group_first : (j : ℕ) → j < P → group_of m z ds j ≤ i
  group_first j h = group_least m z j ds i hi (in-first j h)

  wide : (j : ℕ) → j < P → d ≤ count_of m z ds j
  unfolding count_of
  wide j h = rw d-is (counts_fall n r z ds m b A (group_of m z ds j) i (group_first j h) hi)

  own : (j : ℕ) → j < P → j < rows_of_count m z (count_of m z ds j)
  unfolding count_of
  own j h = group_within m z j ds (omega (arith, group_first j h))

  most : P ≤ b
  most = rw (P-is, d-is) (rows_most n r z ds m b A i hi)

  rows_up_to : (k : ℕ) → k ≤ i → rows_of_count m z (get_or ds k 0) ≤ P
  rows_up_to k l = rw (P-is, d-is) (rows_rise n r z ds m b A k i l hi)

  -- a coefficient that the next count keeps is one of the next group's too; one that it drops stands again in the next group, and is followed on
  -- from there unless it stands below d. `left` groups are left
  forward : (left g : ℕ) → g + left ≡ i → (j e : ℕ) → j < rows_of_count m z (get_or ds g 0) → d ≤ e → e < get_or ds g 0
      → Stands m z ds P d (rows_of_count m z (get_or ds g 0)) (origin m z ds j e)
  forward zero g at j e h low high =
      let same : g ≡ i = omega arith in
      absurd (omega (arith, d-is, ap (λ (x : ℕ). get_or ds x 0) same))
  forward (suc left) g at j e h low high =
      let more : g + 1 < length ds = omega arith in
      let rises : rows_of_count m z (get_or ds g 0) < rows_of_count m z (get_or ds (g + 1) 0) = A.rising g more in
      ⊎_elim (λ (kept : e < get_or ds (g + 1) 0).
      sooner _ _ (omega arith) refl (forward left (g + 1) (omega arith) j e (omega arith) low kept))
      (λ (dropped : get_or ds (g + 1) 0 ≤ e).
      let q : ℕ = j * (get_or ds g 0 - get_or ds (g + 1) 0) + (e - get_or ds (g + 1) 0) in
      let f = origin_forward n r z ds m b A g j e (get_or ds (g + 1) 0) (get_or ds g 0) q more refl refl refl h dropped high in
      ⊎_elim (λ (below : z + q % (get_or ds (g + 1) 0 - z) < d).
      record {
        row = _;
        degree = _;
        past = f.past;
        within = omega (arith, f.row, rows_up_to (g + 1) (omega arith));
        low = f.low;
        high = below;
        is = f.same;
      })
      (λ (above : d ≤ z + q % (get_or ds (g + 1) 0 - z)).
      sooner _ _ (omega arith) f.same (forward left (g + 1) (omega arith) _ _ f.row above f.high))
      (lt_or_le (z + q % (get_or ds (g + 1) 0 - z)) d))
      (lt_or_le e (get_or ds (g + 1) 0))

  pub order : Order m b z ds d P
  unfolding count_of
  order =
      record {
        above = rw d-is (count-above n r z ds m b A i hi);
        most = most;
        wide = wide;
        own = own;
        place = λ j e h l u. origin_below n r z ds m b A j e (omega (arith, most)) l (omega (arith, wide j h));
        once = rw (P-is, d-is) (rows-once n r z ds m b A i hi);
        again = λ j e h. forward (i - group_of m z ds j) (group_of m z ds j) (omega (arith, group_first j h)) j e (own j h);
        onto =
            λ p h.
            let first : ℕ = get_or ds 0 0 in
            let o = origin_onto n r z ds m b A p first refl h in
            let e : ℕ = z + p % (first - z) in
            let width : 0 < first - z = omega (arith, count-above n r z ds m b A 0 A.some) in
            let high : e < first = omega (arith, mod-lt p width) in
            ⊎_elim (λ (s : e < d).
            record { row = _; degree = e; past = omega arith; within = omega (arith, o.0, rows_up_to 0 (omega arith)); low = omega arith; high = s; is = o.1 })
            (λ (s : d ≤ e). sooner 0 p (omega arith) o.1 (forward i 0 (omega arith) _ e o.0 s high))
            (lt_or_le e d);
      }
