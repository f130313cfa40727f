-- Where a coefficient comes from: a copy comes from an earlier row, every way of copies ends at a message byte of the block, and no key and, among
-- the rows that a count sends or of one group, no message byte is used twice.
-- By the facts of an accepted scheme on the groups, and by induction on a bound of the rows.
-- Assumes nothing.
use mathlib.Core.Path.{◌≡◌, refl, sym, ap, ap₂, ◌∙◌}
use mathlib.Core.List.{List}
use mathlib.Core.Logic.{⊎_elim}
use Prim.Native.Nat.{ℕ, zero, suc, ◌+◌, ◌-◌, ◌*◌, ◌/◌, ◌%◌, ◌≤◌, ◌<◌}
use native.Mathlib.Nat.{mul_assoc, mul_comm, div-add-mod', eq-zero-or-pos}
use native.Mathlib.Omega.{arith}
use lib.ListN.{length, get_or}
use borrow.Author.Tests.{eq-eqb, ne_eqb}
use Rattle.lists.proofs.Tests.{lt_or_le}
use Rattle.lists.proofs.Each.{occurs-place}
use Rattle.lists.proofs.Joined.{below_product, in-grid, row_of, place_of, same_place}
use Rattle.scheme.specs.Check.{rows_of_count}
use Rattle.scheme.specs.Facts as facts
use Rattle.scheme.proofs.Laws.{accepted}
use Rattle.staircase.specs.Parameters.{Parameters, AcceptedScheme, block, rows}
use Rattle.staircase.specs.Coefficients.{group_of, count_of, origin_in, origin}
use Rattle.staircase.specs.UsedOnce.{KeyOnce, OriginOnce, OriginOnceInGroup}
use Rattle.staircase.proofs.Groups.{count-above, counts_fall, rows_most, group_place, group_above, group_within, group_least, group_is}

-- ---- one step of the search for an origin

module _ (m z : ℕ) (ds : List ℕ) (bound j e : ℕ) where
  first_step : group_of m z ds j ≡ 0 → origin_in m z ds (suc bound) j e ≡ j * (get_or ds 0 0 - z) + (e - z)
  unfolding origin_in
  first_step g = rw (eq-eqb (group_of m z ds j) 0 g, g)

  later_step : (i d above q : ℕ) → i ≡ group_of m z ds j → 0 < i → d ≡ get_or ds i 0 → above ≡ get_or ds (i - 1) 0
      → q ≡ (j - rows_of_count m z above) * (d - z) + (e - z)
      → origin_in m z ds (suc bound) j e ≡ origin_in m z ds bound (q / (above - d)) (d + q % (above - d))
  unfolding origin_in
  later_step i d above q hi pos hd ha hq =
      let no : group_of m z ds j ≡ 0 → ⊥ = λ x. omega arith in
      rw (hq, ha, hd, hi, ne_eqb (group_of m z ds j) 0 no)

-- the coefficient that entry q of the copied list is, for a row j of the group of the count d, after the count `above`
pub record Step (m z : ℕ) (ds : List ℕ) (b j d above q : ℕ) : Type 0 where
  -- it stands in an earlier group's row
  pub row : q / (above - d) < rows_of_count m z above
  pub earlier : q / (above - d) < j
  pub below : q / (above - d) < b
  -- and is no key, nor past that row's end
  pub low : z ≤ d + q % (above - d)
  pub high : d + q % (above - d) < above
  pub within : d + q % (above - d) < count_of m z ds (q / (above - d))

-- the rule o of rows and degrees takes no value twice at the degrees from z, below d, of the first `rows` rows
abbrev pub Once : ℕ → ℕ → ℕ → (ℕ → ℕ → ℕ) → Type 0
Once z rows d o =
    (j e j' e' : ℕ) → j < rows → z ≤ e → e < d → j' < rows → z ≤ e' → e' < d → o j e ≡ o j' e' → (j ≡ j') × (e ≡ e')

-- what a coefficient of degree e of row j, dropped by the count of group i + 1, is in that group: degree e' of row j'
pub record Forward (m z : ℕ) (ds : List ℕ) (i j e j' e' : ℕ) : Type 0 where
  pub row : j' < rows_of_count m z (get_or ds (i + 1) 0)
  pub past : rows_of_count m z (get_or ds i 0) ≤ j'
  pub low : z ≤ e'
  pub high : e' < get_or ds (i + 1) 0
  pub same : origin m z ds j' e' ≡ origin m z ds j e

module _ (n r z : ℕ) (ds : List ℕ) (m b : ℕ) (A : facts.SchemeFacts n r z ds m b) where
  -- a row j of a later group i, of the count d after the count `above`
  module _ (j e i d above q : ℕ) (hj : j < b) (hi : i ≡ group_of m z ds j) (pos : 0 < i) (hd : d ≡ get_or ds i 0)
      (ha : above ≡ get_or ds (i - 1) 0) (hq : q ≡ (j - rows_of_count m z above) * (d - z) + (e - z)) (he : e < d) where
    pub origin-falls : Step m z ds b j d above q
    unfolding count_of
    origin-falls =
        let s : i - 1 + 1 ≡ i = omega arith in
        let place : i < length ds = omega (arith, group_place n r z ds m b A j hj) in
        let fits : (rows_of_count m z d - rows_of_count m z above) * (d - z) ≡ rows_of_count m z above * (above - d)
        = rw (hd, ha) (rw s at (A.fits (i - 1) (omega arith))) in
        let own : j < rows_of_count m z d = rw (hd, hi) (group_within m z j ds (group_place n r z ds m b A j hj)) in
        let past : rows_of_count m z above ≤ j = rw (ha, hi) (group_above n r z ds m b A j hj (omega arith)) in
        let high : z < d = rw hd (count-above n r z ds m b A i place) in
        let inside : q < rows_of_count m z above * (above - d)
        = rw (hq, ← fits) (below_product (j - rows_of_count m z above) (rows_of_count m z d - rows_of_count m z above) (e - z) (d - z) (omega arith) (omega arith)) in
        let g = in-grid q (rows_of_count m z above) (above - d) inside in
        let home : group_of m z ds (q / (above - d)) ≤ i - 1
        = group_least m z (q / (above - d)) ds (i - 1) (omega arith) (rw (← ha) g.0) in
        let end : d + q % (above - d) < above = omega (arith, g.1) in
        record {
          row = g.0;
          earlier = omega (arith, g.0);
          below = omega (arith, g.0);
          low = omega arith;
          high = end;
          within = omega (arith, counts_fall n r z ds m b A (group_of m z ds (q / (above - d))) (i - 1) home (omega arith));
        }

  -- any bound above the row gives the same
  same_in : (f k j e : ℕ) → j < b → e < count_of m z ds j → j < f → j < k → origin_in m z ds f j e ≡ origin_in m z ds k j e
  unfolding count_of
  same_in zero k j e hj he hf hk = absurd (omega arith)
  same_in (suc f) zero j e hj he hf hk = absurd (omega arith)
  same_in (suc f) (suc k) j e hj he hf hk =
      let i : ℕ = group_of m z ds j in
      let d : ℕ = get_or ds i 0 in
      let above : ℕ = get_or ds (i - 1) 0 in
      let q : ℕ = (j - rows_of_count m z above) * (d - z) + (e - z) in
      ⊎_elim (λ (g : i ≡ 0). first_step m z ds f j e g ∙ sym (first_step m z ds k j e g))
      (λ (g : 0 < i).
      let s = origin-falls j e i d above q hj refl g refl refl refl he in
      later_step m z ds f j e i d above q refl g refl refl refl
      ∙ same_in f k (q / (above - d)) (d + q % (above - d)) s.below s.within (omega (arith, s.earlier)) (omega (arith, s.earlier))
      ∙ sym (later_step m z ds k j e i d above q refl g refl refl refl))
      (eq-zero-or-pos i)

  pub origin-enough : (bound j e : ℕ) → j < bound → j < b → e < count_of m z ds j → origin_in m z ds bound j e ≡ origin m z ds j e
  unfolding origin
  origin-enough bound j e l hj he = same_in bound (suc j) j e hj he l (omega arith)

  -- a row of the first group holds the block's bytes in order
  pub origin-first : (j e : ℕ) → j < rows_of_count m z (get_or ds 0 0) → origin m z ds j e ≡ j * (get_or ds 0 0 - z) + (e - z)
  unfolding origin
  origin-first j e l = first_step m z ds j j e (group_is n r z ds m b A 0 j A.some l (λ h. omega arith))

  -- a coefficient of a later group's row has the origin of the one that it is copied from
  pub origin-later : (j e i d above q : ℕ) → j < b → i ≡ group_of m z ds j → 0 < i → d ≡ get_or ds i 0 → above ≡ get_or ds (i - 1) 0
      → q ≡ (j - rows_of_count m z above) * (d - z) + (e - z) → e < d
      → origin m z ds j e ≡ origin m z ds (q / (above - d)) (d + q % (above - d))
  unfolding origin
  origin-later j e i d above q hj hi pos hd ha hq he =
      let s = origin-falls j e i d above q hj hi pos hd ha hq he in
      later_step m z ds j j e i d above q hi pos hd ha hq
      ∙ origin-enough j (q / (above - d)) (d + q % (above - d)) s.earlier s.below s.within

  below_in : (bound j e : ℕ) → j < bound → j < b → e < count_of m z ds j → origin m z ds j e < m
  unfolding count_of
  below_in zero j e l hj he = absurd (omega arith)
  below_in (suc bound) j e l hj he =
      let i : ℕ = group_of m z ds j in
      let d : ℕ = get_or ds i 0 in
      let above : ℕ = get_or ds (i - 1) 0 in
      let q : ℕ = (j - rows_of_count m z above) * (d - z) + (e - z) in
      let high : z < d = count-above n r z ds m b A i (group_place n r z ds m b A j hj) in
      ⊎_elim (λ (g : i ≡ 0).
      let d0 : d ≡ get_or ds 0 0 = ap (λ (x : ℕ). get_or ds x 0) g in
      let own : j < rows_of_count m z (get_or ds 0 0) = rw g at (group_within m z j ds (group_place n r z ds m b A j hj)) in
      rw (origin-first j e own, ← A.rows_of-count 0 A.some)
      (below_product j (rows_of_count m z (get_or ds 0 0)) (e - z) (get_or ds 0 0 - z) own (omega arith)))
      (λ (g : 0 < i).
      let s = origin-falls j e i d above q hj refl g refl refl refl he in
      rw (origin-later j e i d above q hj refl g refl refl refl he)
      (below_in bound (q / (above - d)) (d + q % (above - d)) (omega (arith, s.earlier)) s.below s.within))
      (eq-zero-or-pos i)

  -- an origin is a place in the block
  pub origin_below : (j e : ℕ) → j < b → z ≤ e → e < count_of m z ds j → origin m z ds j e < m
  origin_below j e hj ze he = below_in (suc j) j e (omega arith) hj he

  -- every place in the block is an origin, in the first group
  pub origin_onto : (p d : ℕ) → d ≡ get_or ds 0 0 → p < m
      → (p / (d - z) < rows_of_count m z d) × (origin m z ds (p / (d - z)) (z + p % (d - z)) ≡ p)
  origin_onto p d hd h =
      let whole : rows_of_count m z d * (d - z) ≡ m = rw hd (A.rows_of-count 0 A.some) in
      let g = in-grid p (rows_of_count m z d) (d - z) (rw whole h) in
      let k : z + p % (d - z) - z ≡ p % (d - z) = omega arith in
      let first : origin m z ds (p / (d - z)) (z + p % (d - z)) ≡ p / (d - z) * (d - z) + (z + p % (d - z) - z)
      = rw hd (origin-first (p / (get_or ds 0 0 - z)) (z + p % (get_or ds 0 0 - z)) (rw hd at g.0)) in
      (g.0, first ∙ rw k (div-add-mod' p (d - z)))

  -- a coefficient that the next count drops stands again in the next group
  pub origin_forward : (i j e d above q : ℕ) → i + 1 < length ds → d ≡ get_or ds (i + 1) 0 → above ≡ get_or ds i 0
      → q ≡ j * (above - d) + (e - d) → j < rows_of_count m z above → d ≤ e → e < above
      → Forward m z ds i j e (rows_of_count m z above + q / (d - z)) (z + q % (d - z))
  origin_forward i j e d above q hi hd ha hq hj low high =
      let P : ℕ = rows_of_count m z above in
      let Q : ℕ = rows_of_count m z d in
      let j' : ℕ = P + q / (d - z) in
      let e' : ℕ = z + q % (d - z) in
      let fits : (Q - P) * (d - z) ≡ P * (above - d) = rw (hd, ha) (A.fits i hi) in
      let end : e - d < above - d = omega arith in
      let inside : q < (Q - P) * (d - z) = rw (fits, hq) (below_product j P (e - d) (above - d) hj end) in
      let g = in-grid q (Q - P) (d - z) inside in
      let row : j' < Q = omega (arith, g.0) in
      let most : Q ≤ b = rw hd (rows_most n r z ds m b A (i + 1) hi) in
      let back : i + 1 - 1 ≡ i = omega arith in
      let group : group_of m z ds j' ≡ i + 1
      = group_is n r z ds m b A (i + 1) j' hi (rw (← hd) row) (λ _. rw (back, ← ha) (omega arith)) in
      let q-is : q ≡ (j' - P) * (d - z) + (e' - z)
      = let a : j' - P ≡ q / (d - z) = omega arith in
      let c : e' - z ≡ q % (d - z) = omega arith in
      rw (a, c) (sym (div-add-mod' q (d - z))) in
      let later : origin m z ds j' e' ≡ origin m z ds (q / (above - d)) (d + q % (above - d))
      = origin-later j' e' (i + 1) d above q (omega arith) (sym group) (omega arith) hd (rw back ha) q-is (omega (arith, g.1)) in
      let same_row : q / (above - d) ≡ j = rw hq (row_of j (e - d) (above - d) end) in
      let same-degree : d + q % (above - d) ≡ e = omega (arith, rw (← hq) at (place_of j (e - d) (above - d) end)) in
      record {
        row = rw (← hd) row;
        past = rw (← ha) (omega arith);
        low = omega arith;
        high = rw (← hd) (omega (arith, g.1));
        same = later ∙ ap₂ (origin m z ds) same_row same-degree;
      }

  -- group i + 1, where the rows before it hold no message byte twice
  module _ (i : ℕ) (hi : i + 1 < length ds) (before : Once z (rows_of_count m z (get_or ds i 0)) (get_or ds i 0) (origin m z ds)) where
    abbrev d : ℕ
    d = get_or ds (i + 1) 0

    abbrev above : ℕ
    above = get_or ds i 0

    abbrev entry : ℕ → ℕ → ℕ
    entry j e = (j - rows_of_count m z above) * (d - z) + (e - z)

    in_group : (j : ℕ) → rows_of_count m z above ≤ j → j < rows_of_count m z d → group_of m z ds j ≡ i + 1
    in_group j l h =
        let back : i + 1 - 1 ≡ i = omega arith in
        group_is n r z ds m b A (i + 1) j hi h (λ _. rw back l)

    falls : (j e : ℕ) → rows_of_count m z above ≤ j → j < rows_of_count m z d → e < d → Step m z ds b j d above (entry j e)
    falls j e l h he =
        let back : i + 1 - 1 ≡ i = omega arith in
        origin-falls j e (i + 1) d above (entry j e) (omega (arith, rows_most n r z ds m b A (i + 1) hi)) (sym (in_group j l h)) (omega arith) refl (rw back) refl he

    copied : (j e : ℕ) → rows_of_count m z above ≤ j → j < rows_of_count m z d → e < d
        → origin m z ds j e ≡ origin m z ds (entry j e / (above - d)) (d + entry j e % (above - d))
    copied j e l h he =
        let back : i + 1 - 1 ≡ i = omega arith in
        origin-later j e (i + 1) d above (entry j e) (omega (arith, rows_most n r z ds m b A (i + 1) hi)) (sym (in_group j l h)) (omega arith) refl (rw back) refl he

    -- an earlier row's coefficient below d is no copied one
    apart : (j e j' e' : ℕ) → j < rows_of_count m z above → z ≤ e → e < d
        → rows_of_count m z above ≤ j' → j' < rows_of_count m z d → e' < d → origin m z ds j e ≡ origin m z ds j' e' → ⊥
    apart j e j' e' hj ze he l h he' x =
        let s = falls j' e' l h he' in
        let t = before j e (entry j' e' / (above - d)) (d + entry j' e' % (above - d)) hj ze (omega (arith, A.falling i hi))
        s.row s.low s.high (x ∙ copied j' e' l h he') in
        omega (arith, t.1)

    -- two copies of one coefficient are one
    together : (j e j' e' : ℕ) → rows_of_count m z above ≤ j → j < rows_of_count m z d → z ≤ e → e < d
        → rows_of_count m z above ≤ j' → j' < rows_of_count m z d → z ≤ e' → e' < d → origin m z ds j e ≡ origin m z ds j' e' → (j ≡ j') × (e ≡ e')
    together j e j' e' l h ze he l' h' ze' he' x =
        let w : ℕ = above - d in
        let q : ℕ = entry j e in
        let q' : ℕ = entry j' e' in
        let s = falls j e l h he in
        let s' = falls j' e' l' h' he' in
        let t = before (q / w) (d + q % w) (q' / w) (d + q' % w) s.row s.low s.high s'.row s'.low s'.high
        (sym (copied j e l h he) ∙ x ∙ copied j' e' l' h' he') in
        let rest : q % w ≡ q' % w = omega (arith, t.1) in
        let same : q ≡ q' = cc (div-add-mod' q w, div-add-mod' q' w, t.0) in
        let u = same_place (j - rows_of_count m z above) (e - z) (j' - rows_of_count m z above) (e' - z) (d - z) (omega arith) (omega arith) same in
        (omega (arith, u.0), omega (arith, u.1))

    next : Once z (rows_of_count m z d) d (origin m z ds)
    next j e j' e' hj ze he hj' ze' he' x =
        let P : ℕ = rows_of_count m z above in
        let wider : d < above = A.falling i hi in
        ⊎_elim (λ (a : j < P).
        ⊎_elim (λ (a' : j' < P). before j e j' e' a ze (omega arith) a' ze' (omega arith) x)
        (λ (a' : P ≤ j'). absurd (apart j e j' e' a ze he a' hj' he' x))
        (lt_or_le j' P))
        (λ (a : P ≤ j).
        ⊎_elim (λ (a' : j' < P). absurd (apart j' e' j e a' ze' he' a hj he (sym x)))
        (λ (a' : P ≤ j'). together j e j' e' a hj ze he a' hj' ze' he' x)
        (lt_or_le j' P))
        (lt_or_le j P)

  first-once : Once z (rows_of_count m z (get_or ds 0 0)) (get_or ds 0 0) (origin m z ds)
  first-once j e j' e' hj ze he hj' ze' he' x =
      let u = same_place j (e - z) j' (e' - z) (get_or ds 0 0 - z) (omega arith) (omega arith)
      (sym (origin-first j e hj) ∙ x ∙ origin-first j' e' hj') in
      (u.0, omega (arith, u.1))

  -- the rows of a count hold each message byte at most once, at the degrees from z and below the count
  pub rows-once : (i : ℕ) → i < length ds → Once z (rows_of_count m z (get_or ds i 0)) (get_or ds i 0) (origin m z ds)
  rows-once zero h = first-once
  rows-once (suc i) h =
      let s : i + 1 ≡ suc i = omega arith in
      rw s at (next i (omega arith) (rows-once i (omega arith)))

  -- so do the rows of one group
  group_once : (j e j' e' : ℕ) → j < b → z ≤ e → e < count_of m z ds j → j' < b → z ≤ e' → e' < count_of m z ds j'
      → group_of m z ds j ≡ group_of m z ds j' → origin m z ds j e ≡ origin m z ds j' e' → (j ≡ j') × (e ≡ e')
  unfolding count_of
  group_once j e j' e' hj ze he hj' ze' he' g x =
      let i : ℕ = group_of m z ds j in
      let place : i < length ds = group_place n r z ds m b A j hj in
      rows-once i place j e j' e' (group_within m z j ds place) ze he
      (rw g (group_within m z j' ds (group_place n r z ds m b A j' hj'))) ze' (rw g he') x

-- ---- the same as statements about parameters, beside that of the keys

pub origin-once : (p : Parameters) → AcceptedScheme p → OriginOnce p
origin-once p ok d counted =
    let found = occurs-place d p.counts counted in
    rw found.2 at (rows-once p.n p.r p.z p.counts (block p) (rows p) (accepted p.n p.r p.z p.counts ok) found.0 found.1)

pub origin_once_in_group : (p : Parameters) → AcceptedScheme p → OriginOnceInGroup p
origin_once_in_group p ok =
    group_once p.n p.r p.z p.counts (block p) (rows p) (accepted p.n p.r p.z p.counts ok)

pub key_once : (p : Parameters) → KeyOnce p
key_once p =
    record {
      within =
          λ N t j e ht hj he.
          rw (mul_assoc N p.z (rows p), mul_comm p.z (rows p), ← mul_assoc N (rows p) p.z)
          (below_product (t * rows p + j) (N * rows p) e p.z (below_product t N j (rows p) ht hj) he);
      once =
          λ t j e t' j' e' hj he hj' he' same.
          let row = same_place (t * rows p + j) e (t' * rows p + j') e' p.z he he' same in
          let block = same_place t j t' j' (rows p) hj hj' row.0 in
          (block.0, block.1, row.1);
    }
