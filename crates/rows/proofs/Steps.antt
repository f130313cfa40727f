-- One step of the search for an origin, for all numbers: what is found where there is nothing to find, in the first group, and for a copy,
-- and that the code's numbers are small. By the definition; a bound above the row does not matter, since each step is in an earlier row.
-- Assumes nothing.
use mathlib.Core.Path.{◌≡◌, refl, sym, ap, ◌∙◌}
use mathlib.Core.Bool.{Bool, true, false, cond, ◌&&◌, and-false}
use mathlib.Core.List.{List}
use mathlib.Core.Logic.{⊎_elim}
use Prim.Native.Nat.{ℕ, zero, suc, ◌+◌, ◌-◌, ◌*◌, ◌/◌, ◌%◌, ◌≤◌, ◌<◌}
use native.Mathlib.Nat.{div-mul-le_self, mod-lt}
use native.Mathlib.Omega.{arith}
use lib.Dec.{ltb, leb, eqb}
use lib.ListN.{length, get_or, get_or-eq_default}
use borrow.Author.Tests.{ltb-true, lt-ltb, le-ltb, le-leb, lt-leb, eq-eqb, ne_eqb}
use Rattle.lists.proofs.Tests.{both, lt_or_le}
use Rattle.lists.proofs.Joined.{below_product}
use Rattle.scheme.specs.Check.{rows_of_count}
use Rattle.staircase.specs.Coefficients.{group_of}
use Rattle.staircase.proofs.Groups.{group_past, group_within}
use Rattle.rows.specs.Origins.{found_in, found}
use Rattle.rows.specs.Sources.{Copied}

-- what stands under a test may be changed where the test holds
under : (t : Bool) (a b other : ℕ) → (t ≡ true → a ≡ b) → cond t a other ≡ cond t b other
under true a b other h = h refl
under false a b other h = refl

module _ (m z : ℕ) (ds : List ℕ) where
  -- ---- with any bound

  module _ (bound j e : ℕ) where
    key_in : e < z → found_in m z ds (suc bound) j e ≡ 0
    unfolding found_in
    key_in h = rw (lt-leb z e h)

    past_in : get_or ds (group_of m z ds j) 0 ≤ e → found_in m z ds (suc bound) j e ≡ 0
    unfolding found_in
    past_in h = rw (le-ltb e (get_or ds (group_of m z ds j) 0) h, and-false (leb z e))

    module _ (i d : ℕ) (hi : i ≡ group_of m z ds j) (hd : d ≡ get_or ds i 0) (low : z ≤ e) (high : e < d) where
      first_in : i ≡ 0 → found_in m z ds (suc bound) j e ≡ j * (d - z) + (e - z)
      unfolding found_in
      first_in h = rw (← hi, ← hd, le-leb z e low, lt-ltb e d high, eq-eqb i 0 h)

      module _ (above q : ℕ) (ne : i ≡ 0 → ⊥) (ha : above ≡ get_or ds (i - 1) 0)
          (hq : q ≡ (j - rows_of_count m z above) * (d - z) + (e - z)) where
        rising_in : above ≤ d → found_in m z ds (suc bound) j e ≡ 0
        unfolding found_in
        rising_in h = rw (← hi, ← hd, ← ha, le-leb z e low, lt-ltb e d high, ne_eqb i 0 ne, le-ltb d above h)

        late_in : j ≤ q / (above - d) → found_in m z ds (suc bound) j e ≡ 0
        unfolding found_in
        late_in h =
            rw (← hi, ← hd, ← ha, ← hq, le-leb z e low, lt-ltb e d high, ne_eqb i 0 ne, le-ltb (q / (above - d)) j h, and-false (ltb d above))

        copy_in : d < above → q / (above - d) < j
            → found_in m z ds (suc bound) j e ≡ found_in m z ds bound (q / (above - d)) (d + q % (above - d))
        unfolding found_in
        copy_in h l =
            rw (← hi, ← hd, ← ha, ← hq, le-leb z e low, lt-ltb e d high, ne_eqb i 0 ne, lt-ltb d above h, lt-ltb (q / (above - d)) j l)

  -- any bound above the row gives the same
  same_in : (f k j e : ℕ) → j < f → j < k → found_in m z ds f j e ≡ found_in m z ds k j e
  unfolding found_in
  same_in zero k j e hf hk = absurd (omega arith)
  same_in (suc f) zero j e hf hk = absurd (omega arith)
  same_in (suc f) (suc k) j e hf hk =
      let i : ℕ = group_of m z ds j in
      let d : ℕ = get_or ds i 0 in
      let above : ℕ = get_or ds (i - 1) 0 in
      let q : ℕ = (j - rows_of_count m z above) * (d - z) + (e - z) in
      under (leb z e && ltb e d) _ _ 0 (λ _.
      ap (cond (eqb i 0) (j * (d - z) + (e - z)))
      (under (ltb d above && ltb (q / (above - d)) j) _ _ 0 (λ t.
      let earlier : q / (above - d) < j = ltb-true (q / (above - d)) j (both (ltb d above) (ltb (q / (above - d)) j) t).1 in
      same_in f k (q / (above - d)) (d + q % (above - d)) (omega arith) (omega arith))))

-- ---- in the numbers that the code has

-- a coefficient of the first group
pub record First (m z : ℕ) (ds : List ℕ) (row degree d low : ℕ) : Type 0 where
  pub fits : row * (d - low) + (degree - low) < m
  pub is : row * (d - low) + (degree - low) ≡ found m z ds row degree

-- a coefficient of a later group, entry q of the list that is copied
pub record Later (m z : ℕ) (ds : List ℕ) (row degree d above before q : ℕ) : Type 0 where
  pub past : before ≤ row
  pub fits : q < m
  pub high : d + q % (above - d) < above
  pub late : row ≤ q / (above - d) → 0 ≡ found m z ds row degree
  pub copied : q / (above - d) < row → Copied m z ds row degree (q / (above - d)) (d + q % (above - d))

module _ (m z : ℕ) (ds : List ℕ) (row degree i d low : ℕ) (hl : low ≡ z) (hi : i ≡ group_of m z ds row) (hd : d ≡ get_or ds i 0) where
  pub found_key : degree < low → 0 ≡ found m z ds row degree
  unfolding found
  found_key h = sym (key_in m z ds row row degree (omega arith))

  pub found_past : d ≤ degree → 0 ≡ found m z ds row degree
  unfolding found
  found_past h = sym (past_in m z ds row row degree (rw (← hi, ← hd) h))

  module _ (lo : low ≤ degree) (hig : degree < d) where
    inside : row < rows_of_count m z d
    inside =
        let place : i < length ds
        = ⊎_elim (λ (h : i < length ds). h) (λ (h : length ds ≤ i). omega (arith, get_or-eq_default ds 0 h)) (lt_or_le i (length ds)) in
        rw (hd, hi) (group_within m z row ds (rw (← hi) place))

    -- no number of the code is above the block length
    small : (x : ℕ) → x ≤ row → x * (d - low) + (degree - low) < m
    unfolding rows_of_count
    small x h =
        let whole : m / (d - low) * (d - low) ≤ m = div-mul-le_self m (d - low) in
        let rows : x < m / (d - low) = rw hl (omega (arith, inside)) in
        omega (arith, below_product x (m / (d - low)) (degree - low) (d - low) rows (omega arith))

    pub first : i ≡ 0 → First m z ds row degree d low
    unfolding found
    first h =
        record {
          fits = small row (omega arith);
          is = rw hl (sym (first_in m z ds row row degree i d hi hd (omega arith) hig h));
        }

    module _ (above : ℕ) (ne : i ≡ 0 → ⊥) (ha : above ≡ get_or ds (i - 1) 0) where
      pub found-rising : above ≤ d → 0 ≡ found m z ds row degree
      unfolding found
      found-rising h = sym (rising_in m z ds row row degree i d hi hd (omega arith) hig above _ ne ha refl h)

      pub later : (before q : ℕ) → d < above → before ≡ rows_of_count m z above → q ≡ (row - before) * (d - low) + (degree - low)
          → Later m z ds row degree d above before q
      unfolding found
      later before q h hb hq =
          let q-is : q ≡ (row - rows_of_count m z above) * (d - z) + (degree - z) = hq ∙ rw (hb, hl) in
          record {
            past = rw (hb, ha) (group_past m z row ds (i - 1) (omega arith));
            fits = rw hq (small (row - before) (omega arith));
            high = omega (arith, mod-lt q (let w : 0 < above - d = omega arith in w));
            late = λ l. sym (late_in m z ds row row degree i d hi hd (omega arith) hig above q ne ha q-is l);
            copied = λ l.
                record {
                  earlier = l;
                  same =
                      same_in m z ds (suc (q / (above - d))) row (q / (above - d)) (d + q % (above - d)) (omega arith) l
                      ∙ sym (copy_in m z ds row row degree i d hi hd (omega arith) hig above q ne ha q-is h l);
                };
          }
