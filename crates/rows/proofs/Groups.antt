-- The group of a row as a loop over the counts finds it, place by place: past the end of the counts, where the row is among those that the
-- count's parties send, and at the next place; and that test as the code makes it, without a division.
-- Assumes nothing.
use mathlib.Core.Path.{◌≡◌, sym, ◌∙◌}
use mathlib.Core.Bool.{true, false}
use mathlib.Core.List.{List}
use mathlib.Core.Logic.{⊎_elim}
use Prim.Native.Nat.{ℕ, ◌+◌, ◌-◌, ◌*◌, ◌/◌, ◌≤◌, ◌<◌}
use native.Mathlib.Nat.{div-zero, div-le_self, le-div_iff_mul-le, div-lt_iff_lt-mul}
use native.Mathlib.Numerals.{add-one}
use native.Mathlib.Omega.{arith}
use lib.Dec.{ltb, leb}
use lib.ListN.{length, get_or, drop, drop_of_length-le}
use lib.Seq.{drop-cons}
use borrow.Author.Tests.{lt-ltb, le-ltb, le-leb, lt-leb}
use Rattle.lists.proofs.Tests.{lt_or_le}
use Rattle.scheme.specs.Check.{rows_of_count}
use Rattle.staircase.specs.Coefficients.{group_of}

-- ---- is the row below P of d?

module _ (m z d row : ℕ) where
  pub sends_low : d ≤ z → false ≡ ltb row (rows_of_count m z d)
  unfolding rows_of_count
  sends_low h =
      let e : d - z ≡ 0 = omega arith in
      sym (le-ltb row _ (rw (e, div-zero m) (omega arith)))

  pub sends_past : m ≤ row → false ≡ ltb row (rows_of_count m z d)
  unfolding rows_of_count
  sends_past h = sym (le-ltb row _ (omega (arith, div-le_self m (d - z))))

  pub sends-product : z < d → leb ((row + 1) * (d - z)) m ≡ ltb row (rows_of_count m z d)
  unfolding rows_of_count
  sends-product h =
      let above : 0 < d - z = omega arith in
      ⊎_elim (λ (l : row < m / (d - z)). le-leb _ m ((le-div_iff_mul-le above).0 (omega arith)) ∙ sym (lt-ltb row _ l))
      (λ (l : m / (d - z) ≤ row). lt-leb _ m ((div-lt_iff_lt-mul above).0 (omega arith)) ∙ sym (le-ltb row _ l))
      (lt_or_le row (m / (d - z)))

-- ---- the counts from place i on

module _ (m z : ℕ) (ds : List ℕ) (row i : ℕ) where
  pub group_end : length ds ≤ i → group_of m z (drop i ds) row ≡ 0
  unfolding group_of
  group_end h = rw (drop_of_length-le ds h)

  pub group_here : i < length ds → ltb row (rows_of_count m z (get_or ds i 0)) ≡ true → group_of m z (drop i ds) row ≡ 0
  unfolding group_of
  group_here h t = rw (drop-cons ds i 0 h, t)

  pub group_next : i < length ds → ltb row (rows_of_count m z (get_or ds i 0)) ≡ false
      → i + group_of m z (drop i ds) row ≡ i + 1 + group_of m z (drop (i + 1) ds) row
  unfolding group_of
  group_next h t = rw (add-one, drop-cons ds i 0 h, t) (omega arith)
