-- Columns that stand one after another: the loop over them from the highest down, and one that is written.
-- Assumes nothing.
use mathlib.Core.Path.{◌≡◌, sym, ap, ◌∙◌}
use mathlib.Core.List.{List, [], ◌∷◌, ◌++◌}
use mathlib.Core.Logic.{⊎_elim}
use Prim.Native.Nat.{ℕ, ◌+◌, ◌-◌, ◌*◌, ◌≤◌, ◌<◌, min}
use native.Mathlib.Nat.{min-eq_left, mul-one, add-sub_cancel_left}
use native.Mathlib.Omega.{arith}
use lib.ListN.{length, get_or, take, drop, replicate, length-replicate, get_or-replicate, get_or-eq_default}
use Rattle.lists.specs.Table.{tabulate}
use Rattle.lists.proofs.Parts.{mid_length, mid_before, mid_in}
use Rattle.lists.proofs.Table.{length-tabulate, get_or-tabulate, tabulate-same, tabulate_is}
use Rattle.lists.proofs.Tests.{lt_or_le}
use Rattle.gf256.specs.Lanes.{lanes}
use Rattle.interpolation.specs.Interpolation.{side}
use Rattle.interpolation.specs.RowValue.{next_each, values_of}
use Rattle.interpolation.proofs.RowValues.{row-start, row_step}
use Rattle.columns.specs.Columns.{strided_for, flat_column, flat_columns}

-- ---- what they are

module _ (d : ℕ) (bytes : List ℕ) where
  pub length-flat : length (flat_columns d bytes) ≡ min d side
  unfolding flat_columns
  length-flat = length-tabulate (min d side) _

  pub flat-at : (e : ℕ) → e < min d side → get_or (flat_columns d bytes) e [] ≡ flat_column bytes e
  unfolding flat_columns
  flat-at e h = get_or-tabulate (min d side) _ e [] h

-- one whose bytes are gathered
pub flat_gathered : (bytes : List ℕ) (e : ℕ) → strided_for lanes bytes (e * lanes) 1 ≡ flat_column bytes e
unfolding flat_column strided_for
flat_gathered bytes e = simp mul-one

-- and one of which nothing is there
pub flat_past : (bytes : List ℕ) (e : ℕ) → length bytes ≤ e * lanes → replicate lanes 0 ≡ flat_column bytes e
unfolding flat_column
flat_past bytes e past =
    tabulate_is _ lanes _ 0 (length-replicate {A = ℕ} lanes 0)
    (λ k h. get_or-replicate {A = ℕ} lanes k 0 0 h ∙ sym (get_or-eq_default bytes 0 (omega arith)))

-- the first d are by a rule where each of them is
pub flat_are : (d : ℕ) (bytes : List ℕ) (f : ℕ → List ℕ) → d ≤ side → ((e : ℕ) → e < d → flat_column bytes e ≡ f e) → flat_columns d bytes ≡ tabulate d f
unfolding flat_columns
flat_are d bytes f few is = rw (min-eq_left few) (tabulate-same d _ _ is)

pub length-values : (x : ℕ) (columns : List (List ℕ)) → length (values_of x columns) ≡ lanes
unfolding values_of next_each
length-values x [] = length-tabulate lanes _
length-values x (column ∷ columns) = length-tabulate lanes _

-- ---- the loop

module _ (x d : ℕ) (bytes : List ℕ) where
  zeros : (e : ℕ) → e ≡ min d side → tabulate lanes (λ k. 0) ≡ values_of x (drop e (flat_columns d bytes))
  zeros e all = rw all (sym (rw (length-flat d bytes) at (row-start x (flat_columns d bytes))))

  pub flat_none : (e : ℕ) → e ≡ min d side → e ≡ 0 → tabulate lanes (λ k. 0) ≡ values_of x (flat_columns d bytes)
  flat_none e all none = rw none at (zeros e all)

  pub flat-next : (e : ℕ) → 0 < e → e ≤ min d side
      → next_each x (values_of x (drop e (flat_columns d bytes))) (flat_column bytes (e - 1)) ≡ values_of x (drop (e - 1) (flat_columns d bytes))
  flat-next e positive within =
      let back : e - 1 + 1 ≡ e = omega arith in
      let low : e - 1 < min d side = omega arith in
      sym (rw (back, flat-at d bytes (e - 1) low) at (row_step x (flat_columns d bytes) (e - 1) (rw (length-flat d bytes) low)))

  pub flat-top : (e : ℕ) → 0 < e → e ≡ min d side
      → next_each x (tabulate lanes (λ k. 0)) (flat_column bytes (e - 1)) ≡ values_of x (drop (e - 1) (flat_columns d bytes))
  flat-top e positive all = ap (λ v. next_each x v (flat_column bytes (e - 1))) (zeros e all) ∙ flat-next e positive (omega arith)

-- ---- column e is lent and comes back as y

module _ (e : ℕ) (o y : List ℕ) (room : e * lanes + lanes ≤ length o) (long : length y ≡ lanes) where
  abbrev after : List ℕ
  after = take (e * lanes) o ++ (y ++ drop (e * lanes + lanes - e * lanes) (drop (e * lanes) o))

  pub flat-length : length after ≡ length o
  flat-length = rw add-sub_cancel_left (mid_length (e * lanes) lanes o y room long)

  pub flat_here : flat_column after e ≡ y
  unfolding flat_column
  flat_here = rw add-sub_cancel_left (sym (tabulate_is y lanes _ 0 long (λ k h. sym (mid_in (e * lanes) lanes o y room 0 k long h))))

  pub flat-before : (i : ℕ) → i < e → flat_column after i ≡ flat_column o i
  unfolding flat_column
  flat-before i h = rw add-sub_cancel_left (tabulate-same lanes _ _ (λ k l. mid_before (e * lanes) lanes o y room 0 (i * lanes + k) (omega arith)))

  -- the columns up to e are by the rule f
  pub flat_more : (f : ℕ → List ℕ) → ((i : ℕ) → i < e → flat_column o i ≡ f i) → y ≡ f e → (i : ℕ) → i < e + 1 → flat_column after i ≡ f i
  flat_more f earlier now i h =
      ⊎_elim (λ (b : i < e). flat-before i b ∙ earlier i b)
      (λ (b : e ≤ i).
      let same : i ≡ e = omega arith in
      rw same (flat_here ∙ now))
      (lt_or_le i e)
