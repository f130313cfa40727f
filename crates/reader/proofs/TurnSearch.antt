-- The search for the rows taken, in the code's numbers: from the last turn down to one in which a wanted byte stands below degree d.
-- Assumes nothing.
use mathlib.Core.Path.{◌≡◌, ◌∙◌}
use mathlib.Core.Bool.{Bool, true, false}
use mathlib.Core.List.{List}
use Rattle.std.proofs.Common.{MatchBool}
use Rattle.std.specs.List.{HoldsAt, AllWithin, range_with_len}
use Rattle.std.proofs.lemmas.List.FromFn.{length-range_with_len, get_or-range_with_len}
use Prim.Native.Nat.{ℕ, suc, ◌+◌, ◌-◌, ◌%◌, ◌≤◌, ◌<◌}
use native.Mathlib.Nat.{mod-eq_of_lt}
use native.Mathlib.Numerals.{add-one}
use native.Mathlib.Omega.{arith}
use lib.ListN.{length, get_or}
use Rattle.interpolation.specs.Interpolation.{side}
use Rattle.scheme.specs.declared.accepted.Scheme.{Scheme}
use Rattle.staircase.specs.Coefficients.{count_of, origin}
use Rattle.rows.specs.Origins.{origins_over}
use Rattle.rows.specs.Sources.{RowOrigins}
use Rattle.rows.proofs.Laws.{row_origins}
use Rattle.order.specs.ReadingOrder.{row_in_turn}
use Rattle.order.specs.RowsTaken.{rows_taken, Wanted}
use Rattle.order.proofs.ReadingOrder.{order_of, row_in_turn_below}
use Rattle.order.proofs.RowsTaken as taken
use Rattle.order.proofs.RowsTaken.{wanted_near, near_wanted, NoneLater}
use Rattle.reader.specs.Decoding.{sent_rows, Counted, PlacesBelow}
use Rattle.reader.specs.Opening.{HoldsWanted}
use Rattle.reader.proofs.CountedScheme.{count_in}

-- ---- how far a place is from the place where the range starts, around the block's end

module _ (m from place : ℕ) (low : from < m) (below : place < m) where
  pub around : place < from → (place + (m - from)) % m ≡ place + (m - from)
  around h = mod-eq_of_lt (let less : place + (m - from) < m = omega arith in less)

-- ---- the degrees of a row

pub wanted_here : (m from long place start : ℕ) → place < m → from ≡ start % m → (place + (m - from)) % m < long → Wanted m start long place
wanted_here m from long place start below is near = wanted_near m start long place below (rw is at near)

-- one of the degrees from z up, below d, has a wanted place, or none has
pub holds_by : (m from long z d start : ℕ) (places : List ℕ) (yes : Bool) → PlacesBelow z d m places → from ≡ start % m
    → let all : List ℕ = range_with_len z (d - z) in
    MatchBool yes ((k : ℕ) × (k < length all) × HoldsAt (λ e. (get_or places e 0 + (m - from)) % m < long) all k)
    (AllWithin (λ e. long ≤ (get_or places e 0 + (m - from)) % m) all 0 (length all))
    → HoldsWanted m start long z d places yes
holds_by m from long z d start places true below is (k, inside, near) =
    let few : k < d - z = omega (arith, length-range_with_len z (d - z)) in
    let low : z ≤ z + k = omega arith in
    let high : z + k < d = omega arith in
    (z + k, low, high, wanted_here m from long (get_or places (z + k) 0) start (below (z + k) low high) is (rw (get_or-range_with_len z (d - z) k 0 few) at (near 0)))
holds_by m from long z d start places false below is far =
    λ e low high W.
    let few : e - z < d - z = omega arith in
    let at : z + (e - z) ≡ e = omega arith in
    let none : long ≤ (get_or places e 0 + (m - from)) % m =
    rw (get_or-range_with_len z (d - z) (e - z) 0 few, at) at (far (e - z) 0 (omega arith) (omega (arith, length-range_with_len z (d - z)))) in
    omega (arith, near_wanted m start long (get_or places e 0) (below e low high) W, rw is at none)

-- ---- the turns

module _ {s : Scheme} {ds : List ℕ} {d : ℕ} (C : Counted s ds d) (start long : ℕ) where
  -- nothing wanted stands below degree d in the turns from t on
  abbrev pub None : ℕ → Type 0
  None t = NoneLater s.block s.z ds d start long t

  -- the row j of the turn before t, and the places of its coefficients
  module _ (t j : ℕ) (pos : 0 < t) (most : t ≤ sent_rows s d) (j-is : j ≡ row_in_turn s.block s.z ds d (t - 1)) (places before : List ℕ)
      (long_is : length before ≡ side) (places-are : places ≡ origins_over s.block s.z ds j before) where
    here : t - 1 < sent_rows s d
    here = omega arith

    inside : j < sent_rows s d
    inside = rw j-is (row_in_turn_below (count_in C) (t - 1) here)

    origins : RowOrigins s.block s.z ds j (count_of s.block s.z ds j) places
    origins = rw places-are (row_origins s ds C.scheme j (omega (arith, inside, (order_of (count_in C)).most)) before long_is)

    pub places_below : PlacesBelow s.z d s.block places
    places_below e low high = origins.below e low (omega (arith, (order_of (count_in C)).wide j inside))

    origin-at : (e : ℕ) → s.z ≤ e → e < d → get_or places e 0 ≡ origin s.block s.z ds (row_in_turn s.block s.z ds d (t - 1)) e
    origin-at e low high = rw (← j-is) (origins.is e low (omega (arith, (order_of (count_in C)).wide j inside)))

    next : suc (t - 1) ≡ t
    next = omega arith

    module _ (yes : Bool) (H : HoldsWanted s.block start long s.z d places yes) (N : None t) where
      pub none_more : yes ≡ false → None (t - 1)
      none_more e =
          let none = rw e at H in
          taken.none_more (count_in C) start long (t - 1) (rw next N) (λ f low high W. none f low high (rw (origin-at f low high) W))

      pub found_here : yes ≡ true → t - 1 + 1 ≡ rows_taken s.block s.z ds d start long
      found_here e =
          let some = rw e at H in
          add-one (t - 1)
          ∙ taken.taken_here (count_in C) start long (t - 1) some.0 here some.1 some.2 (rw (origin-at some.0 some.1 some.2) at some.3)
          (rw next N)

  pub found_none : (t : ℕ) → t ≡ 0 → None t → 0 ≡ rows_taken s.block s.z ds d start long
  found_none t e N = taken.taken_none (count_in C) start long (rw e at N)
