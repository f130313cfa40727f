-- The order in which the rows are taken: each of the P rows has one turn, and a later group's row has an earlier turn. The group of a turn is that of
-- the row that stands as far from the end of the rows as the turn from the start; within the group the rows are turned around.
-- Assumes nothing.
use mathlib.Core.Path.{◌≡◌, refl, sym, ap, ◌∙◌}
use mathlib.Core.List.{List, [], ◌∷◌}
use mathlib.Core.Logic.{◌≢◌, inl, inr, ⊎_elim}
use Prim.Native.Nat.{ℕ, zero, suc, ◌+◌, ◌-◌, ◌≤◌, ◌<◌, zero-le}
use native.Mathlib.Nat.{eq-or-lt_of_le}
use native.Mathlib.Numerals.{add-one}
use native.Mathlib.Omega.{arith}
use lib.ListN.{length, get_or, drop, length-append, get_or-append, drop_of_length-le}
use lib.Seq.{drop-cons, get_or-append-add}
use borrow.Author.Tests.{eq-eqb, ne_eqb}
use Rattle.lists.proofs.Table.{length-tabulate, get_or-tabulate}
use Rattle.lists.proofs.Tests.{lt_or_le}
use Rattle.scheme.specs.Check.{rows_of_count}
use Rattle.scheme.specs.Facts.{SchemeFacts}
use Rattle.staircase.specs.Coefficients.{group_of, count_of}
use Rattle.staircase.proofs.Groups.{counts_fall, rows_rise, group_past, group_within, group_least, group_is}
use Rattle.staircase.proofs.Order.{Order, order}
use Rattle.order.specs.ReadingOrder.{group_number, rows_before, group_rows, groups_down, reading_order, row_in_turn, Turns}

-- ---- the number of a group

number-at : (d : ℕ) (ds : List ℕ) (i : ℕ) → i < length ds → get_or ds i 0 ≡ d → ((k : ℕ) → k < i → get_or ds k 0 ≢ d) → group_number d ds ≡ suc i
unfolding group_number
number-at d [] i h e first = absurd (omega arith)
number-at d (c ∷ cs) zero h e first = rw (eq-eqb d c (sym e))
number-at d (c ∷ cs) (suc i) h e first =
    rw (ne_eqb d c (λ q. first 0 (omega arith) (sym q)), number-at d cs i (omega arith) e (λ k l. first (suc k) (omega arith)))

-- as a loop over the counts finds it, place by place
module _ (d : ℕ) (ds : List ℕ) (i : ℕ) where
  pub number_end : length ds ≤ i → group_number d (drop i ds) ≡ 0
  unfolding group_number
  number_end h = rw (drop_of_length-le ds h)

  pub number_here : i < length ds → d ≡ get_or ds i 0 → group_number d (drop i ds) ≡ 1
  unfolding group_number
  number_here h e = rw (drop-cons ds i 0 h, eq-eqb d (get_or ds i 0) e)

  pub number-next : i < length ds → d ≢ get_or ds i 0 → group_number d (drop i ds) ≡ group_number d (drop (i + 1) ds) + 1
  unfolding group_number
  number-next h e = rw (add-one, drop-cons ds i 0 h, ne_eqb d (get_or ds i 0) e, add-one)

-- ---- the rows before a group

module _ (m z : ℕ) (ds : List ℕ) where
  pub before_none : (g : ℕ) → g ≡ 0 → 0 ≡ rows_before m z ds g
  unfolding rows_before
  before_none zero e = refl
  before_none (suc g) e = absurd (omega arith)

  pub before_some : (g : ℕ) → 0 < g → rows_of_count m z (get_or ds (g - 1) 0) ≡ rows_before m z ds g
  unfolding rows_before
  before_some zero h = absurd (omega arith)
  before_some (suc g) h = ap (λ (x : ℕ). rows_of_count m z (get_or ds x 0)) (omega arith)

  before-next : (g : ℕ) → rows_before m z ds (suc g) ≡ rows_of_count m z (get_or ds g 0)
  unfolding rows_before
  before-next g = refl

  -- a row is past the groups before its own
  own_past : (j : ℕ) → rows_before m z ds (group_of m z ds j) ≤ j
  unfolding rows_before
  own_past j = past (group_of m z ds j) refl
    where
      past : (g : ℕ) → g ≡ group_of m z ds j → rows_before m z ds g ≤ j
      past zero e = zero-le
      past (suc g) e = group_past m z j ds g (omega arith)

  group_size : (g : ℕ) → length (group_rows m z ds g) ≡ rows_before m z ds (suc g) - rows_before m z ds g
  unfolding group_rows
  group_size g = length-tabulate {A = ℕ} (rows_before m z ds (suc g) - rows_before m z ds g) (λ k. rows_before m z ds g + k)

  -- ---- the turns of the groups from the last down, for any numbers: those of the last of them, and those after

  turn_here : (g left : ℕ) → left < rows_before m z ds (suc g) - rows_before m z ds g
      → get_or (groups_down m z ds (suc g)) left 0 ≡ rows_before m z ds g + left
  unfolding groups_down group_rows
  turn_here g left h =
      get_or-append (group_rows m z ds g) (groups_down m z ds g) 0 left (rw (group_size g) h)
      ∙ get_or-tabulate {A = ℕ} (rows_before m z ds (suc g) - rows_before m z ds g) (λ k. rows_before m z ds g + k) left 0 h

  turn_past : (g left : ℕ) → rows_before m z ds (suc g) - rows_before m z ds g ≤ left
      → get_or (groups_down m z ds (suc g)) left 0 ≡ get_or (groups_down m z ds g) (left - (rows_before m z ds (suc g) - rows_before m z ds g)) 0
  unfolding groups_down
  turn_past g left h =
      let e : left ≡ length (group_rows m z ds g) + (left - (rows_before m z ds (suc g) - rows_before m z ds g)) = omega (arith, group_size g) in
      ap (λ (x : ℕ). get_or (groups_down m z ds (suc g)) x 0) e
      ∙ get_or-append-add (group_rows m z ds g) (groups_down m z ds g) (left - (rows_before m z ds (suc g) - rows_before m z ds g)) 0

  pub turn_none : (left : ℕ) → get_or (groups_down m z ds 0) left 0 ≡ 0
  unfolding groups_down
  turn_none zero = refl
  turn_none (suc left) = refl

-- the same in the code's numbers: g groups are left, the last of them from row `from` up to `end`, and `many` rows
module _ (m z : ℕ) (ds : List ℕ) (g from end many : ℕ) (pos : 0 < g) (from_is : from ≡ rows_before m z ds (g - 1)) (end_is : end ≡ rows_before m z ds g)
    (many-is : many ≡ end - from) where
  next : suc (g - 1) ≡ g
  next = omega arith

  many_are : rows_before m z ds g - rows_before m z ds (g - 1) ≡ many
  many_are = rw (← from_is, ← end_is, many-is)

  pub code_here : (left : ℕ) → left < many → get_or (groups_down m z ds g) left 0 ≡ from + left
  code_here left h = rw (next, ← from_is) at (turn_here m z ds (g - 1) left (rw (next, many_are) h))

  pub code_past : (left : ℕ) → many ≤ left → get_or (groups_down m z ds g) left 0 ≡ get_or (groups_down m z ds (g - 1)) (left - many) 0
  code_past left h = rw (next, many_are) at (turn_past m z ds (g - 1) left (rw (next, many_are) h))

-- the row of a turn, in the code's numbers
pub code_turn : (m z : ℕ) (ds : List ℕ) (d groups u j : ℕ) → groups ≡ group_number d ds → j ≡ get_or (groups_down m z ds groups) u 0 → j ≡ row_in_turn m z ds d u
unfolding reading_order
code_turn m z ds d groups u j groups-are j-is = j-is ∙ ap (λ (g : ℕ). get_or (groups_down m z ds g) u 0) groups-are

-- the turn of row j, of P rows
pub turn_of : ℕ → ℕ → List ℕ → ℕ → ℕ → ℕ
turn_of m z ds P j = P - rows_before m z ds (suc (group_of m z ds j)) + (j - rows_before m z ds (group_of m z ds j))

-- ---- d is a count of an accepted scheme

pub record CountIn (m b z : ℕ) (ds : List ℕ) (d : ℕ) : Type 0 where
  pub n : ℕ
  pub r : ℕ
  pub facts : SchemeFacts n r z ds m b
  pub place : ℕ
  pub place_low : place < length ds
  pub place_is : d ≡ get_or ds place 0

module _ {m b z : ℕ} {ds : List ℕ} {d : ℕ} (C : CountIn m b z ds d) where
  abbrev before : ℕ → ℕ
  before = rows_before m z ds

  abbrev P : ℕ
  P = rows_of_count m z d

  abbrev row : ℕ → ℕ
  row = row_in_turn m z ds d

  abbrev turn : ℕ → ℕ
  turn = turn_of m z ds P

  -- what is known of the origins in the rows of d
  pub order_of : Order m b z ds d P
  order_of = order C.n C.r z ds m b C.facts C.place d P C.place_low C.place_is refl

  rises : (g : ℕ) → g < length ds → before g ≤ before (suc g)
  unfolding rows_before
  rises zero h = zero-le
  rises (suc g) h = rows_rise C.n C.r z ds m b C.facts g (suc g) (omega arith) h

  rises_to : (g k : ℕ) → g ≤ k → k < length ds → before (suc g) ≤ before (suc k)
  unfolding rows_before
  rises_to g k l h = rows_rise C.n C.r z ds m b C.facts g k l h

  -- the rows of an earlier group end before those of a later one start
  rises_past : (g k : ℕ) → g < k → k < length ds → before (suc g) ≤ before k
  rises_past g k l h =
      rw (← before_some m z ds k (omega arith), before-next m z ds g)
      (rows_rise C.n C.r z ds m b C.facts g (k - 1) (omega arith) (omega arith))

  down_length : (g : ℕ) → g ≤ length ds → length (groups_down m z ds g) ≡ before g
  unfolding groups_down
  down_length zero h = before_none m z ds 0 refl
  down_length (suc g) h = rw (length-append, group_size m z ds g, down_length g (omega arith)) (omega (arith, rises g (omega arith)))

  -- row j of group k
  down_at : (g k j : ℕ) → k < g → g ≤ length ds → before k ≤ j → j < before (suc k)
      → get_or (groups_down m z ds g) (before g - before (suc k) + (j - before k)) 0 ≡ j
  down_at zero k j h l low high = absurd (omega arith)
  down_at (suc g) k j h l low high =
      ⊎_elim (λ (s : k < g).
      let room : before (suc k) ≤ before g = rises_past k g s (omega arith) in
      let far : before (suc g) - before g ≤ before (suc g) - before (suc k) + (j - before k) = omega (arith, rises g (omega arith)) in
      let e : before (suc g) - before (suc k) + (j - before k) - (before (suc g) - before g) ≡ before g - before (suc k) + (j - before k)
      = omega (arith, rises g (omega arith)) in
      turn_past m z ds g _ far ∙ ap (λ (x : ℕ). get_or (groups_down m z ds g) x 0) e ∙ down_at g k j s (omega arith) low high)
      (λ (s : g ≤ k).
      let e : k ≡ g = omega arith in
      let i : before (suc g) - before (suc k) + (j - before k) ≡ j - before g = rw e (omega arith) in
      let inside : j - before g < before (suc g) - before g = rw (← e) (omega arith) in
      let is : before g + (j - before g) ≡ j = rw (← e) (omega arith) in
      ap (λ (x : ℕ). get_or (groups_down m z ds (suc g)) x 0) i ∙ turn_here m z ds g (j - before g) inside ∙ is)
      (lt_or_le k g)

  P-before : P ≡ before (suc C.place)
  P-before = ap (rows_of_count m z) C.place_is ∙ sym (before-next m z ds C.place)

  pub P_some : 0 < P
  P_some =
      rw C.place_is
      (omega (arith, C.facts.first_rows, rows_rise C.n C.r z ds m b C.facts 0 C.place zero-le C.place_low))

  -- the counts fall, so none before d is d
  number_is : group_number d ds ≡ suc C.place
  number_is =
      number-at d ds C.place C.place_low (sym C.place_is)
      (λ k l same.
      let next : k + 1 < length ds = omega (arith, C.place_low) in
      let fall = C.facts.falling k next in
      let most = counts_fall C.n C.r z ds m b C.facts (k + 1) C.place (omega arith) C.place_low in
      omega (arith, fall, most, C.place_is))

  order_is : reading_order m z ds d ≡ groups_down m z ds (suc C.place)
  unfolding reading_order
  order_is = rw number_is

  order_length : length (reading_order m z ds d) ≡ P
  order_length = rw order_is (down_length (suc C.place) (omega (arith, C.place_low)) ∙ sym P-before)

  -- ---- a row and its turn

  module _ (j : ℕ) (h : j < P) where
    row_group : group_of m z ds j ≤ C.place
    row_group = group_least m z j ds C.place C.place_low (rw (← C.place_is) h)

    row_own : j < before (suc (group_of m z ds j))
    row_own = rw (before-next m z ds (group_of m z ds j)) (group_within m z j ds (omega (arith, row_group, C.place_low)))

    row_most : before (suc (group_of m z ds j)) ≤ P
    row_most = rw P-before (rises_to (group_of m z ds j) C.place row_group C.place_low)

    pub turn_below : turn j < P
    unfolding turn_of
    turn_below = omega (arith, row_own, row_most, own_past m z ds j)

    pub in-turn : row (turn j) ≡ j
    unfolding turn_of
    in-turn =
        rw (order_is, P-before)
        (down_at (suc C.place) (group_of m z ds j) j (omega (arith, row_group)) (omega (arith, C.place_low)) (own_past m z ds j) row_own)

  -- ---- a turn and its row: the group is that of the row `back`, as far from the end

  module _ (u back k : ℕ) (h : u < P) (back_is : back ≡ P - 1 - u) (k-is : k ≡ group_of m z ds back) where
    back_low : back < P
    back_low = omega (arith, P_some)

    turn_group : k < length ds
    turn_group = omega (arith, row_group back back_low, C.place_low)

    turn_low : before k ≤ back
    turn_low = rw k-is (own_past m z ds back)

    turn_high : back < before (suc k)
    turn_high = rw k-is (row_own back back_low)

    turn_most : before (suc k) ≤ P
    turn_most = rw k-is (row_most back back_low)

    turn-row : row u ≡ before k + (before (suc k) - 1 - back)
    turn-row =
        let j : ℕ = before k + (before (suc k) - 1 - back) in
        let at : before (suc C.place) - before (suc k) + (j - before k) ≡ u = omega (arith, P-before, turn_low, turn_high, turn_most) in
        rw order_is
        (ap (λ (x : ℕ). get_or (groups_down m z ds (suc C.place)) x 0) (sym at)
        ∙ down_at (suc C.place) k j (omega (arith, row_group back back_low)) (omega (arith, C.place_low)) (omega arith) (omega (arith, turn_low, turn_high)))

    turn_row_low : before k ≤ row u
    turn_row_low = omega (arith, turn-row)

    turn_row_high : row u < before (suc k)
    turn_row_high = omega (arith, turn-row, turn_low, turn_high)

    turn_row_group : group_of m z ds (row u) ≡ k
    turn_row_group =
        group_is C.n C.r z ds m b C.facts k (row u) turn_group (rw (before-next m z ds k) at turn_row_high)
        (λ pos. omega (arith, before_some m z ds k pos, turn_row_low))

    row_below : row u < P
    row_below = omega (arith, turn_row_high, turn_most)

    own_turn : turn (row u) ≡ u
    unfolding turn_of
    own_turn = rw turn_row_group (omega (arith, turn-row, turn_low, turn_high, turn_most))

    -- a row of a later group has an earlier turn
    sooner : (j : ℕ) → j < P → k < group_of m z ds j → turn j < u
    unfolding turn_of
    sooner j l later =
        let far : before (suc k) ≤ before (group_of m z ds j) = rises_past k (group_of m z ds j) later (omega (arith, row_group j l, C.place_low)) in
        omega (arith, row_own j l, row_most j l, own_past m z ds j, turn-row, turn_low, turn_high, turn_most)

    -- and a row past the group's end is one of a later group
    past_later : (j : ℕ) → j < P → rows_of_count m z (count_of m z ds (row u)) ≤ j → k < group_of m z ds j
    unfolding count_of
    past_later j l past =
        let after : before (suc k) ≤ j = rw (before-next m z ds k, ← turn_row_group) past in
        ⊎_elim (λ (s : k < group_of m z ds j). s)
        (λ (s : group_of m z ds j ≤ k). omega (arith, row_own j l, rises_to (group_of m z ds j) k s turn_group))
        (lt_or_le k (group_of m z ds j))

  module _ (u : ℕ) (h : u < P) where
    abbrev back_of : ℕ
    back_of = P - 1 - u

    pub row_in_turn_below : row u < P
    row_in_turn_below = row_below u back_of (group_of m z ds back_of) h refl refl

    pub turn_of_row : turn (row u) ≡ u
    turn_of_row = own_turn u back_of (group_of m z ds back_of) h refl refl

    pub later_sooner : (j : ℕ) → j < P → rows_of_count m z (count_of m z ds (row u)) ≤ j → turn j < u
    later_sooner j l past =
        sooner u back_of (group_of m z ds back_of) h refl refl j l (past_later u back_of (group_of m z ds back_of) h refl refl j l past)

    -- so the row of a later turn is not one of a later group
    not-later : (v : ℕ) → u < v → v < P → group_of m z ds (row v) ≤ group_of m z ds (row u)
    not-later v l hv =
        ⊎_elim (λ (s : group_of m z ds (row u) < group_of m z ds (row v)).
        let own : group_of m z ds (row u) ≡ group_of m z ds back_of = turn_row_group u back_of (group_of m z ds back_of) h refl refl in
        let soon : turn (row v) < u
        = sooner u back_of (group_of m z ds back_of) h refl refl (row v) (row_below v (P - 1 - v) (group_of m z ds (P - 1 - v)) hv refl refl) (rw (← own) s) in
        absurd (omega (arith, soon, own_turn v (P - 1 - v) (group_of m z ds (P - 1 - v)) hv refl refl)))
        (λ (s : group_of m z ds (row v) ≤ group_of m z ds (row u)). s)
        (lt_or_le (group_of m z ds (row u)) (group_of m z ds (row v)))

  -- of two turns in a group the later one is that of the later row
  rows-within : (u v : ℕ) → u < v → (hu : u < P) (hv : v < P) → group_of m z ds (row v) ≡ group_of m z ds (row u) → row u < row v
  unfolding turn_of
  rows-within u v l hu hv same =
      omega (arith, turn_of_row u hu, rw same at (turn_of_row v hv), own_past m z ds (row u), rw same at (own_past m z ds (row v)))

  -- the order in words
  pub turns : Turns m z ds d
  turns =
      record {
        long = order_length;
        row = row_in_turn_below;
        turn = λ j h. (turn j, turn_below j h, in-turn j h);
        order = λ u v l h.
            ⊎_elim (λ (same : group_of m z ds (row v) ≡ group_of m z ds (row u)). inr (same, rows-within u v l (omega arith) h same))
            (λ (less : group_of m z ds (row v) < group_of m z ds (row u)). inl less)
            (eq-or-lt_of_le (not-later u (omega arith) v l h));
      }
