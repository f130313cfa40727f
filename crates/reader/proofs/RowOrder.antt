-- The rows in their turns: what is found and what is counted before a row and after it, and that the rows that reach a range give its bytes. A
-- coefficient of degree d or more of a row stands again in a later group, whose rows have earlier turns, so it is known when the row's turn comes.
-- Assumes nothing.
use mathlib.Core.Path.{◌≡◌, refl, sym, ap, ◌∙◌}
use mathlib.Core.List.{List, ◌++◌}
use mathlib.Core.Logic.{⊎_elim}
use Prim.Native.Nat.{ℕ, ◌+◌, ◌-◌, ◌*◌, ◌/◌, ◌%◌, ◌≤◌, ◌<◌, zero-le}
use native.Mathlib.Nat.{zero-add, add-mul, mul-add, mul-le-mul_left, mul-le-mul_right, div-add-mod'}
use native.Mathlib.Omega.{arith}
use lib.ListN.{length, get_or, take, drop, length-append, length-drop, get_or-append}
use lib.Seq.{ext_get_or, get_or-take, get_or-drop, length-take-le}
use Rattle.lists.proofs.Joined.{in-grid}
use Rattle.lists.proofs.Tests.{lt_or_le}
use Rattle.scheme.specs.declared.accepted.Scheme.{Scheme}
use Rattle.staircase.specs.Coefficients.{count_of, origin}
use Rattle.rows.specs.Sources.{RowOrigins}
use Rattle.order.specs.ReadingOrder.{row_in_turn}
use Rattle.order.specs.RowsTaken.{Reached}
use Rattle.order.proofs.ReadingOrder.{order_of, turn_of, in-turn, row_in_turn_below, later_sooner}
use Rattle.reader.specs.declared.decoding.Sizes.{Sizes}
use Rattle.reader.specs.Decoding.{read_by, HasPlaces, Solved, Solves, sent_rows, sizes_of, read_from, Counted, Input, EachSent, Found}
use Rattle.reader.proofs.CountedScheme.{count_in}
use Rattle.reader.proofs.RowFacts.{RowAt, top, row_weights, row-values}

-- ---- the bytes counted: those of d parties and `blocks` blocks in each turn passed

pub counted_more : (d blocks used u P most : ℕ) → u < P → used ≡ d * (u * blocks) → d * (P * blocks) ≤ most
    → (used + d * blocks ≡ d * ((u + 1) * blocks)) × (used + d * blocks ≤ most)
counted_more d blocks used u P most h e fits =
    let turn : (u + 1) * blocks ≡ u * blocks + blocks = omega (arith, add-mul u 1 blocks) in
    let more : d * ((u + 1) * blocks) ≡ d * (u * blocks) + d * blocks = rw turn (mul-add d (u * blocks) blocks) in
    let within : u + 1 ≤ P = omega arith in
    (omega arith, omega (arith, mul-le-mul_left d (mul-le-mul_right blocks within)))

-- ---- the row j of turn u

pub record TurnAt (s : Scheme) (ds : List ℕ) (d skip blocks : ℕ) (prefixes : List ℕ) (u j : ℕ) : Type 0 where
  pub input : Input s ds d blocks prefixes
  pub here : u < sent_rows s d
  pub row_is : j ≡ row_in_turn s.block s.z ds d u

module _ {s : Scheme} {ds : List ℕ} {d skip blocks : ℕ} {prefixes : List ℕ} {u j : ℕ} (R : TurnAt s ds d skip blocks prefixes u j) where
  C : Counted s ds d
  C = R.input.counted

  -- the row by its number
  pub row_at : RowAt s ds d skip blocks prefixes j
  row_at = record { input = R.input; inside = rw R.row_is (row_in_turn_below (count_in C) u R.here) }

  module _ {places : List ℕ} (O : RowOrigins s.block s.z ds j (top row_at) places) where
    module _ (B w : List ℕ) (F : Found s ds d blocks u B w) where
      -- what the row's loop needs is in the buffer
      pub row-known : HasPlaces 0 blocks s.block d (top row_at) places B w
      row-known t e a b low high =
          let S = (order_of (count_in C)).again j e row_at.inside low high in
          let v : ℕ = turn_of s.block s.z ds (sent_rows s d) S.row in
          let soon : v < u = later_sooner (count_in C) u R.here S.row S.within (rw (← R.row_is) S.past) in
          let is : row_in_turn s.block s.z ds d v ≡ S.row = in-turn (count_in C) S.row S.within in
          let within : S.degree < count_of s.block s.z ds S.row = omega (arith, S.high, (order_of (count_in C)).wide S.row S.within) in
          let same : origin s.block s.z ds S.row S.degree ≡ get_or places e 0
          = S.is ∙ sym (O.is e (omega (arith, (order_of (count_in C)).above)) high) in
          rw (is, same) at (F v S.degree t soon b S.low (rw is within))

      -- and it adds the row
      pub row-found : (w' : List ℕ) → Solved 0 blocks s.block s.z d places B w w' → Found s ds d blocks (u + 1) B w'
      row-found w' X v e t h ht low high =
          ⊎_elim (λ (l : v < u). X.still _ (F v e t l ht low high)) (λ (l : u ≤ v). self (omega arith)) (lt_or_le v u)
        where
          self : v ≡ u
              → let place : ℕ = t * s.block + origin s.block s.z ds (row_in_turn s.block s.z ds d v) e in
              get_or w' place 0 ≡ get_or B place 0
          self q =
              let row : row_in_turn s.block s.z ds d v ≡ j = rw q (sym R.row_is) in
              let within : e < top row_at = rw (← row) high in
              let same : get_or places e 0 ≡ origin s.block s.z ds (row_in_turn s.block s.z ds d v) e = rw row (O.is e low within) in
              let v : get_or w' (t * s.block + get_or places e 0) 0 ≡ get_or B (t * s.block + get_or places e 0) 0
              = ⊎_elim (λ (k : e < d). X.new t e zero-le ht low k) (λ (k : d ≤ e). X.still _ (row-known t e zero-le ht k within)) (lt_or_le e d) in
              rw same at v

-- the row's loop, in the code's sizes and for every B that has these prefixes
module _ {s : Scheme} {ds : List ℕ} {d skip blocks : ℕ} (lent : List ℕ) {u j : ℕ} (R : TurnAt s ds d skip blocks (read_from s d blocks skip lent) u j)
    {places : List ℕ} (O : RowOrigins s.block s.z ds j (top (row_at R)) places) {sizes : Sizes} (sizes_are : sizes ≡ sizes_of s d skip blocks)
    {n : ℕ} (n_is : n ≡ top (row_at R)) where
  pub row_done : (w w' : List ℕ) (weights : List (List ℕ)) → Solves sizes n (j * blocks) places weights (read_by sizes lent) 0 sizes.blocks w w'
      → EachSent s ds d blocks weights (read_from s d blocks skip lent) (λ B. Found s ds d blocks u B w → Found s ds d blocks (u + 1) B w')
  row_done w w' weights X B K points W Y F =
      row-found R O B w F w'
      ((rw (sizes_are, n_is) at X) B points (row_weights (row_at R) W) (row-values (row_at R) O B K points Y) (row-known R O B w F))

-- no turns are passed: nothing has to be found
pub found_none : (s : Scheme) (ds : List ℕ) (d blocks : ℕ) (B w : List ℕ) → Found s ds d blocks 0 B w
found_none s ds d blocks B w u e t h = absurd (omega arith)

-- ---- the rows of the turns passed reach a range

module _ (s : Scheme) (ds : List ℕ) (d blocks many start long : ℕ) (B w : List ℕ) (R : Reached s.block s.z ds d start long many)
    (F : Found s ds d blocks many B w) (room : start + long ≤ blocks * s.block) (lb : length B ≡ blocks * s.block) (lw : length w ≡ blocks * s.block) where
  -- the range's bytes
  found_range : (k : ℕ) → k < long → get_or w (start + k) 0 ≡ get_or B (start + k) 0
  found_range k h =
      let i = in-grid (start + k) blocks s.block (omega arith) in
      let S = R ((start + k) % s.block) (record { offset = k; inside = h; is = refl }) in
      rw (S.is, div-add-mod' (start + k) s.block) at
      (F S.turn S.degree ((start + k) / s.block) S.early i.0 S.low S.high)

  -- all of them, where the range is all blocks
  pub found_all : start ≡ 0 → long ≡ blocks * s.block → w ≡ B
  found_all zero all =
      ext_get_or 0 w B (lw ∙ sym lb)
      (λ k h.
      let l : k < long = rw (lw, ← all) at h in
      rw (zero, zero-add k) at (found_range k l))

  -- what is copied out of a list that begins with them
  pub found-copied : (rest out : List ℕ) → out ≡ take long (drop start (w ++ rest)) → out ≡ take long (drop start B)
  found-copied rest out e =
      let cut : length (drop start B) ≡ blocks * s.block - start = rw (length-drop, lb) in
      let whole : long ≤ length (drop start (w ++ rest)) = rw (length-drop, length-append, lw) (omega arith) in
      let lout : length out ≡ long = rw e (length-take-le long (drop start (w ++ rest)) whole) in
      let lright : length (take long (drop start B)) ≡ long = length-take-le long (drop start B) (rw cut (omega arith)) in
      ext_get_or 0 out (take long (drop start B)) (lout ∙ sym lright)
      (λ k h.
      let l : k < long = rw lout at h in
      let inside : start + k < length w = rw lw (omega arith) in
      ap (λ (x : List ℕ). get_or x k 0) e
      ∙ get_or-take long (drop start (w ++ rest)) k 0 l
      ∙ get_or-drop start (w ++ rest) k 0
      ∙ get_or-append w rest 0 (start + k) inside
      ∙ found_range k l
      ∙ sym (get_or-take long (drop start B) k 0 l ∙ get_or-drop start B k 0))
