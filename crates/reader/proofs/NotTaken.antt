-- The rows that are not taken change nothing: two strings of blocks whose prefixes have the same bytes in the rows of the first turns have the same
-- bytes at all origins of these rows, turn after turn. From degree d up a row's coefficients stand in earlier turns; below d the values at d points
-- determine them.
-- Assumes nothing.
use mathlib.Core.Path.{◌≡◌, refl, sym, ap, ◌∙◌}
use mathlib.Core.Bool.{cond}
use mathlib.Core.List.{List, []}
use Prim.Native.Nat.{ℕ, zero, suc, ◌+◌, ◌*◌, ◌≤◌, ◌<◌, zero-le}
use native.Mathlib.Numerals.{add-one}
use native.Mathlib.Omega.{arith}
use lib.Dec.{ltb}
use lib.ListN.{length, get_or, replicate, length-replicate}
use borrow.Author.Tests.{lt-ltb, le-ltb}
use Rattle.lists.specs.Each.{Each, Byte}
use Rattle.gf256.specs.Byte.{◌⊗◌}
use Rattle.interpolation.specs.Polynomial.{eval, sum_to}
use Rattle.interpolation.specs.Interpolation.{side}
use Rattle.interpolation.proofs.Laws.{opening_solved}
use Rattle.scheme.specs.declared.accepted.Scheme.{Scheme}
use Rattle.rows.specs.Sources.{RowOrigins}
use Rattle.order.specs.ReadingOrder.{row_in_turn}
use Rattle.reader.specs.Decoding.{WeightsOf, HasPlaces, RowOf, sent_rows, Input, Sent, Found}
use Rattle.reader.proofs.RowFacts.{top, row-places, sizes, sizes_fit, row_weights, row_fits, row-values}
use Rattle.reader.proofs.RowOrder.{TurnAt, row_at, row-known, row-found, found_none}

-- ---- one row: equal values at d points and equal coefficients from degree d up make equal coefficients below

module _ (d top : ℕ) (points : List ℕ) (weights : List (List ℕ)) (W : WeightsOf points d top weights) (within : d ≤ top) (cs cs' : List ℕ)
    (bytes : Each Byte cs) (bytes' : Each Byte cs') (long : length cs ≡ top) (long' : length cs' ≡ top)
    (values : (a : ℕ) → a < d → eval (get_or points a 0) cs ≡ eval (get_or points a 0) cs')
    (upper : (i : ℕ) → d ≤ i → i < top → get_or cs i 0 ≡ get_or cs' i 0) where
  -- what is weighted: the values, and the coefficients from degree d up
  weighted : ℕ → ℕ
  weighted i = cond (ltb i d) (eval (get_or points i 0) cs) (get_or cs i 0)

  at-point : (a : ℕ) → a < d → weighted a ≡ eval (get_or points a 0) cs
  unfolding weighted
  at-point a h = rw (lt-ltb a d h)

  at_degree : (i : ℕ) → d ≤ i → weighted i ≡ get_or cs i 0
  unfolding weighted
  at_degree i h = rw (le-ltb i d h)

  -- the weighted sum is the coefficient of either
  sum_is : (ds : List ℕ) → Each Byte ds → length ds ≡ top → ((a : ℕ) → a < d → eval (get_or points a 0) cs ≡ eval (get_or points a 0) ds)
      → ((i : ℕ) → d ≤ i → i < top → get_or cs i 0 ≡ get_or ds i 0)
      → (e : ℕ) → e < d → sum_to top (λ i. get_or (get_or weights i []) e 0 ⊗ weighted i) ≡ get_or ds e 0
  sum_is ds b n same same' e h =
      let m : length points ≡ d = W.long in
      ap (λ (x : ℕ). sum_to x (λ i. get_or (get_or weights i []) e 0 ⊗ weighted i)) (sym n)
      ∙ opening_solved points ds W.bytes W.distinct b (omega arith) (λ i. get_or (get_or weights i []) e 0) weighted e (omega arith)
      (λ a l. W.parties a e (omega arith) h)
      (λ a l. at-point a (omega arith) ∙ same a (omega arith))
      (λ i l k. rw m (W.known i e (omega arith) (omega arith) h))
      (λ i l k. at_degree i (omega arith) ∙ same' i (omega arith) (omega arith))

  lower_equal : (e : ℕ) → e < d → get_or cs e 0 ≡ get_or cs' e 0
  lower_equal e h = sym (sum_is cs bytes long (λ a l. refl) (λ i l k. refl) e h) ∙ sum_is cs' bytes' long' values upper e h

-- ---- the row of turn u, of two strings of blocks

module _ {s : Scheme} {ds : List ℕ} {d skip blocks : ℕ} {points prefixes prefixes' : List ℕ} {u j : ℕ}
    (R : TurnAt s ds d skip blocks prefixes u j) (R' : TurnAt s ds d skip blocks prefixes' u j)
    {places : List ℕ} (O : RowOrigins s.block s.z ds j (top (row_at R)) places) {weights : List (List ℕ)} (W : WeightsOf points d (get_or ds 0 0) weights)
    {B K B' K' : List ℕ} (X : Sent s ds d blocks points prefixes B K) (X' : Sent s ds d blocks points prefixes' B' K')
    (same : (t a : ℕ) → t < blocks → a < d → get_or prefixes (a * (sent_rows s d * blocks) + (j * blocks + t)) 0 ≡ get_or prefixes' (a * (sent_rows s d * blocks) + (j * blocks + t)) 0)
    (F : Found s ds d blocks u B' B) where
  row_of : RowOf (sizes (row_at R)) (top (row_at R)) (j * blocks) places points prefixes B
  row_of = row-values (row_at R) O B K points X

  row_of' : RowOf (sizes (row_at R')) (top (row_at R)) (j * blocks) places points prefixes' B'
  row_of' = row-values (row_at R') O B' K' points X'

  high_same : HasPlaces 0 blocks s.block d (top (row_at R)) places B' B
  high_same = row-known R O B' B F

  low_same : HasPlaces 0 blocks s.block s.z d places B' B
  low_same t e a ht low high =
      let z-high : s.z ≤ d = (sizes_fit (row_at R)).z_low in
      let top_low : d ≤ top (row_at R) = (row_fits (row_at R) O).top_low in
      sym (row_of.message t e ht low (omega arith))
      ∙ lower_equal d (top (row_at R)) points weights (row_weights (row_at R) W) top_low (row_of.row t) (row_of'.row t) (row_of.bytes t ht) (row_of'.bytes t ht)
      (row_of.long t ht) (row_of'.long t ht)
      (λ k hk. sym (row_of.sent t k ht hk) ∙ same t k ht hk ∙ row_of'.sent t k ht hk)
      (λ f lf inside.
      row_of.message t f ht (omega arith) inside ∙ high_same t f zero-le ht lf inside ∙ sym (row_of'.message t f ht (omega arith) inside))
      e high
      ∙ row_of'.message t e ht low (omega arith)

  turn-same : Found s ds d blocks (u + 1) B' B
  turn-same = row-found R O B' B F B (record { long = refl; still = λ i h. h; new = low_same })

-- ---- all turns

module _ {s : Scheme} {ds : List ℕ} {d blocks : ℕ} {points prefixes prefixes' : List ℕ}
    (J : Input s ds d blocks prefixes) (J' : Input s ds d blocks prefixes') {weights : List (List ℕ)} (W : WeightsOf points d (get_or ds 0 0) weights)
    {B K B' K' : List ℕ} (X : Sent s ds d blocks points prefixes B K) (X' : Sent s ds d blocks points prefixes' B' K') where
  pub turns_same : (many : ℕ) → many ≤ sent_rows s d
      → ((u t a : ℕ) → u < many → t < blocks → a < d
      → let place : ℕ = a * (sent_rows s d * blocks) + (row_in_turn s.block s.z ds d u * blocks + t) in
      get_or prefixes place 0 ≡ get_or prefixes' place 0)
      → Found s ds d blocks many B' B
  turns_same zero h same = found_none s ds d blocks B' B
  turns_same (suc u) h same =
      let j : ℕ = row_in_turn s.block s.z ds d u in
      let R : TurnAt s ds d d blocks prefixes u j = record { input = J; here = h; row_is = refl } in
      let R' : TurnAt s ds d d blocks prefixes' u j = record { input = J'; here = h; row_is = refl } in
      rw add-one at
      (turn-same R R' (row-places (row_at R) (replicate side 0) (length-replicate {A = ℕ} side 0)) W X X' (λ t a ht ha. same u t a (omega arith) ht ha)
      (turns_same u (omega arith) (λ v t a hv ht ha. same v t a (omega arith) ht ha)))
