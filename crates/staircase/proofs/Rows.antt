-- The rows of a block, as the document lists them group by group, have the coefficients that following copies home gives one by one.
-- By induction on the groups: with the rows before a group known, an entry of the copied list is a coefficient of one of them, the one that
-- the origin of the new row's coefficient is followed to.
-- Assumes nothing.
use mathlib.Core.Path.{◌≡◌, refl, sym, ap, ◌∙◌}
use mathlib.Core.Logic.{⊎_elim}
use mathlib.Core.List.{List, [], ◌∷◌, ◌++◌, map}
use Prim.Native.Nat.{ℕ, zero, suc, ◌+◌, ◌-◌, ◌*◌, ◌/◌, ◌%◌, ◌≤◌, ◌<◌}
use native.Mathlib.Nat.{zero-mul, suc-mul, zero-add, mul-le-mul_right, add-mul, add_comm, le_of_suc-le-suc, not-suc-le-zero, div-add-mod'}
use native.Mathlib.Omega.{arith}
use borrow.Author.Tests.{lt-ltb, le-ltb}
use lib.ListN.{length, get_or, take, drop, length-append, length-drop, length-map, get_or-append}
use lib.Seq.{drop-cons, drop-drop, get_or-take, get_or-drop, length-take-le, get_or-append-add}
use Rattle.lists.specs.Each.{Each}
use Rattle.lists.specs.Table.{tabulate, piece, pieces, flat}
use Rattle.lists.proofs.Tests.{lt_or_le}
use Rattle.lists.proofs.Table.{length-tabulate, get_or-tabulate, tabulate_is}
use Rattle.lists.proofs.Each.{each_of, each_imp, each_mapped, get_or-map}
use Rattle.lists.proofs.Joined.{in-grid, below_product}
use Rattle.lists.proofs.Piece.{length-piece, get_or-piece, length-pieces, get_or-pieces, length-flat, get_or-flat}
use Rattle.scheme.specs.Check.{rows_of_count}
use Rattle.scheme.specs.Facts as facts
use Rattle.staircase.specs.Rows.{row_of, keyed, copied, with_groups, rows_of}
use Rattle.staircase.specs.Coefficients.{group_of, count_of, origin, coefficient}
use Rattle.staircase.specs.Opening.{block_row}
use Rattle.staircase.proofs.Groups.{count-above, counts_fall, rows_most, group_least, group_is}
use Rattle.staircase.proofs.Origin.{origin-first, origin-falls, origin-later}

-- ---- rows with their keys

length-keyed : (z : ℕ) (keys : List ℕ) (rests : List (List ℕ)) → length (keyed z keys rests) ≡ length rests
unfolding keyed
length-keyed z keys [] = refl
length-keyed z keys (rest ∷ rests) = ap suc (length-keyed z _ rests)

keyed-at : (z : ℕ) (keys : List ℕ) (rests : List (List ℕ)) (j : ℕ) → j < length rests
    → get_or (keyed z keys rests) j [] ≡ row_of (piece z j keys) (get_or rests j [])
unfolding keyed piece
keyed-at z keys [] j h = absurd (not-suc-le-zero h)
keyed-at z keys (rest ∷ rests) zero h = rw zero-mul
keyed-at z keys (rest ∷ rests) (suc j) h =
    keyed-at z (drop z keys) rests j (le_of_suc-le-suc h) ∙ rw (drop-drop, suc-mul, add_comm z (j * z))

-- a row is a table by its entries below z and from z up
pub row_table : (z d : ℕ) (keys rest : List ℕ) (f : ℕ → ℕ) → z ≤ d → length keys ≡ z → length rest ≡ d - z
    → ((e : ℕ) → e < z → get_or keys e 0 ≡ f e) → ((e : ℕ) → z ≤ e → e < d → get_or rest (e - z) 0 ≡ f e) → row_of keys rest ≡ tabulate d f
unfolding row_of
row_table z d keys rest f le k r low high =
    tabulate_is (keys ++ rest) d f 0 (length-append keys rest ∙ omega arith)
    (λ e h.
    ⊎_elim (λ (l : e < z). get_or-append keys rest 0 e (omega arith) ∙ low e l)
    (λ (g : z ≤ e).
    let s : e ≡ length keys + (e - z) = omega arith in
    ap (λ (x : ℕ). get_or (keys ++ rest) x 0) s ∙ get_or-append-add keys rest (e - z) 0 ∙ high e g h)
    (lt_or_le e z))

-- ---- a coefficient, by its degree

module _ (m z : ℕ) (ds block keys : List ℕ) (j e : ℕ) where
  pub coefficient_key : e < z → coefficient m z ds block keys j e ≡ get_or keys (j * z + e) 0
  unfolding coefficient
  coefficient_key h = rw lt-ltb

  pub coefficient-byte : z ≤ e → coefficient m z ds block keys j e ≡ get_or block (origin m z ds j e) 0
  unfolding coefficient
  coefficient-byte h = rw le-ltb

-- ---- the rows of one group: `many` rows of d coefficients, the first of them row s, filled from a list of source bytes

module _ (m z : ℕ) (ds block keys : List ℕ) (s many d : ℕ) (source : List ℕ) (low : z ≤ d) (enough : (s + many) * z ≤ length keys)
    (full : many * (d - z) ≤ length source) where
  group_row : (i : ℕ) → i < many
      → ((e : ℕ) → z ≤ e → e < d → get_or source (i * (d - z) + (e - z)) 0 ≡ get_or block (origin m z ds (s + i) e) 0)
      → get_or (keyed z (drop (s * z) keys) (pieces many (d - z) source)) i [] ≡ tabulate d (coefficient m z ds block keys (s + i))
  group_row i h same =
      let left : many * z ≤ length (drop (s * z) keys) = rw length-drop (omega (arith, add-mul s many z)) in
      keyed-at z (drop (s * z) keys) (pieces many (d - z) source) i (rw length-pieces h)
      ∙ ap (row_of (piece z i (drop (s * z) keys))) (get_or-pieces many (d - z) source i h)
      ∙ row_table z d (piece z i (drop (s * z) keys)) (piece (d - z) i source) (coefficient m z ds block keys (s + i)) low
      (length-piece z i many (drop (s * z) keys) left h)
      (length-piece (d - z) i many source full h)
      (λ e b.
      let at : s * z + (i * z + e) ≡ (s + i) * z + e = omega (arith, add-mul s i z) in
      get_or-piece z i (drop (s * z) keys) e 0 b
      ∙ get_or-drop (s * z) keys (i * z + e) 0
      ∙ ap (λ (x : ℕ). get_or keys x 0) at
      ∙ sym (coefficient_key m z ds block keys (s + i) e b))
      (λ e g b.
      get_or-piece (d - z) i source (e - z) 0 (omega arith) ∙ same e g b ∙ sym (coefficient-byte m z ds block keys (s + i) e g))

-- ---- the copied coefficients, of rows with at least `above` coefficients each

module _ (d above : ℕ) (rows : List (List ℕ)) (long : Each (λ row. above ≤ length row) rows) where
  parts_long : Each (λ l. length l ≡ above - d) (map (λ row. take (above - d) (drop d row)) rows)
  parts_long =
      each_mapped (λ l. length l ≡ above - d) (λ row. take (above - d) (drop d row)) rows
      (each_imp (λ row. above ≤ length row) (λ row. length (take (above - d) (drop d row)) ≡ above - d)
      (λ row h. length-take-le (above - d) (drop d row) (rw length-drop (omega arith))) rows long)

  length-copied : length (copied d above rows) ≡ length rows * (above - d)
  unfolding copied
  length-copied = length-flat (above - d) (map (λ row. take (above - d) (drop d row)) rows) parts_long ∙ rw length-map

  -- entry q is one of row q / (above − d)
  get_or-copied : (q : ℕ) → q < length rows * (above - d)
      → get_or (copied d above rows) q 0 ≡ get_or (get_or rows (q / (above - d)) []) (d + q % (above - d)) 0
  unfolding copied
  get_or-copied q h =
      let f : List ℕ → List ℕ = λ row. take (above - d) (drop d row) in
      let g = in-grid q (length rows) (above - d) h in
      let e : q / (above - d) * (above - d) + q % (above - d) ≡ q = div-add-mod' q (above - d) in
      ap (λ (x : ℕ). get_or (flat (map f rows)) x 0) (sym e)
      ∙ get_or-flat (above - d) (map f rows) parts_long (q / (above - d)) (q % (above - d)) 0 (rw length-map g.0) g.1
      ∙ ap (λ (l : List ℕ). get_or l (q % (above - d)) 0) (get_or-map f rows (q / (above - d)) [] [] g.0)
      ∙ get_or-take (above - d) (drop d (get_or rows (q / (above - d)) [])) (q % (above - d)) 0 g.1
      ∙ get_or-drop d (get_or rows (q / (above - d)) []) (q % (above - d)) 0

-- ---- group after group

-- these are the rows of the groups up to that of the count at place k
record Upto (m z : ℕ) (ds block keys : List ℕ) (k : ℕ) (rows : List (List ℕ)) : Type 0 where
  number : length rows ≡ rows_of_count m z (get_or ds k 0)
  each : (j : ℕ) → j < rows_of_count m z (get_or ds k 0) → get_or rows j [] ≡ block_row m z ds block keys j

row_at : (m z : ℕ) (ds block keys : List ℕ) (i j : ℕ) → group_of m z ds j ≡ i
    → tabulate (get_or ds i 0) (coefficient m z ds block keys j) ≡ block_row m z ds block keys j
unfolding block_row count_of
row_at m z ds block keys i j e = rw e

module _ (n r z : ℕ) (ds : List ℕ) (m b : ℕ) (A : facts.SchemeFacts n r z ds m b) (block keys : List ℕ) (whole : length block ≡ m)
    (enough : length keys ≡ b * z) where
  enough_for : (p : ℕ) → p ≤ b → p * z ≤ length keys
  enough_for p l = omega (arith, mul-le-mul_right z l)

  first-row : (d P j : ℕ) → d ≡ get_or ds 0 0 → P ≡ rows_of_count m z d → j < P
      → get_or (keyed z keys (pieces P (d - z) block)) j [] ≡ block_row m z ds block keys j
  first-row d P j d-is P-is h =
      let own : j < rows_of_count m z (get_or ds 0 0) = rw (P-is, d-is) at h in
      let high : z < d = rw d-is (count-above n r z ds m b A 0 A.some) in
      let most : P ≤ b = rw (P-is, d-is) (rows_most n r z ds m b A 0 A.some) in
      let whole-rows : P * (d - z) ≡ m = rw (P-is, d-is) (A.rows_of-count 0 A.some) in
      let row =
      group_row m z ds block keys 0 P d block (omega arith) (enough_for (0 + P) (omega arith)) (omega arith) j h
      (λ e _ _. rw (zero-add, d-is, origin-first n r z ds m b A j e own)) in
      rw (zero-mul, zero-add) at row
      ∙ rw d-is (row_at m z ds block keys 0 j (group_is n r z ds m b A 0 j A.some own (λ none. omega arith)))

  first_group : Upto m z ds block keys 0 (keyed z keys (pieces (rows_of_count m z (get_or ds 0 0)) (get_or ds 0 0 - z) block))
  first_group =
      record {
        number = length-keyed z keys _ ∙ length-pieces _ _ block;
        each = λ j h. first-row (get_or ds 0 0) (rows_of_count m z (get_or ds 0 0)) j refl refl h;
      }

  -- one more group: of the count d, with the rows up to Q, after the P rows of the groups before it, the last of them of the count `above`
  module _ (k : ℕ) (more : k + 1 < length ds) (before : List (List ℕ)) (u : Upto m z ds block keys k before)
      (d above P Q : ℕ) (d-is : d ≡ get_or ds (k + 1) 0) (above_is : above ≡ get_or ds k 0) (P-is : P ≡ rows_of_count m z above)
      (Q-is : Q ≡ rows_of_count m z d) where
    number_is : length before ≡ P
    number_is = u.number ∙ sym (P-is ∙ ap (rows_of_count m z) above_is)

    earlier : (j : ℕ) → j < P → get_or before j [] ≡ block_row m z ds block keys j
    earlier j h = u.each j (rw (P-is, above_is) at h)

    long : Each (λ row. above ≤ length row) before
    unfolding block_row count_of
    long =
        each_of (λ row. above ≤ length row) before []
        (λ j h.
        let g : group_of m z ds j ≤ k = group_least m z j ds k (omega arith) (rw u.number at h) in
        rw (earlier j (rw number_is at h), length-tabulate, above_is) (counts_fall n r z ds m b A (group_of m z ds j) k g (omega arith)))

    fill : (Q - P) * (d - z) ≡ P * (above - d)
    fill = rw (P-is, Q-is, d-is, above_is) (A.fits k more)

    group_next : (j : ℕ) → P ≤ j → j < Q → group_of m z ds j ≡ k + 1
    group_next j past h =
        let back : k + 1 - 1 ≡ k = omega arith in
        group_is n r z ds m b A (k + 1) j more (rw (Q-is, d-is) at h) (λ _. rw (back, ← above_is, ← P-is) past)

    most : Q ≤ b
    most = rw (Q-is, d-is) (rows_most n r z ds m b A (k + 1) more)

    -- entry q of the copied list is the coefficient of degree e of row j
    copy_home : (j e q : ℕ) → P ≤ j → j < Q → z ≤ e → e < d → q ≡ (j - P) * (d - z) + (e - z)
        → get_or (copied d above before) q 0 ≡ get_or block (origin m z ds j e) 0
    unfolding block_row
    copy_home j e q past h low high q-is =
        let back : above ≡ get_or ds (k + 1 - 1) 0 = above_is ∙ ap (λ (x : ℕ). get_or ds x 0) (omega arith) in
        let at : q ≡ (j - rows_of_count m z above) * (d - z) + (e - z) = rw (← P-is) q-is in
        let s = origin-falls n r z ds m b A j e (k + 1) d above q (omega (arith, most)) (sym (group_next j past h)) (omega arith) d-is back at high in
        let inside : q < P * (above - d)
        = rw (q-is, ← fill) (below_product (j - P) (Q - P) (e - z) (d - z) (omega arith) (omega arith)) in
        get_or-copied d above before long q (rw number_is inside)
        ∙ ap (λ (l : List ℕ). get_or l (d + q % (above - d)) 0) (earlier (q / (above - d)) (rw P-is s.row))
        ∙ get_or-tabulate (count_of m z ds (q / (above - d))) (coefficient m z ds block keys (q / (above - d))) (d + q % (above - d)) 0 s.within
        ∙ coefficient-byte m z ds block keys (q / (above - d)) (d + q % (above - d)) s.low
        ∙ ap (λ (x : ℕ). get_or block x 0)
        (sym (origin-later n r z ds m b A j e (k + 1) d above q (omega (arith, most)) (sym (group_next j past h)) (omega arith) d-is back at high))

    new_row : (j : ℕ) → P ≤ j → j < Q
        → get_or (keyed z (drop (P * z) keys) (pieces (Q - P) (d - z) (copied d above before))) (j - P) [] ≡ block_row m z ds block keys j
    new_row j past h =
        let high : z < d = rw d-is (count-above n r z ds m b A (k + 1) more) in
        let at : P + (j - P) ≡ j = omega arith in
        let total : P + (Q - P) ≡ Q = omega arith in
        let row = group_row m z ds block keys P (Q - P) d (copied d above before) (omega arith)
        (rw total (enough_for Q most))
        (omega (arith, fill, ap (λ (x : ℕ). x * (above - d)) number_is, length-copied d above before long))
        (j - P) (omega arith)
        (λ e low end. rw at (copy_home j e ((j - P) * (d - z) + (e - z)) past h low end refl)) in
        rw at at row ∙ rw d-is (row_at m z ds block keys (k + 1) j (group_next j past h))

    next_group : Upto m z ds block keys (k + 1)
        (before ++ keyed z (drop (length before * z) keys) (pieces (Q - length before) (d - z) (copied d above before)))
    next_group =
        let up : P ≤ Q = rw (P-is, Q-is, d-is, above_is) (omega (arith, A.rising k more)) in
        let new : List (List ℕ) = keyed z (drop (P * z) keys) (pieces (Q - P) (d - z) (copied d above before)) in
        let size : length new ≡ Q - P = length-keyed z (drop (P * z) keys) (pieces (Q - P) (d - z) (copied d above before))
        ∙ length-pieces (Q - P) (d - z) (copied d above before) in
        let all : Q ≡ rows_of_count m z (get_or ds (k + 1) 0) = Q-is ∙ ap (rows_of_count m z) d-is in
        rw number_is
        record {
          number = length-append before new ∙ omega (arith, number_is);
          each =
              λ j h.
              ⊎_elim (λ (l : j < P). get_or-append before new [] j (rw number_is l) ∙ earlier j l)
              (λ (g : P ≤ j).
              let at : j ≡ length before + (j - P) = omega (arith, number_is) in
              ap (λ (x : ℕ). get_or (before ++ new) x []) at ∙ get_or-append-add before new (j - P) [] ∙ new_row j g (rw all h))
              (lt_or_le j P);
        }

  -- the groups of the counts after place k
  rest_groups : (rest : List ℕ) (k : ℕ) → k < length ds → drop (k + 1) ds ≡ rest → (before : List (List ℕ)) → Upto m z ds block keys k before
      → Upto m z ds block keys (length ds - 1) (with_groups m z keys (get_or ds k 0) before rest)
  unfolding with_groups
  rest_groups [] k h e before u =
      let end : length ds - 1 ≡ k = omega (arith, length-drop (k + 1) ds, ap length e) in
      rw end u
  rest_groups (d ∷ rest) k h e before u =
      let more : k + 1 < length ds = omega (arith, length-drop (k + 1) ds, ap length e) in
      let s : drop (k + 1) ds ≡ get_or ds (k + 1) 0 ∷ drop (suc (k + 1)) ds = drop-cons ds (k + 1) 0 more in
      let d-is : d ≡ get_or ds (k + 1) 0 = cc in
      let rest-is : drop (suc (k + 1)) ds ≡ rest = cc in
      let one : k + 1 + 1 ≡ suc (k + 1) = omega arith in
      rw d-is
      (rest_groups rest (k + 1) more (rw one rest-is) _
      (next_group k more before u (get_or ds (k + 1) 0) (get_or ds k 0) _ _ refl refl refl refl))

-- ---- the rows of a block

-- the first group, and the groups after it
rows_begin : (m z : ℕ) (ds block keys : List ℕ) → 0 < length ds
    → rows_of m z ds block keys
    ≡ with_groups m z keys (get_or ds 0 0) (keyed z keys (pieces (rows_of_count m z (get_or ds 0 0)) (get_or ds 0 0 - z) block)) (drop 1 ds)
unfolding rows_of
rows_begin m z [] block keys h = absurd (not-suc-le-zero h)
rows_begin m z (d ∷ ds) block keys h = refl

pub rows_are : (n r z : ℕ) (ds : List ℕ) (m b : ℕ) → facts.SchemeFacts n r z ds m b → (block keys : List ℕ) → length block ≡ m → length keys ≡ b * z
    → rows_of m z ds block keys ≡ tabulate b (block_row m z ds block keys)
rows_are n r z ds m b A block keys whole enough =
    let u = rest_groups n r z ds m b A block keys whole enough (drop 1 ds) 0 A.some refl
    (keyed z keys (pieces (rows_of_count m z (get_or ds 0 0)) (get_or ds 0 0 - z) block)) (first_group n r z ds m b A block keys whole enough) in
    rows_begin m z ds block keys A.some
    ∙ tabulate_is (with_groups m z keys (get_or ds 0 0) (keyed z keys (pieces (rows_of_count m z (get_or ds 0 0)) (get_or ds 0 0 - z) block)) (drop 1 ds))
    b (block_row m z ds block keys) [] (u.number ∙ A.last-rows) (λ j h. u.each j (rw A.last-rows h))

pub rows-number : (n r z : ℕ) (ds : List ℕ) (m b : ℕ) → facts.SchemeFacts n r z ds m b → (block keys : List ℕ) → length block ≡ m → length keys ≡ b * z
    → length (rows_of m z ds block keys) ≡ b
rows-number n r z ds m b A block keys whole enough =
    rw (rows_are n r z ds m b A block keys whole enough, length-tabulate)
