-- One row of a block: it is the sum of its lower and its upper part, and the lower part that the opening finds is the only one with the row's
-- values. By interpolation at the points, and entry by entry. Also what a row's turn writes.
-- Assumes nothing.
use mathlib.Core.Path.{◌≡◌, refl, sym, ap, ◌∙◌}
use mathlib.Core.List.{List}
use mathlib.Core.Logic.{◌≢◌, ⊎_elim}
use Prim.Native.Nat.{ℕ, zero, suc, ◌+◌, ◌*◌, ◌≤◌, ◌<◌}
use native.Mathlib.Nat.{zero-lt-suc, le_refl}
use native.Mathlib.Omega.{arith}
use lib.Dec.{ltb}
use lib.ListN.{length, get_or, take, length-set, length-map}
use lib.Seq.{get_or-take, length-take-le, get_or-set_same, get_or-set_other}
use Rattle.lists.specs.Each.{Each, Distinct, Byte}
use Rattle.lists.specs.Table.{tabulate}
use Rattle.lists.proofs.Tests.{lt_or_le, cond_ind}
use Rattle.lists.proofs.Each.{each_at, each_imp, each_mapped, each_set, each_take, each_tabulate, get_or-map}
use Rattle.lists.proofs.Table.{length-tabulate, get_or-tabulate, tabulate_is}
use Rattle.gf256.specs.Byte.{◌⊕◌}
use Rattle.gf256.proofs.Laws.{⊕-back, ⊕-byte}
use Rattle.interpolation.specs.Polynomial.{eval, values, plus}
use Rattle.interpolation.specs.Interpolation.{fitted}
use Rattle.interpolation.proofs.Laws.{eval-plus, eval-byte, above-byte, above_same, plus-above, interpolation}
use Rattle.staircase.specs.Coefficients.{count_of, origin, coefficient}
use Rattle.staircase.specs.Opening.{block_row, upper_part, lower_part, placed}
use Rattle.staircase.proofs.Rows.{coefficient-byte}

-- ---- the upper part

module _ (m z : ℕ) (ds : List ℕ) (d j : ℕ) where
  upper-byte : (block : List ℕ) → Each Byte block → Each Byte (upper_part m z ds d block j)
  unfolding upper_part
  upper-byte block h =
      above-byte d _ (each_tabulate Byte (count_of m z ds j) _ (λ e _. each_at Byte block (origin m z ds j e) 0 (zero-lt-suc 255) h))

  -- it is read off the bytes at its origins alone
  pub upper-same : (block block' : List ℕ)
      → ((e : ℕ) → d ≤ e → e < count_of m z ds j → get_or block (origin m z ds j e) 0 ≡ get_or block' (origin m z ds j e) 0)
      → upper_part m z ds d block j ≡ upper_part m z ds d block' j
  unfolding upper_part
  upper-same block block' same = above_same d (count_of m z ds j) _ _ same

  -- a row is its coefficients below d and its upper part
  pub row_parts : (block keys : List ℕ) → z ≤ d
      → block_row m z ds block keys j ≡ plus (take d (block_row m z ds block keys j)) (upper_part m z ds d block j)
  unfolding block_row upper_part
  row_parts block keys zd =
      let row : List ℕ = block_row m z ds block keys j in
      sym (plus-above d row)
      ∙ ap (plus (take d row)) (above_same d (count_of m z ds j) _ _ (λ e h _. coefficient-byte m z ds block keys j e (omega arith)))

  module _ (wide : d ≤ count_of m z ds j) (block keys : List ℕ) where
    pub row_first : length (take d (block_row m z ds block keys j)) ≡ d
    unfolding block_row
    row_first = length-take-le d (block_row m z ds block keys j) (rw length-tabulate wide)

    pub row_lower : (e : ℕ) → e < d → get_or (take d (block_row m z ds block keys j)) e 0 ≡ coefficient m z ds block keys j e
    unfolding block_row
    row_lower e h = get_or-take d (block_row m z ds block keys j) e 0 h ∙ get_or-tabulate (count_of m z ds j) _ e 0 (omega arith)

row-byte : (m z : ℕ) (ds block keys : List ℕ) (j : ℕ) → Each Byte block → Each Byte keys → Each Byte (block_row m z ds block keys j)
unfolding block_row coefficient
row-byte m z ds block keys j hb hk =
    each_tabulate Byte (count_of m z ds j) _
    (λ e _.
    cond_ind Byte {t = ltb e z} (λ _. each_at Byte keys (j * z + e) 0 (zero-lt-suc 255) hk)
    (λ _. each_at Byte block (origin m z ds j e) 0 (zero-lt-suc 255) hb))

-- ---- the lower part

module _ (m z : ℕ) (ds xs : List ℕ) (v : ℕ → ℕ → ℕ) (block : List ℕ) (j : ℕ) where
  pub lower_length : length (lower_part m z ds xs v block j) ≡ length xs
  unfolding lower_part
  lower_length = interpolation.exists_length (length xs) xs _ (le_refl (length xs))

  pub lower_byte : Each Byte (lower_part m z ds xs v block j)
  unfolding lower_part
  lower_byte = interpolation.exists_byte (length xs) xs _

  pub lower_same : (block' : List ℕ) → upper_part m z ds (length xs) block j ≡ upper_part m z ds (length xs) block' j
      → lower_part m z ds xs v block j ≡ lower_part m z ds xs v block' j
  unfolding lower_part
  lower_same block' same = rw same

  module _ (bytes : Each Byte xs) (apart : Distinct xs) (block-bytes : Each Byte block) where
    -- the values less what the upper part adds
    rest : ℕ → ℕ
    rest a = v j a ⊕ eval (get_or xs a 0) (upper_part m z ds (length xs) block j)

    lower_at : ((a : ℕ) → a < length xs → Byte (v j a)) → (a : ℕ) → a < length xs
        → eval (get_or xs a 0) (lower_part m z ds xs v block j) ≡ v j a ⊕ eval (get_or xs a 0) (upper_part m z ds (length xs) block j)
    unfolding lower_part rest
    lower_at vb a h =
        let vs : List ℕ = tabulate (length xs) rest in
        let upper-bytes : Each Byte (upper_part m z ds (length xs) block j) = upper-byte m z ds (length xs) j block block-bytes in
        let vs-bytes : Each Byte vs
        = each_tabulate Byte (length xs) rest (λ c l. ⊕-byte (v j c) _ (vb c l) (eval-byte (get_or xs c 0) (upper_part m z ds (length xs) block j) upper-bytes)) in
        sym (get_or-map {A = ℕ} {B = ℕ} (λ x. eval x (fitted (length xs) xs vs)) xs a 0 0 h)
        ∙ ap (λ (l : List ℕ). get_or l a 0) (interpolation.exists (length xs) xs vs bytes apart (length-tabulate (length xs) rest) vs-bytes)
        ∙ get_or-tabulate (length xs) rest a 0 h

    -- it gives the row its values
    pub lower_values : ((a : ℕ) → a < length xs → Byte (v j a)) → (a : ℕ) → a < length xs
        → eval (get_or xs a 0) (plus (lower_part m z ds xs v block j) (upper_part m z ds (length xs) block j)) ≡ v j a
    lower_values vb a h =
        let u : ℕ = eval (get_or xs a 0) (upper_part m z ds (length xs) block j) in
        eval-plus (get_or xs a 0) (lower_part m z ds xs v block j) (upper_part m z ds (length xs) block j)
        ∙ ap (λ (w : ℕ). w ⊕ u) (lower_at vb a h)
        ∙ ⊕-back (v j a) u

    -- and nothing else does
    pub lower_unique : (lower : List ℕ) → length lower ≡ length xs → Each Byte lower
        → ((a : ℕ) → a < length xs → eval (get_or xs a 0) (plus lower (upper_part m z ds (length xs) block j)) ≡ v j a)
        → lower ≡ lower_part m z ds xs v block j
    unfolding lower_part rest
    lower_unique lower long lb has =
        let upper : List ℕ = upper_part m z ds (length xs) block j in
        let vs : List ℕ = tabulate (length xs) rest in
        let same : values xs lower ≡ vs =
        tabulate_is (values xs lower) (length xs) rest 0 (length-map xs (λ x. eval x lower))
        (λ a h.
        let x : ℕ = get_or xs a 0 in
        get_or-map {A = ℕ} {B = ℕ} (λ y. eval y lower) xs a 0 0 h
        ∙ sym (⊕-back (eval x lower) (eval x upper))
        ∙ ap (λ (w : ℕ). w ⊕ eval x upper) (sym (eval-plus x lower upper) ∙ has a h)) in
        let vs-bytes : Each Byte vs
        = rw (← same) (each_mapped Byte (λ x. eval x lower) xs (each_imp Byte _ (λ x _. eval-byte x lower lb) xs bytes)) in
        interpolation.unique xs lower (fitted (length xs) xs vs) bytes apart lb lower_byte (long ∙ sym lower_length) (omega arith)
        (same ∙ sym (interpolation.exists (length xs) xs vs bytes apart (length-tabulate (length xs) rest) vs-bytes))

    -- so, where the row has the values, it is the row's lower coefficients
    pub lower_found : (keys : List ℕ) → Each Byte keys → z ≤ length xs → length xs ≤ count_of m z ds j
        → ((a : ℕ) → a < length xs → eval (get_or xs a 0) (block_row m z ds block keys j) ≡ v j a)
        → (e : ℕ) → e < length xs → get_or (lower_part m z ds xs v block j) e 0 ≡ coefficient m z ds block keys j e
    lower_found keys hk low wide has e h =
        let d : ℕ = length xs in
        let row : List ℕ = block_row m z ds block keys j in
        let same : take d row ≡ lower_part m z ds xs v block j
        = lower_unique (take d row) (row_first m z ds d j wide block keys) (each_take Byte d row (row-byte m z ds block keys j block-bytes hk))
        (λ a l. ap (eval (get_or xs a 0)) (sym (row_parts m z ds d j block keys low)) ∙ has a l) in
        ap (λ (x : List ℕ). get_or x e 0) (sym same) ∙ row_lower m z ds d j wide block keys e h

-- ---- what a row's turn writes

module _ (m z : ℕ) (ds : List ℕ) (j : ℕ) (lower : List ℕ) where
  pub placed-length : (many : ℕ) (block : List ℕ) → length (placed m z ds j lower many block) ≡ length block
  unfolding placed
  placed-length zero block = refl
  placed-length (suc many) block = length-set (placed m z ds j lower many block) _ _ ∙ placed-length many block

  pub placed-byte : (many : ℕ) (block : List ℕ) → Each Byte lower → Each Byte block → Each Byte (placed m z ds j lower many block)
  unfolding placed
  placed-byte zero block lb h = h
  placed-byte (suc many) block lb h =
      each_set Byte (placed m z ds j lower many block) _ _ (each_at Byte lower (z + many) 0 (zero-lt-suc 255) lb) (placed-byte many block lb h)

  pub placed_other : (many : ℕ) (block : List ℕ) (p : ℕ) → ((k : ℕ) → k < many → p ≢ origin m z ds j (z + k))
      → get_or (placed m z ds j lower many block) p 0 ≡ get_or block p 0
  unfolding placed
  placed_other zero block p other = refl
  placed_other (suc many) block p other =
      get_or-set_other (placed m z ds j lower many block) (origin m z ds j (z + many)) p _ 0 (other many (omega arith))
      ∙ placed_other many block p (λ k h. other k (omega arith))

  pub placed_at : (many : ℕ) (block : List ℕ) → ((k : ℕ) → k < many → origin m z ds j (z + k) < length block)
      → ((k l : ℕ) → k < many → l < many → origin m z ds j (z + k) ≡ origin m z ds j (z + l) → k ≡ l)
      → (k : ℕ) → k < many → get_or (placed m z ds j lower many block) (origin m z ds j (z + k)) 0 ≡ get_or lower (z + k) 0
  unfolding placed
  placed_at zero block inside once k h = absurd (omega arith)
  placed_at (suc many) block inside once k h =
      let before : List ℕ = placed m z ds j lower many block in
      let value : ℕ = get_or lower (z + many) 0 in
      ⊎_elim (λ (l : k < many).
      let differ : origin m z ds j (z + k) ≢ origin m z ds j (z + many) = λ e. omega (arith, once k many h (omega arith) e) in
      get_or-set_other before (origin m z ds j (z + many)) (origin m z ds j (z + k)) value 0 differ
      ∙ placed_at many block (λ i a. inside i (omega arith)) (λ i i' a a'. once i i' (omega arith) (omega arith)) k l)
      (λ (l : many ≤ k).
      let same : k ≡ many = omega arith in
      rw same
      (get_or-set_same before (origin m z ds j (z + many)) value 0 (rw (placed-length many block) (inside many (omega arith)))))
      (lt_or_le k many)
