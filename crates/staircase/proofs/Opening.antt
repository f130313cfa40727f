-- One block is opened exactly: the values of the P rows at d points fix the block and these rows' keys, and any bytes are such values.
-- Each origin is written by one row alone, so at the end it still holds what that row's turn found there; and what a row's upper part is read
-- off was written before its turn. So each row is found as it is in any block with these values, and the opened block has them.
-- Assumes nothing.
use mathlib.Core.Path.{◌≡◌, refl, sym, ap, ap₂, ◌∙◌}
use mathlib.Core.List.{List}
use mathlib.Core.Logic.{⊎_elim}
use Prim.Native.Nat.{ℕ, zero, suc, ◌+◌, ◌-◌, ◌*◌, ◌/◌, ◌%◌, ◌≤◌, ◌<◌}
use native.Mathlib.Nat.{zero-lt-suc}
use native.Mathlib.Omega.{arith}
use lib.Dec.{ltb}
use lib.ListN.{length, get_or, take, length-replicate}
use lib.Seq.{ext_get_or}
use borrow.Author.Tests.{lt-ltb}
use Rattle.lists.specs.Each.{Each, Distinct, Byte}
use Rattle.lists.proofs.Tests.{lt_or_le, cond_ind}
use Rattle.lists.proofs.Each.{each_at, each_tabulate, each_replicate}
use Rattle.lists.proofs.Table.{length-tabulate, get_or-tabulate}
use Rattle.lists.proofs.Joined.{below_product, row_of, place_of}
use Rattle.interpolation.specs.Polynomial.{eval, plus}
use Rattle.scheme.specs.Check.{rows_of_count}
use Rattle.scheme.specs.Facts as facts
use Rattle.family.specs.Message.{Bytes}
use Rattle.staircase.specs.Coefficients.{origin, coefficient}
use Rattle.staircase.specs.Opening.{block_row, upper_part, lower_part, opened_from, opened_block, opened_lower, opened_keys, HasValues, RowsExact}
use Rattle.staircase.proofs.Rows.{coefficient_key, coefficient-byte}
use Rattle.staircase.proofs.Order.{Order, order}
use Rattle.staircase.proofs.OneRow.{upper-same, row_parts, row_first, row_lower, lower_length, lower_byte, lower_same, lower_values, lower_found}
use Rattle.staircase.proofs.OneRow.{placed-length, placed-byte, placed_other, placed_at}

module _ (m b z : ℕ) (ds xs : List ℕ) (v : ℕ → ℕ → ℕ) (O : Order m b z ds (length xs) (rows_of_count m z (length xs))) where
  abbrev P : ℕ
  P = rows_of_count m z (length xs)

  -- ---- the work block

  opened_length : (many j : ℕ) → length (opened_from m z ds xs v j many) ≡ m
  unfolding opened_from
  opened_length zero j = length-replicate m 0
  opened_length (suc many) j = placed-length m z ds j _ (length xs - z) _ ∙ opened_length many (suc j)

  opened_byte : (many j : ℕ) → Each Byte (opened_from m z ds xs v j many)
  unfolding opened_from
  opened_byte zero j = each_replicate Byte m 0 (zero-lt-suc 255)
  opened_byte (suc many) j =
      placed-byte m z ds j _ (length xs - z) _ (lower_byte m z ds xs v _ j) (opened_byte many (suc j))

  -- what a row's turn writes stays
  opened_at : (many j : ℕ) → j + many ≡ P → (k e : ℕ) → j ≤ k → k < P → z ≤ e → e < length xs
      → get_or (opened_from m z ds xs v j many) (origin m z ds k e) 0 ≡ get_or (opened_lower m z ds xs v k) e 0
  unfolding opened_from opened_lower
  opened_at zero j all k e from h low high = absurd (omega arith)
  opened_at (suc many) j all k e from h low high =
      let later : List ℕ = opened_from m z ds xs v (suc j) many in
      let lower : List ℕ = lower_part m z ds xs v later j in
      let hj : j < P = omega arith in
      ⊎_elim (λ (l : k < suc j).
      let same : k ≡ j = omega arith in
      let left : P - suc j ≡ many = omega arith in
      let degree : z + (e - z) ≡ e = omega arith in
      let at =
      placed_at m z ds j lower (length xs - z) later
      (λ i a. rw (opened_length many (suc j)) (O.place j (z + i) hj (omega arith) (omega arith)))
      (λ i i' a a' x. omega (arith, (O.once j (z + i) j (z + i') hj (omega arith) (omega arith) hj (omega arith) (omega arith) x).1))
      (e - z) (omega arith) in
      rw (same, left) (rw degree at at))
      (λ (l : suc j ≤ k).
      placed_other m z ds j lower (length xs - z) later (origin m z ds k e)
      (λ i a x. omega (arith, (O.once k e j (z + i) h low high hj (omega arith) (omega arith) x).0))
      ∙ opened_at many (suc j) (omega arith) k e l h low high)
      (lt_or_le k (suc j))

  -- a row's upper part is known at its turn, as it is in any block that agrees where the later rows write
  known : (block : List ℕ) (j : ℕ) → j < P
      → ((k e : ℕ) → j < k → k < P → z ≤ e → e < length xs → get_or (opened_lower m z ds xs v k) e 0 ≡ get_or block (origin m z ds k e) 0)
      → upper_part m z ds (length xs) (opened_from m z ds xs v (suc j) (P - suc j)) j ≡ upper_part m z ds (length xs) block j
  known block j h same =
      let later : List ℕ = opened_from m z ds xs v (suc j) (P - suc j) in
      upper-same m z ds (length xs) j later block
      (λ e l u.
      let s = O.again j e h l u in
      let past : suc j ≤ s.row = omega (arith, O.own j h, s.past) in
      ap (λ (p : ℕ). get_or later p 0) (sym s.is)
      ∙ opened_at (P - suc j) (suc j) (omega arith) s.row s.degree past s.within s.low s.high
      ∙ same s.row s.degree past s.within s.low s.high
      ∙ ap (λ (p : ℕ). get_or block p 0) s.is)

  -- ---- the opened block and keys

  block_at : (j e : ℕ) → j < P → z ≤ e → e < length xs → get_or (opened_block m z ds xs v) (origin m z ds j e) 0 ≡ get_or (opened_lower m z ds xs v j) e 0
  unfolding opened_block
  block_at j e h low high = opened_at P 0 (omega arith) j e (omega arith) h low high

  keys-at : (j e : ℕ) → j < P → e < z → get_or (opened_keys m b z ds xs v) (j * z + e) 0 ≡ get_or (opened_lower m z ds xs v j) e 0
  unfolding opened_keys
  keys-at j e h l =
      get_or-tabulate (b * z) _ (j * z + e) 0 (below_product j b e z (omega (arith, O.most)) l)
      ∙ rw (row_of j e z l, place_of j e z l, lt-ltb j P h)

  block-bytes : Bytes m (opened_block m z ds xs v)
  unfolding opened_block
  block-bytes = (opened_length P 0, opened_byte P 0)

  found-byte : (j : ℕ) → Each Byte (opened_lower m z ds xs v j)
  unfolding opened_lower
  found-byte j = lower_byte m z ds xs v _ j

  found-length : (j : ℕ) → length (opened_lower m z ds xs v j) ≡ length xs
  unfolding opened_lower
  found-length j = lower_length m z ds xs v _ j

  keys-bytes : Bytes (b * z) (opened_keys m b z ds xs v)
  unfolding opened_keys
  keys-bytes = (
    length-tabulate (b * z) _,
    each_tabulate Byte (b * z) _
        (λ i h. cond_ind Byte {t = ltb (i / z) P} (λ _. each_at Byte (opened_lower m z ds xs v (i / z)) (i % z) 0 (zero-lt-suc 255) (found-byte (i / z))) (λ _. zero-lt-suc 255)),
  )

  found-coefficient : (j e : ℕ) → j < P → e < length xs
      → get_or (opened_lower m z ds xs v j) e 0 ≡ coefficient m z ds (opened_block m z ds xs v) (opened_keys m b z ds xs v) j e
  found-coefficient j e h u =
      ⊎_elim (λ (l : e < z). sym (coefficient_key m z ds _ _ j e l ∙ keys-at j e h l))
      (λ (l : z ≤ e). sym (coefficient-byte m z ds _ _ j e l ∙ block_at j e h l u))
      (lt_or_le e z)

  module _ (bytes : Each Byte xs) (apart : Distinct xs) where
    exists : ((j a : ℕ) → j < P → a < length xs → Byte (v j a)) → HasValues m z ds xs v (opened_block m z ds xs v) (opened_keys m b z ds xs v)
    unfolding opened_lower
    exists vb j a hj ha =
        let block : List ℕ = opened_block m z ds xs v in
        let keys : List ℕ = opened_keys m b z ds xs v in
        let lower : List ℕ = opened_lower m z ds xs v j in
        let first = row_first m z ds (length xs) j (O.wide j hj) block keys in
        let same : take (length xs) (block_row m z ds block keys j) ≡ lower
        = ext_get_or 0 _ lower (first ∙ sym (found-length j))
        (λ e h.
        let l : e < length xs = rw first at h in
        row_lower m z ds (length xs) j (O.wide j hj) block keys e l ∙ sym (found-coefficient j e hj l)) in
        let upper = known block j hj (λ k e l h low high. sym (block_at k e h low high)) in
        ap (eval (get_or xs a 0)) (row_parts m z ds (length xs) j block keys (omega (arith, O.above)) ∙ ap₂ plus same (sym upper))
        ∙ lower_values m z ds xs v (opened_from m z ds xs v (suc j) (P - suc j)) j bytes apart (opened_byte (P - suc j) (suc j)) (λ c h. vb j c hj h) a ha

    -- ---- a block with the given values

    module _ (block keys : List ℕ) (hb : Bytes m block) (hk : Bytes (b * z) keys) (has : HasValues m z ds xs v block keys) where
      -- each row is found as it is; j + left bounds the rows
      found : (left j e : ℕ) → P ≤ j + left → j < P → e < length xs
          → get_or (opened_lower m z ds xs v j) e 0 ≡ coefficient m z ds block keys j e
      unfolding opened_lower
      found zero j e l h u = absurd (omega arith)
      found (suc left) j e l h u =
          let upper =
          known block j h (λ k c more end low high. found left k c (omega arith) end high ∙ coefficient-byte m z ds block keys k c low) in
          ap (λ (x : List ℕ). get_or x e 0) (lower_same m z ds xs v (opened_from m z ds xs v (suc j) (P - suc j)) j block upper)
          ∙ lower_found m z ds xs v block j bytes apart hb.1 keys hk.1 (omega (arith, O.above)) (O.wide j h) (λ a k. has j a h k) e u

      returns : opened_block m z ds xs v ≡ block
      returns =
          ext_get_or 0 (opened_block m z ds xs v) block (block-bytes.0 ∙ sym hb.0)
          (λ p h.
          let s = O.onto p (rw block-bytes.0 at h) in
          ap (λ (x : ℕ). get_or (opened_block m z ds xs v) x 0) (sym s.is)
          ∙ block_at s.row s.degree s.within s.low s.high
          ∙ found P s.row s.degree (omega arith) s.within s.high
          ∙ coefficient-byte m z ds block keys s.row s.degree s.low
          ∙ ap (λ (x : ℕ). get_or block x 0) s.is)

      keys_return : (j e : ℕ) → j < P → e < z → get_or (opened_keys m b z ds xs v) (j * z + e) 0 ≡ get_or keys (j * z + e) 0
      keys_return j e h l =
          keys-at j e h l ∙ found P j e (omega arith) h (omega (arith, O.above)) ∙ coefficient_key m z ds block keys j e l

-- d parties open a block exactly, d the count at place i
pub block_exact : (n r z : ℕ) (ds : List ℕ) (m b : ℕ) → facts.SchemeFacts n r z ds m b → (i : ℕ) → i < length ds
    → (xs : List ℕ) → Each Byte xs → Distinct xs → length xs ≡ get_or ds i 0 → RowsExact m b z ds xs
block_exact n r z ds m b A i hi xs bytes apart long =
    let O : Order m b z ds (length xs) (rows_of_count m z (length xs))
    = order n r z ds m b A i (length xs) (rows_of_count m z (length xs)) hi long refl in
    record {
      exists = λ v. exists m b z ds xs v O bytes apart;
      block-bytes = λ v. block-bytes m b z ds xs v O;
      keys-bytes = λ v. keys-bytes m b z ds xs v O;
      returns = λ v. returns m b z ds xs v O bytes apart;
      keys_return = λ v. keys_return m b z ds xs v O bytes apart;
    }
