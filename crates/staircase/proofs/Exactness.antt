-- One block of the staircase family is opened exactly from what as many parties as a count have of its first rows.
-- Assumes nothing.
use mathlib.Core.Path.{◌≡◌, sym, ◌∙◌}
use mathlib.Core.List.{List, map}
use Prim.Native.Nat.{ℕ, ◌+◌, ◌*◌, ◌/◌, ◌%◌, ◌≤◌, ◌<◌}
use native.Mathlib.Nat.{div-add-mod', mul-le-mul_right}
use native.Mathlib.Omega.{arith}
use lib.ListN.{length, get_or, take, length-map}
use lib.Seq.{ext_get_or, get_or-take, length-take-le}
use Rattle.lists.specs.Each.{Each, Distinct}
use Rattle.lists.proofs.Each.{get_or-map}
use Rattle.lists.proofs.Joined.{in-grid}
use Rattle.interpolation.specs.Polynomial.{eval}
use Rattle.scheme.specs.Check.{rows_of_count}
use Rattle.scheme.specs.Facts as Facts
use Rattle.scheme.proofs.Laws.{accepted}
use Rattle.family.specs.Exactness as family
use Rattle.staircase.specs.Parameters.{Parameters, AcceptedScheme, Party, block, rows, point}
use Rattle.staircase.specs.Shares.{staircase}
use Rattle.staircase.specs.Opening.{block_row, HasValues, RowsExact, opened_block, opened_keys}
use Rattle.staircase.proofs.Points.{points-bytes, points-distinct}
use Rattle.staircase.proofs.Groups.{rows_most}
use Rattle.staircase.proofs.Columns.{column-at}
use Rattle.staircase.proofs.Opening.{block_exact}

module _ (p : Parameters) (A : AcceptedScheme p) (i : ℕ) (at : i < length p.counts) (parties : List ℕ) (in-range : Each (Party p) parties) (apart : Distinct parties)
    (many : length parties ≡ get_or p.counts i 0) where
  abbrev facts : Facts.SchemeFacts p.n p.r p.z p.counts (block p) (rows p)
  facts = accepted p.n p.r p.z p.counts A

  abbrev xs : List ℕ
  xs = map (point p) parties

  -- document 01's P of the number of parties
  abbrev sent : ℕ
  sent = rows_of_count (block p) p.z (length parties)

  as_many : length xs ≡ length parties
  as_many = length-map parties (point p)

  sent_most : sent ≤ rows p
  sent_most = rw many (rows_most p.n p.r p.z p.counts (block p) (rows p) facts i at)

  exact : RowsExact (block p) (rows p) p.z p.counts xs
  exact = block_exact p.n p.r p.z p.counts (block p) (rows p) facts i at xs (points-bytes p A parties in-range) (points-distinct p A parties in-range apart) (as_many ∙ many)

  -- what a party has of a row is the row's value at its point
  value_at : (bytes keys : List ℕ) → length bytes ≡ block p → length keys ≡ rows p * p.z → (j a : ℕ) → j < sent → a < length parties
      → get_or ((staircase p).column bytes keys (get_or parties a 0)) j 0 ≡ eval (get_or xs a 0) (block_row (block p) p.z p.counts bytes keys j)
  value_at bytes keys hb hk j a hj ha =
      rw (get_or-map {A = ℕ} {B = ℕ} (point p) parties a 0 0 ha) (column-at p A bytes keys hb hk (get_or parties a 0) j (omega (arith, sent_most)))

  to_values : (v : ℕ → ℕ → ℕ) (bytes keys : List ℕ) → length bytes ≡ block p → length keys ≡ rows p * p.z
      → family.Has (staircase p) parties sent v bytes keys → HasValues (block p) p.z p.counts xs v bytes keys
  to_values v bytes keys hb hk has j a hj ha =
      let hj' : j < sent = rw as_many at hj in
      let ha' : a < length parties = rw as_many at ha in
      sym (value_at bytes keys hb hk j a hj' ha') ∙ has j a hj' ha'

  keys-same : (keys keys' : List ℕ) → length keys ≡ rows p * p.z → length keys' ≡ rows p * p.z
      → ((j e : ℕ) → j < sent → e < p.z → get_or keys (j * p.z + e) 0 ≡ get_or keys' (j * p.z + e) 0)
      → take (sent * p.z) keys ≡ take (sent * p.z) keys'
  keys-same keys keys' hk hk' same =
      let few : sent * p.z ≤ rows p * p.z = mul-le-mul_right p.z sent_most in
      let l : length (take (sent * p.z) keys) ≡ sent * p.z = length-take-le (sent * p.z) keys (omega arith) in
      let l' : length (take (sent * p.z) keys') ≡ sent * p.z = length-take-le (sent * p.z) keys' (omega arith) in
      ext_get_or 0 (take (sent * p.z) keys) (take (sent * p.z) keys') (l ∙ sym l')
      (λ k h.
      let b : k < sent * p.z = rw l at h in
      let g = in-grid k sent p.z b in
      get_or-take (sent * p.z) keys k 0 b
      ∙ rw (div-add-mod' k p.z) at (same (k / p.z) (k % p.z) g.0 g.1)
      ∙ sym (get_or-take (sent * p.z) keys' k 0 b))

  pub staircase_exact : family.BlockExact (staircase p) parties sent (sent * p.z)
      (opened_block (block p) p.z p.counts xs) (opened_keys (block p) (rows p) p.z p.counts xs)
  unfolding staircase
  staircase_exact =
      record {
        block-bytes = exact.block-bytes;
        keys-bytes = exact.keys-bytes;
        exists =
            λ v h j a hj ha.
            value_at _ _ (exact.block-bytes v).0 (exact.keys-bytes v).0 j a hj ha
            ∙ exact.exists v (λ j a hj ha. h j a (rw as_many at hj) (rw as_many at ha)) j a (rw as_many hj) (rw as_many ha);
        unique = λ v bytes keys hb hk has. sym (exact.returns v bytes keys hb hk (to_values v bytes keys hb.0 hk.0 has));
        keys_unique =
            λ v bytes keys hb hk has.
            keys-same keys _ hk.0 (exact.keys-bytes v).0
            (λ j e hj he. sym (exact.keys_return v bytes keys hb hk (to_values v bytes keys hb.0 hk.0 has) j e (rw as_many hj) he));
      }
