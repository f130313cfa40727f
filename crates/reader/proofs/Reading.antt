-- What the reader's loops are told holds of the opened blocks: some keys turn these into the prefixes, and the prefixes' bytes are then values of
-- the rows of these blocks under these keys.
-- Assumes nothing.
use mathlib.Core.Path.{◌≡◌, sym, ◌∙◌}
use mathlib.Core.Bool.{true, false}
use mathlib.Core.List.{List, map}
use Prim.Native.Nat.{ℕ, ◌*◌, ◌≤◌}
use native.Mathlib.Omega.{arith}
use lib.ListN.{length, get_or, length-map}
use Rattle.lists.specs.Each.{Each, Distinct, Byte, occurs}
use Rattle.lists.proofs.Each.{get_or-map, true-distinct}
use Rattle.interpolation.specs.Interpolation.{side}
use Rattle.interpolation.specs.Opening.{opening_table}
use Rattle.interpolation.proofs.Laws.{opening_parties, opening_known}
use Rattle.scheme.specs.declared.accepted.Scheme.{Scheme}
use Rattle.scheme.specs.Facts.{SchemeIs}
use Rattle.scheme.specs.Check.{rows_of_count}
use Rattle.family.specs.Message.{Bytes}
use Rattle.family.specs.Exactness.{readings}
use Rattle.family.proofs.Exactness.{gives_has}
use Rattle.staircase.specs.Parameters.{Parameters, Party, parameters, block, rows, point}
use Rattle.staircase.specs.Shares.{staircase}
use Rattle.staircase.proofs.Columns.{part_at}
use Rattle.staircase.proofs.Points.{points-bytes, points-distinct}
use Rattle.scheme.specs.Readers.{readers_refused}
use Rattle.staircase.specs.Exactness.{opened_string, GivesPrefixes}
use Rattle.reader.specs.Decoding.{WeightsOf, sent_bytes, Sent, EachSent}
use Rattle.scheme.proofs.Laws.{readers_rise, parties_distinct}
use Rattle.staircase.proofs.Sizes.{rows-within, count_most}
use Rattle.staircase.proofs.WholeBlocks.{exact}
use Rattle.rows.proofs.Scheme.{facts_of}

-- s is what the check answers for its parameters, and N blocks are read by these parties, which are distinct and inside, in any order
module _ (s : Scheme) (ds : List ℕ) (S : SchemeIs s s.n s.r s.z ds) (parties : List ℕ) (counted : occurs (length parties) ds ≡ true)
    (right : Distinct parties × Each (Party (parameters s.n s.r s.z ds)) parties) (N : ℕ) where
  abbrev q : Parameters
  q = parameters s.n s.r s.z ds

  few : rows_of_count (block q) s.z (length parties) ≤ rows q
  few = rows-within q S.passed (length parties) counted

  first_most : get_or ds 0 0 ≤ side
  first_most =
      let A = facts_of s ds S in
      omega (arith, A.high 0 A.some, A.sizes.parties_high)

  -- the weights of an opening at the parties' points
  weights_of : (top : ℕ) → top ≤ side → WeightsOf (map (point q) parties) (length parties) top (opening_table (map (point q) parties) top)
  weights_of top most =
      let points : List ℕ = map (point q) parties in
      let n : length points ≡ length parties = length-map parties (point q) in
      let l : length parties ≤ side = count_most q S.passed (length parties) counted in
      let apart = points-distinct q S.passed parties right.1 right.0 in
      record {
        long = n;
        bytes = points-bytes q S.passed parties right.1;
        distinct = apart;
        parties = λ a e ha he. opening_parties points top a e (rw n ha) (omega arith) (omega arith) (rw n l) (true-distinct points apart);
        known = λ i e low high he. rw n at (opening_known points top i e (rw n low) high (omega arith) (omega arith));
      }

  pub largest_weights : WeightsOf (map (point q) parties) (length parties) (get_or ds 0 0) (opening_table (map (point q) parties) (get_or ds 0 0))
  largest_weights = weights_of (get_or ds 0 0) first_most

  -- N whole blocks under keys that give these prefixes
  pub sent_by : (prefixes B K : List ℕ) → Bytes (N * block q) B → Bytes (N * (rows q * s.z)) K → GivesPrefixes q parties N B K prefixes
      → Sent s ds (length parties) N (map (point q) parties) prefixes B K
  unfolding readings staircase
  sent_by prefixes B K whole enough G =
      record {
        blocks_are = rw S.block_is whole;
        keys_are = rw S.rows_is enough;
        rows = λ j t a hj ht ha.
            rw (S.block_is, S.rows_is)
            (sym (gives_has (staircase q) parties (rows_of_count (block q) s.z (length parties)) few N prefixes B K G t ht j a (rw S.block_is at hj) ha)
            ∙ rw (get_or-map (point q) parties a 0 0 ha) (part_at q S.passed N B K whole.0 enough.0 t j ht (omega (arith, few, rw S.block_is at hj)) (get_or parties a 0)));
      }

-- these parties' numbers rise
module _ (s : Scheme) (ds : List ℕ) (S : SchemeIs s s.n s.r s.z ds) (parties : List ℕ) (counted : occurs (length parties) ds ≡ true)
    (passed : readers_refused s.n parties ≡ false) (N : ℕ) where
  abbrev p : Parameters
  p = parameters s.n s.r s.z ds

  abbrev d : ℕ
  d = length parties

  abbrev points_of_lem : List ℕ
  points_of_lem = map (point p) parties

  right : Distinct parties × Each (Party p) parties
  right = parties_distinct s.n parties (readers_rise s.n parties passed)

  -- the opened blocks are whole
  pub opened_long : (prefixes : List ℕ) → length (opened_string p parties N prefixes) ≡ N * s.block
  unfolding opened_string staircase
  opened_long prefixes = rw S.block_is ((exact p S.passed parties counted right.0 right.1 N).bytes prefixes).0

  -- some keys turn them into the prefixes
  pub opened_sent : (prefixes : List ℕ) → length prefixes ≡ sent_bytes s d N → Each Byte prefixes
      → (K : List ℕ) × Sent s ds d N points_of_lem prefixes (opened_string p parties N prefixes) K
  unfolding opened_string staircase
  opened_sent prefixes long bytes =
      let X = exact p S.passed parties counted right.0 right.1 N in
      let found = X.exists prefixes (rw S.block_is at long, bytes) in
      (found.0, sent_by s ds S parties counted right N prefixes (opened_string p parties N prefixes) found.0 (X.bytes prefixes) found.1 found.2)

  -- and these are the weights for them
  pub opened_weights : WeightsOf points_of_lem d (get_or ds 0 0) (opening_table points_of_lem (get_or ds 0 0))
  opened_weights = largest_weights s ds S parties counted right N

  -- so what the reader's loops say of the blocks that were sent holds of the opened blocks
  pub begins : (prefixes : List ℕ) → length prefixes ≡ sent_bytes s d N → Each Byte prefixes
      → (points : List ℕ) (weights : List (List ℕ)) → points ≡ points_of_lem → weights ≡ opening_table points (get_or ds 0 0)
      → (Says : List ℕ → Type 0) → EachSent s ds d N weights prefixes Says → Says (opened_string p parties N prefixes)
  begins prefixes long bytes points weights points_are weights-are Says E =
      let sent = opened_sent prefixes long bytes in
      E (opened_string p parties N prefixes) sent.0 points_of_lem (rw (weights-are, points_are) opened_weights) sent.1
