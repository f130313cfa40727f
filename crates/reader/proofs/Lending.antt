-- What the steps of a rebuilding are told, and what they show: the shares that are left without one fix the blocks and the keys, the loops find the
-- blocks, and fill in the share of any party.
-- Assumes nothing.
use mathlib.Core.Path.{◌≡◌, refl, sym, ap, ap₂, ◌∙◌}
use mathlib.Core.Bool.{Bool, true, false, ◌||◌}
use mathlib.Core.Logic.{◌≢◌, ◌⊎◌, ⊎_elim}
use mathlib.Core.List.{List, map}
use Prim.Native.Nat.{ℕ, ◌+◌, ◌-◌, ◌*◌, ◌/◌, ◌%◌, ◌≤◌, ◌<◌}
use native.Mathlib.Nat.{le_of_eq, mul-le-mul, mul-le-mul_right}
use native.Mathlib.Decide.{ℕ_discrete}
use native.Mathlib.Omega.{arith}
use lib.Dec.{eqb}
use lib.ListN.{length, get_or, take, length-map, get_or-eq_default}
use lib.Seq.{length-take-le, get_or-take}
use borrow.Author.Tests.{le-ltb, eq-eqb, ne_eqb, eqb-true, eqb-false}
use Rattle.lists.specs.Differing.{differing}
use Rattle.lists.specs.Each.{Each, Distinct, Byte, occurs}
use Rattle.lists.specs.FirstFrom.{first_from}
use Rattle.lists.specs.Table.{tabulate, piece}
use Rattle.lists.specs.Without.{without, without_piece, skipped}
use Rattle.lists.proofs.Differing.{differing_self, differing_none}
use Rattle.lists.proofs.Each.{get_or-map, each_of, each_take, distinct-take}
use Rattle.lists.proofs.FirstFrom.{first_here, first_next, first_end}
use Rattle.lists.proofs.Joined.{in-grid}
use Rattle.lists.proofs.Members.{occurs-at}
use Rattle.lists.proofs.Piece.{length-piece}
use Rattle.lists.proofs.Skipped.{unskipped-first, get_or-without, without_none, without_past, left_long, take-without}
use Rattle.lists.proofs.Table.{tabulate_is, tabulate-same}
use Rattle.lists.proofs.Tests.{neither}
use Rattle.lists.proofs.Without.{length_without}
use Rattle.interpolation.specs.Interpolation.{side}
use Rattle.interpolation.specs.Opening.{value_weight}
use Rattle.scheme.specs.declared.accepted.Scheme.{Scheme}
use Rattle.scheme.specs.Facts as facts
use Rattle.scheme.specs.Limits.{max_block, max_blocks}
use Rattle.scheme.proofs.Laws.{scheme_own, readers_rise, parties_distinct, parties_few}
use Rattle.family.specs.Family.{share_of_blocks}
use Rattle.staircase.specs.Parameters.{Parameters, Party, parameters_with, parameters_of, block, rows, point}
use Rattle.staircase.specs.Coefficients.{share_byte}
use Rattle.staircase.specs.Shares.{staircase}
use Rattle.staircase.proofs.Columns.{part_at}
use Rattle.rows.proofs.Scheme.{facts_of, rows_high}
use Rattle.order.proofs.RowsTaken.{reached_all}
use Rattle.agreement.specs.Agreement.{share_in, enough, first_shares, found_blocks, found_keys, rebuilt, agrees, agrees_without, named, Lent}
use Rattle.agreement.proofs.Laws.{all-sent, rebuilt_long, found-bytes, found_keys-bytes, found_gives, names_none, first-given, lent-left, agrees-all, agrees-not}
use Rattle.reader.specs.Decoding.{WeightsOf, sent_rows, read_from, Counted, Input, Sent, EachSent, Found}
use Rattle.reader.specs.Filling.{share_at, FillsShare}
use Rattle.reader.specs.Agreeing.{Lending, first_in, weights_in, found_in, rebuilt_in, agrees_in, same_at}
use Rattle.reader.proofs.CountedScheme.{count_in}
use Rattle.reader.proofs.Reading.{largest_weights, sent_by}
use Rattle.reader.proofs.RowOrder.{found_all}

-- the points that are filled in are those of the parties that are left
pub points-left : (p : Parameters) (parties : List ℕ) (skip d : ℕ) → d ≤ length (without skip parties)
    → map (point p) (take d (without skip parties)) ≡ tabulate d (λ k. point p (get_or parties (skipped skip k) 0))
points-left p parties skip d h =
    let core : List ℕ = take d (without skip parties) in
    let long : length core ≡ d = length-take-le d (without skip parties) h in
    tabulate_is _ d _ 0 (length-map core (point p) ∙ long)
    (λ i b.
    get_or-map (point p) core i 0 0 (rw long b)
    ∙ ap (point p) (get_or-take d (without skip parties) i 0 b ∙ get_or-without parties skip i))

-- the share at a party's point is the party's share
share_at_is : (s : Scheme) (ds : List ℕ) (S : facts.SchemeIs s s.n s.r s.z ds) (N : ℕ) (B K : List ℕ) → length B ≡ N * block (parameters_with s ds)
    → length K ≡ N * (rows (parameters_with s ds) * s.z) → (party : ℕ)
    → share_at s ds N B K (point (parameters_with s ds) party) ≡ share_in (parameters_with s ds) N B K party
unfolding share_of_blocks share_byte staircase
share_at_is s ds S N B K whole enough party =
    rw (S.block_is, S.rows_is)
    (tabulate-same (rows (parameters_with s ds) * N) _ _
    (λ i h.
    let g = in-grid i (rows (parameters_with s ds)) N h in
    sym (part_at (parameters_with s ds) S.passed N B K whole enough (i % N) (i / N) g.1 g.0 party)))

module _ {s : Scheme} {parties : List ℕ} {blocks skip : ℕ} {shares : List ℕ} (L : Lending s parties blocks skip shares) where
  abbrev p : Parameters
  p = parameters_of s

  abbrev d : ℕ
  d = s.n - s.r

  abbrev left : List ℕ
  left = without skip parties

  abbrev left_shares : List ℕ
  left_shares = without_piece (s.rows * blocks) skip shares

  abbrev core : List ℕ
  core = take d left

  A : facts.SchemeFacts s.n s.r s.z s.counts.now s.block s.rows
  A = facts_of s s.counts.now (scheme_own s)

  -- enough parties send all rows
  pub sent-all : sent_rows s d ≡ s.rows
  sent-all = rw (← A.bottom) A.last-rows

  count_of : occurs d s.counts.now ≡ true
  count_of = rw (← A.bottom) (occurs-at (get_or s.counts.now (length s.counts.now - 1) 0) s.counts.now (length s.counts.now - 1) (omega (arith, A.some)) refl)

  pub few : d ≤ 16
  few = omega (arith, A.sizes.parties_high)

  -- a share is short
  pub share_short : s.rows * blocks ≤ max_block * max_blocks
  share_short =
      let high : s.rows ≤ max_block = omega (arith, rows_high s s.counts.now (scheme_own s), A.limit) in
      mul-le-mul high L.blocks_high

  pub counts_some : 0 < length s.counts.now
  counts_some = A.some

  list_few : length parties ≤ 16
  list_few = parties_few s.n s.r s.z s.counts.now s.accepted.passed parties L.passed

  right : Distinct parties × Each (Party p) parties
  right = parties_distinct s.n parties (readers_rise s.n parties L.passed)

  core_long : length core ≡ d
  core_long = length-take-le d left L.many

  -- the shares from the first on that have those of the first d parties
  module _ (m : ℕ) (which : ((skip < d) × (m ≡ d + 1)) ⊎ ((d ≤ skip) × (m ≡ d))) where
    lent_fits : m ≤ length parties
    lent_fits =
        let long = left_long parties skip d L.many in
        ⊎_elim (λ (h : (skip < d) × (m ≡ d + 1)). omega (arith, long.1 h.0)) (λ (h : (d ≤ skip) × (m ≡ d)). omega (arith, long.0)) which

    pub bytes_fit : m * (s.rows * blocks) ≤ length shares
    bytes_fit = rw L.shares_long (mul-le-mul_right (s.rows * blocks) lent_fits)

    pub bytes_few : m * (s.rows * blocks) ≤ side * (max_block * max_blocks)
    bytes_few =
        let most : m ≤ side = omega (arith, lent_fits, list_few) in
        mul-le-mul most share_short

  lent-all : Lent p parties blocks shares
  lent-all =
      record {
        scheme = s.accepted.passed;
        distinct = right.0;
        inside = right.1;
        bytes = (rw (← s.accepted.rows_is) L.shares_long, each_of Byte shares 0 (λ i _. L.bytes i));
      }

  lent : Lent p left blocks left_shares
  lent = rw s.accepted.rows_is (lent-left p parties blocks shares lent-all skip)

  abbrev found : List ℕ
  found = found_blocks p left blocks left_shares

  abbrev keys : List ℕ
  keys = found_keys p left blocks left_shares

  apart : Distinct core
  apart = distinct-take d left lent.distinct

  inside : Each (Party p) core
  inside = each_take (Party p) d left lent.inside

  first_room : d * (s.rows * blocks) ≤ length left_shares
  first_room =
      rw (lent.bytes.0, ← s.accepted.rows_is) (mul-le-mul_right (s.rows * blocks) L.many)

  first-same : take (d * (s.rows * blocks)) left_shares ≡ first_shares p blocks left_shares
  first-same = ap (λ (b : ℕ). take (d * (b * blocks)) left_shares) s.accepted.rows_is

  counted : Counted s s.counts.now d
  counted = record { scheme = scheme_own s; count = count_of }

  -- what is read are the shares of the first d parties
  module _ (m : ℕ) (which : ((skip < d) × (m ≡ d + 1)) ⊎ ((d ≤ skip) × (m ≡ d))) where
    pub read : read_from s d blocks skip (take (m * (s.rows * blocks)) shares) ≡ first_in s blocks skip shares
    read = rw sent-all (take-without (s.rows * blocks) skip d m shares first_room (bytes_fit m which) which)

    pub input : Input s s.counts.now d blocks (read_from s d blocks skip (take (m * (s.rows * blocks)) shares))
    input =
        record {
          counted = counted;
          blocks_high = L.blocks_high;
          prefixes_long = ap length read ∙ length-take-le (d * (s.rows * blocks)) left_shares first_room ∙ ap (λ (x : ℕ). d * (x * blocks)) (sym sent-all);
        }

  sent-first : Sent s s.counts.now (length core) blocks (map (point p) core) (first_in s blocks skip shares) found keys
  sent-first =
      sent_by s s.counts.now (scheme_own s) core (rw core_long count_of) (apart, inside) blocks (first_in s blocks skip shares) found keys
      (found-bytes p left blocks left_shares lent L.many) (found_keys-bytes p left blocks left_shares lent L.many)
      (rw (all-sent p s.accepted.passed core core_long apart inside, first-same) (found_gives p left blocks left_shares lent L.many))

  sent : Sent s s.counts.now d blocks (map (point p) core) (first_in s blocks skip shares) found keys
  sent = rw core_long at sent-first

  -- the weights are those for the largest count
  module _ (weights : List (List ℕ)) (weights-are : weights ≡ weights_in s parties skip) where
    weighed : WeightsOf (map (point p) core) d (get_or s.counts.now 0 0) weights
    weighed = rw weights-are (rw core_long at (largest_weights s s.counts.now (scheme_own s) core (rw core_long count_of) (apart, inside) blocks))

    found_long : length found ≡ blocks * s.block
    found_long = (found-bytes p left blocks left_shares lent L.many).0 ∙ ap (λ (x : ℕ). blocks * x) (sym s.accepted.block_is)

    -- the loops find the blocks
    pub opened : (work : List ℕ) → length work ≡ blocks * s.block
        → EachSent s s.counts.now d blocks weights (first_in s blocks skip shares) (λ B. Found s s.counts.now d blocks s.rows B work)
        → work ≡ found_in s parties blocks skip shares
    opened work long E =
        found_all s s.counts.now d blocks s.rows 0 (blocks * s.block) found work
        (rw (← sent-all) (reached_all (count_in counted) 0 (blocks * s.block)))
        (E found keys (map (point p) core) weighed sent) (omega arith) found_long long refl refl

    share_is : (party : ℕ) → share_at s s.counts.now blocks found keys (point p party) ≡ share_in p blocks found keys party
    share_is party =
        share_at_is s s.counts.now (scheme_own s) blocks found keys (found-bytes p left blocks left_shares lent L.many).0 (found_keys-bytes p left blocks left_shares lent L.many).0 party

    -- and fill in the share of any party
    pub refilled : (x party : ℕ) → x ≡ point p party → (chosen : List ℕ) → chosen ≡ tabulate side (value_weight weights d x) → (work out : List ℕ)
        → work ≡ found_in s parties blocks skip shares
        → FillsShare s s.counts.now d blocks chosen (first_in s blocks skip shares) work out
        → out ≡ rebuilt_in s parties blocks skip shares party
    unfolding rebuilt
    refilled x party x-is chosen chosen_is work out work-is F =
        F found keys (map (point p) core) weights x weighed chosen_is sent work-is ∙ ap (share_at s s.counts.now blocks found keys) x-is ∙ share_is party

-- ---- the test, place by place

-- b is the number of rows
module _ (p : Parameters) (parties : List ℕ) (N : ℕ) (shares : List ℕ) (L : Lent p parties N shares) (skip b : ℕ) (b-is : b ≡ rows p)
    (many : enough p ≤ length (without skip parties)) where
  abbrev again : ℕ → List ℕ
  again a = rebuilt p (without skip parties) N (without_piece (b * N) skip shares) (get_or parties a 0)

  abbrev same : ℕ → Bool
  same a = eqb a skip || eqb (differing (again a) (piece (b * N) a shares)) 0

  fails : (a : ℕ) → a < length parties → same a ≡ false → agrees p (without skip parties) N (without_piece (b * N) skip shares) ≡ false
  fails a h e =
      let n = neither (eqb a skip) (eqb (differing (again a) (piece (b * N) a shares)) 0) e in
      let other : differing (again a) (piece (b * N) a shares) ≡ 0 → ⊥ = eqb-false (differing (again a) (piece (b * N) a shares)) 0 n.1 in
      rw b-is (agrees-not p parties N shares L skip many a h (eqb-false a skip n.0) (rw b-is at other))

  again_long : (a : ℕ) → length (again a) ≡ b * N
  again_long a = rw b-is (rebuilt_long p (without skip parties) N (without_piece (rows p * N) skip shares) (lent-left p parties N shares L skip) many (get_or parties a 0))

  shares_long : length shares ≡ length parties * (b * N)
  shares_long = rw b-is L.bytes.0

  all_same : ((a : ℕ) → a < length parties → same a ≡ true) → (a : ℕ) → a < length parties → a ≢ skip → again a ≡ piece (b * N) a shares
  all_same E a h n =
      let e : eqb (differing (again a) (piece (b * N) a shares)) 0 ≡ true = rw (ne_eqb a skip n) at (E a h) in
      differing_none (again a) (piece (b * N) a shares) (again_long a ∙ sym (length-piece (b * N) a (length parties) shares (le_of_eq (sym shares_long)) h)) (eqb-true _ 0 e)

  -- the first, from which the blocks are found, need no test
  first_same_again : (a m : ℕ) → ((skip < enough p) × (m ≡ enough p + 1)) ⊎ ((enough p ≤ skip) × (m ≡ enough p)) → a < m → Dec (a ≡ skip) → same a ≡ true
  first_same_again a m which h (yes e) = rw (eq-eqb a skip e)
  first_same_again a m which h (no n) =
      let is : again a ≡ piece (b * N) a shares = rw b-is (first-given p parties N shares L skip many a n (unskipped-first skip a (enough p) m which h n)) in
      rw (ne_eqb a skip n) (eq-eqb _ 0 (ap (λ (x : List ℕ). differing x (piece (b * N) a shares)) is ∙ differing_self (piece (b * N) a shares)))

  passes : ((a : ℕ) → a < length parties → same a ≡ true) → agrees p (without skip parties) N (without_piece (b * N) skip shares) ≡ true
  passes E = rw b-is (agrees-all p parties N shares L skip many (rw b-is at (all_same E)))

module _ {s : Scheme} {parties : List ℕ} {blocks skip : ℕ} {shares : List ℕ} (L : Lending s parties blocks skip shares) where
  pub test_fails : (a : ℕ) → a < length parties → same_at s parties blocks skip shares a ≡ false → agrees_in s parties blocks skip shares ≡ false
  test_fails = fails (parameters_of s) parties blocks shares (lent-all L) skip s.rows s.accepted.rows_is L.many

  pub test-first : (m : ℕ) → ((skip < s.n - s.r) × (m ≡ s.n - s.r + 1)) ⊎ ((s.n - s.r ≤ skip) × (m ≡ s.n - s.r))
      → (a : ℕ) → a < m → same_at s parties blocks skip shares a ≡ true
  test-first m which a h =
      first_same_again (parameters_of s) parties blocks shares (lent-all L) skip s.rows s.accepted.rows_is L.many a m which h (ℕ_discrete a skip)

  pub test_passes : ((a : ℕ) → a < length parties → same_at s parties blocks skip shares a ≡ true) → agrees_in s parties blocks skip shares ≡ true
  test_passes = passes (parameters_of s) parties blocks shares (lent-all L) skip s.rows s.accepted.rows_is L.many

-- ---- whom a disagreement names

module _ {s : Scheme} {parties : List ℕ} {blocks skip : ℕ} {shares : List ℕ} (L : Lending s parties blocks skip shares) where
  abbrev test : ℕ → Bool
  test = agrees_without (parameters_of s) parties blocks shares

  pub named_few : length parties < s.n - s.r + 2 → 0 ≡ named (parameters_of s) parties blocks shares
  named_few h = sym (names_none (parameters_of s) parties blocks shares h)

  -- without one of them enough are left
  pub lending_without : s.n - s.r + 1 ≤ length parties → (i : ℕ) → i < length parties → Lending s parties blocks i shares
  lending_without many i h =
      record {
        passed = L.passed;
        blocks_high = L.blocks_high;
        shares_long = L.shares_long;
        bytes = L.bytes;
        many = omega (arith, length_without parties i h);
      }

  tested : (i : ℕ) (t : Bool) → t ≡ agrees_in s parties blocks i shares → test i ≡ t
  tested i t e =
      sym (e ∙ ap (λ (b : ℕ). agrees (parameters_of s) (without i parties) blocks (without_piece (b * blocks) i shares)) s.accepted.rows_is)

  -- the search from place i on
  module _ (i : ℕ) (reached : first_from test (length parties - i) i ≡ first_from test (length parties) 0) where
    pub named-next : i < length parties → (t : Bool) → t ≡ agrees_in s parties blocks i shares → t ≡ false
        → first_from test (length parties - (i + 1)) (i + 1) ≡ first_from test (length parties) 0
    named-next h t e is = sym (first_next test (length parties) i h (tested i t e ∙ is)) ∙ reached

    -- what it has found is named only where two more than enough are lent
    module _ (many : s.n - s.r + 2 ≤ length parties) where
      named-at : named (parameters_of s) parties blocks shares ≡ get_or parties (first_from test (length parties) 0) 0
      unfolding named
      named-at = rw (le-ltb (length parties) (s.n - s.r + 2) many)

      pub named_here : i < length parties → (t : Bool) → t ≡ agrees_in s parties blocks i shares → t ≡ true → get_or parties i 0 ≡ named (parameters_of s) parties blocks shares
      named_here h t e is =
          sym (named-at ∙ ap (λ (x : ℕ). get_or parties x 0) (sym reached ∙ first_here test (length parties) i h (tested i t e ∙ is)))

      pub named_none : length parties ≤ i → 0 ≡ named (parameters_of s) parties blocks shares
      named_none h =
          sym (named-at ∙ ap (λ (x : ℕ). get_or parties x 0) (sym reached ∙ first_end test (length parties) i h) ∙ get_or-eq_default parties 0 h)

-- ---- nothing is left out

module _ {s : Scheme} {parties : List ℕ} {blocks skip : ℕ} {shares : List ℕ} (L : Lending s parties blocks skip shares) (whole : skip ≡ length parties) where
  all_left : without skip parties ≡ parties
  all_left = without_past parties skip (le_of_eq (sym whole))

  all_shares_left : without_piece (s.rows * blocks) skip shares ≡ shares
  all_shares_left = rw whole (without_none (s.rows * blocks) (length parties) shares L.shares_long)

  pub agrees_whole : agrees_in s parties blocks skip shares ≡ agrees (parameters_of s) parties blocks shares
  agrees_whole = ap₂ (λ (l m : List ℕ). agrees (parameters_of s) l blocks m) all_left all_shares_left

  pub rebuilt_whole : (party : ℕ) → rebuilt_in s parties blocks skip shares party ≡ rebuilt (parameters_of s) parties blocks shares party
  rebuilt_whole party = ap₂ (λ (l m : List ℕ). rebuilt (parameters_of s) l blocks m party) all_left all_shares_left
