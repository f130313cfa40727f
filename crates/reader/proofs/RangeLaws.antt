-- What holds of the opener for a range: the rows that are not taken change nothing, and the count is that of the fewest rows that reach the range.
-- Assumes nothing.
use mathlib.Core.Path.{◌≡◌, refl, sym, ap, ◌∙◌}
use mathlib.Core.Bool.{true, false}
use mathlib.Core.List.{List, [], append-nil}
use Prim.Native.Nat.{ℕ, ◌+◌, ◌*◌, ◌≤◌}
use native.Mathlib.Nat.{mul_assoc, mul-le-mul_left, mul-le-mul_right, not-suc-le-zero}
use native.Mathlib.Decide.{ℕ_discrete}
use native.Mathlib.Omega.{arith}
use lib.ListN.{length, take, drop}
use borrow.Author.Tests.{ne_eqb, not-false, ltb-false, eqb-true}
use Rattle.lists.specs.Each.{Each, Byte, occurs}
use Rattle.scheme.specs.declared.accepted.Scheme.{Scheme}
use Rattle.scheme.specs.Limits.{max_message}
use Rattle.scheme.specs.Readers.{readers_refused}
use Rattle.scheme.proofs.Laws.{scheme_own, first_none, first_if}
use Rattle.family.proofs.Message.{blocks_cover}
use Rattle.staircase.specs.Parameters.{Parameters, AcceptedScheme, block, rows, blocks_of}
use Rattle.staircase.specs.Exactness.{prefix_bytes, opened_string}
use Rattle.staircase.proofs.Sizes.{block_some, blocks_few}
use Rattle.order.specs.RowsTaken.{Earliest}
use Rattle.order.proofs.ReadingOrder.{turns}
use Rattle.order.proofs.RowsTaken.{wanted_all, taken_earliest, taken-all}
use Rattle.reader.specs.Decoding.{sent_rows, sent_bytes, Counted, Input, Found}
use Rattle.reader.specs.Range.{taken_rows, range_refusal, range_answer, range_output, SameInTurns, RowsNotTaken, RangeCount}
use Rattle.reader.proofs.CountedScheme.{count_in}
use Rattle.reader.proofs.RowOrder.{found-copied}
use Rattle.reader.proofs.Reading.{opened_long, opened_sent, opened_weights}
use Rattle.reader.proofs.RangeAnswers.{range_cut}
use Rattle.reader.proofs.NotTaken.{turns_same}

-- ---- what the check answers for accepted parameters, wherever their counts stand

module _ (p : Parameters) (good : AcceptedScheme p) where
  abbrev scheme_of : Scheme
  scheme_of =
      record {
        n = p.n;
        r = p.r;
        z = p.z;
        counts = record { ref_ptr = (0, 0); now = p.counts };
        block = block p;
        rows = rows p;
        accepted = record { passed = good; block_is = refl; rows_is = refl };
      }

  counted_by : (d : ℕ) → occurs d p.counts ≡ true → Counted scheme_of p.counts d
  counted_by d h = record { scheme = scheme_own scheme_of; count = h }

-- ---- the count

pub range_count : (p : Parameters) → RangeCount p
unfolding prefix_bytes
range_count p good d count start long =
    let C = count_in (counted_by p good d count) in
    let E = taken_earliest C start long in
    record {
      turns = turns C;
      earliest = E;
      most = λ N. mul-le-mul_right N (mul-le-mul_left d E.within);
      none = λ e. let least = E.least 0 (λ q W. absurd (not-suc-le-zero (rw e at W.inside))) in omega (arith, least);
      all = taken-all C start long;
      whole = λ h N. ap (λ (t : ℕ). d * t * N) (taken-all C start long (λ q below. wanted_all (block p) start long q below h));
    }

-- ---- what holds where no refusal applies

pub record RangeGiven (p : Parameters) (message start long : ℕ) (parties : List ℕ) (prefixes out : ℕ) : Type 0 where
  pub good : AcceptedScheme p
  pub short : message ≤ max_message
  pub count : occurs (length parties) p.counts ≡ true
  pub passed : readers_refused p.n parties ≡ false
  pub inside : start + long ≤ message
  pub sent : prefixes ≡ prefix_bytes p (length parties) (blocks_of p message)
  pub room : out ≡ long

pub range_given : (p : Parameters) (message start long : ℕ) (parties : List ℕ) (prefixes out : ℕ)
    → range_refusal p message start long parties prefixes out ≡ 0 → RangeGiven p message start long parties prefixes out
unfolding range_refusal
range_given p message start long parties prefixes out e =
    let scheme = first_none _ _ e in
    let five = first_if _ _ _ scheme.1 in
    let six = first_if _ _ _ five.1 in
    let seven = first_if _ _ _ six.1 in
    let fifteen = first_if _ _ _ seven.1 in
    let nine = first_if _ _ _ fifteen.1 in
    let ten = first_if _ _ _ nine.1 in
    record {
      good = scheme.0;
      short = ltb-false _ _ five.0;
      count = not-false _ six.0;
      passed = seven.0;
      inside = ltb-false _ _ fifteen.0;
      sent = eqb-true _ _ (not-false _ nine.0);
      room = eqb-true _ _ (not-false _ ten.0);
    }

-- ---- the rows that are not taken

module _ (p : Parameters) (message start long : ℕ) (parties prefixes prefixes' : List ℕ) (out : ℕ)
    (G : RangeGiven p message start long parties (length prefixes) out)
    (bytes : Each Byte prefixes) (bytes' : Each Byte prefixes') (as_long : length prefixes ≡ length prefixes')
    (same : SameInTurns p (length parties) (blocks_of p message) (taken_rows p (length parties) start long) prefixes prefixes') where
  abbrev s : Scheme
  s = scheme_of p G.good

  abbrev d : ℕ
  d = length parties

  abbrev N : ℕ
  N = blocks_of p message

  counted : Counted s p.counts d
  counted = counted_by p G.good d G.count

  earliest : Earliest (block p) p.z p.counts d start long (taken_rows p d start long)
  earliest = taken_earliest (count_in counted) start long

  sent_long : length prefixes ≡ sent_bytes s d N
  unfolding prefix_bytes
  sent_long = G.sent ∙ mul_assoc d (sent_rows s d) N

  sent_long' : length prefixes' ≡ sent_bytes s d N
  sent_long' = sym as_long ∙ sent_long

  input : (sent : List ℕ) → length sent ≡ sent_bytes s d N → Input s p.counts d N sent
  input sent long =
      record {
        counted = counted;
        blocks_high = blocks_few p s (scheme_own s) message N refl G.short;
        prefixes_long = long;
      }

  covered : start + long ≤ N * block p
  covered =
      omega (arith, G.inside, blocks_cover (block p) message (block_some p G.good))

  -- the opened blocks of the one and of the other prefixes have the same bytes at all origins of the rows taken
  found : Found s p.counts d N (taken_rows p d start long) (opened_string p parties N prefixes') (opened_string p parties N prefixes)
  found =
      let is = scheme_own s in
      let X = opened_sent s p.counts is parties G.count G.passed N prefixes sent_long bytes in
      let X' = opened_sent s p.counts is parties G.count G.passed N prefixes' sent_long' bytes' in
      turns_same (input prefixes sent_long) (input prefixes' sent_long') (opened_weights s p.counts is parties G.count G.passed N) X.1 X'.1
      (taken_rows p d start long) earliest.within same

  whole : (sent : List ℕ) → length (opened_string p parties N sent) ≡ N * block p
  whole = opened_long s p.counts (scheme_own s) parties G.count G.passed N

  range_same : take long (drop start (opened_string p parties N prefixes)) ≡ take long (drop start (opened_string p parties N prefixes'))
  range_same =
      found-copied s p.counts d N (taken_rows p d start long) start long (opened_string p parties N prefixes') (opened_string p parties N prefixes) earliest.enough
      found covered (whole prefixes') (whole prefixes) [] _ (ap (λ (l : List ℕ). take long (drop start l)) (sym (append-nil (opened_string p parties N prefixes))))

  opened_same : take long (drop start (take message (opened_string p parties N prefixes))) ≡ take long (drop start (take message (opened_string p parties N prefixes')))
  opened_same =
      sym (range_cut message start long (opened_string p parties N prefixes) G.inside)
      ∙ range_same
      ∙ range_cut message start long (opened_string p parties N prefixes') G.inside

pub rows_not_taken : (p : Parameters) → RowsNotTaken p
unfolding range_output
rows_not_taken p message start long size parties prefixes prefixes' before h h' same =
    (ap (λ (n : ℕ). range_answer p message start long parties n (length before)) as_long, output (ℕ_discrete refusal 0))
  where
    as_long : length prefixes ≡ length prefixes'
    as_long = h.0 ∙ sym h'.0

    refusal : ℕ
    refusal = range_refusal p message start long parties (length prefixes) (length before)

    output : Dec (refusal ≡ 0) → range_output p message start long parties prefixes before ≡ range_output p message start long parties prefixes' before
    output (yes none) =
        rw (← as_long, none)
        (opened_same p message start long parties prefixes prefixes' (length before)
        (range_given p message start long parties (length prefixes) (length before) none) h.1 h'.1 as_long same)
    output (no some) = rw (← as_long, ne_eqb refusal 0 some)
