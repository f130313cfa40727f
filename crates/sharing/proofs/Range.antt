-- The opener for a range in words: each test of a call reflects the line of the table at its place, what an accepted call wrote is the range of the full
-- opening, and of what was split the message's; the words settle a call, and rows that are not taken change none.
-- Assumes nothing.
use Rattle.std.specs.Prelude.{Err, Ok, Result}
use mathlib.Core.Path.{◌≡◌, refl, sym, ap, ◌∙◌}
use mathlib.Core.Bool.{not}
use mathlib.Core.List.{List, ◌∷◌, []}
use Prim.Native.Nat.{ℕ, ◌+◌, ◌*◌, ◌≤◌}
use native.Mathlib.Omega.{arith}
use lib.ListN.{length, take, drop, length-drop}
use lib.Seq.{length-take-le}
use Rattle.lists.specs.Each.{Each, Byte}
use Rattle.scheme.specs.declared.refusal.Refusal.{Refusal}
use Rattle.scheme.specs.Outcome.{accepted}
use Rattle.scheme.proofs.Laws.{default_accepted, end, line, above, other, no_count_lem, not-rising, after-scheme, answered_by, told-accepted, told-refused, kept, readers_pass, parties_distinct, done, pass, pass_within, pass_false, pass_same, numbered, answer_none}
use Rattle.family.proofs.Message.{blocks_cover}
use Rattle.staircase.specs.Parameters.{Parameters, AcceptedScheme, default_parameters, block, blocks_of}
use Rattle.staircase.specs.Exactness.{prefix_bytes, opened_string, Opened}
use Rattle.staircase.proofs.Sizes.{block_some}
use Rattle.dealer.specs.Split.{split_output}
use Rattle.reader.specs.Reconstruct.{reconstruct_refusal, reconstruct_answer, reconstruct_output}
use Rattle.reader.specs.Range.{taken_rows, range_refusal, range_answer, range_output, RangeCall}
use Rattle.reader.proofs.Laws.{RangeGiven, range_given, range_count, range_cut, rows_not_taken}
use Rattle.sharing.specs.RoundTrip.{handed}
use Rattle.sharing.specs.Range.{OpenedRange, OpensRange, EveryRange, RangeSettled, UntakenRows, RangeRoundTrip}
use Rattle.sharing.proofs.Opening.{opened_of}
use Rattle.sharing.proofs.Calls.{one_answer}
use Rattle.sharing.proofs.RoundTrip.{handed-bytes, message_back}
use Rattle.sharing.proofs.Secrecy.{same_answer}

-- ---- what an accepted call did

module _ (p : Parameters) (message start long : ℕ) (parties prefixes before : List ℕ) (used : ℕ) (after : List ℕ) (bytes : Each Byte prefixes)
    (C : RangeCall p message start long parties prefixes before (Ok used) after) where
  abbrev B : List ℕ
  B = opened_string p parties (blocks_of p message) prefixes

  told : (range_refusal p message start long parties (length prefixes) (length before) ≡ 0) × (used ≡ length parties * taken_rows p (length parties) start long * blocks_of p message)
  unfolding range_answer
  told = told-accepted (Ok used) _ _ C.0 refl

  given : RangeGiven p message start long parties (length prefixes) (length before)
  given = range_given p message start long parties (length prefixes) (length before) told.0

  cut : after ≡ take long (drop start (take message B))
  unfolding range_output
  cut = C.1 ∙ rw told.0

  opened : Opened p message parties prefixes
  opened = opened_of given bytes

  output : after ≡ take long (drop start B)
  output = cut ∙ sym (range_cut message start long B given.inside)

  covers : start + long ≤ length B
  covers = rw opened.bytes.0 (omega (arith, given.inside, blocks_cover (block p) message (block_some p given.good)))

  -- no refusal applies to the full opener either
  full_accepts : (before' : List ℕ) → length before' ≡ message → reconstruct_refusal p message parties (length prefixes) (length before') ≡ 0
  unfolding reconstruct_refusal
  full_accepts before' room =
      numbered
      (pass given.good
      (pass_within 5 given.short (pass_false 6 (ap not given.count) (pass_false 7 given.passed (pass_same 9 given.sent (pass_same 10 room done))))))

  opened_range : OpenedRange p message start long parties prefixes used after
  unfolding range_answer reconstruct_answer reconstruct_output prefix_bytes
  opened_range =
      let rows = range_count p given.good (length parties) given.count start long in
      record {
        opened = opened;
        output = output;
        inside = given.inside;
        long_is = ap length output ∙ length-take-le long _ (rw length-drop (omega (arith, covers)));
        full = λ before' whole a room F. (
          same_answer a (Ok (length prefixes)) (F.0 ∙ answer_none _ _ (full_accepts before' room) ∙ ap (λ (x : ℕ). accepted (x ∷ [])) (sym given.sent)),
          cut ∙ ap (λ (l : List ℕ). take long (drop start l)) (sym (F.1 ∙ rw (full_accepts before' room))),
        );
        used_is = told.1;
        rows = rows;
        used_most = rw (told.1, given.sent) (rows.most (blocks_of p message));
      }

opens_range : (p : Parameters) (message start long : ℕ) (parties prefixes before : List ℕ) (a : Result ℕ Refusal) (after : List ℕ) → Each Byte prefixes
    → RangeCall p message start long parties prefixes before a after → OpensRange p message start long parties prefixes before a after
unfolding range_answer range_output
opens_range p message start long parties prefixes before (Ok used) after bytes C = opened_range p message start long parties prefixes before used after bytes C
opens_range p message start long parties prefixes before (Err q) after bytes C = C.1 ∙ sym (kept _ (told-refused (Err q) _ _ C.0 refl))

-- ---- the table in words

pub range_in_words : (p : Parameters) → EveryRange p
unfolding range_answer range_refusal prefix_bytes
range_in_words p message start long parties prefixes before a after bytes C =
    record {
      answered =
          answered_by
          (after-scheme p.n p.r p.z p.counts
          (line above (line (no_count_lem (length parties) p.counts) (line (not-rising p.n parties) (line above (line other (line other end))))))) _ a C.0;
      wrote = opens_range p message start long parties prefixes before a after bytes C;
    }

pub default_range_in_words : EveryRange default_parameters
default_range_in_words = range_in_words default_parameters

one_range : (p : Parameters) (message start long : ℕ) (parties prefixes before : List ℕ) (a : Result ℕ Refusal) (after after' : List ℕ)
    → OpensRange p message start long parties prefixes before a after → OpensRange p message start long parties prefixes before a after' → after ≡ after'
one_range p message start long parties prefixes before (Ok used) after after' O O' = O.output ∙ sym O'.output
one_range p message start long parties prefixes before (Err q) after after' O O' = O ∙ sym O'

pub range_settled : (p : Parameters) → RangeSettled p
range_settled p message start long parties prefixes before a a' after after' R R' =
    let same = one_answer a a' R.answered R'.answered in
    (same, one_range p message start long parties prefixes before a after after' R.wrote (rw (← same) at R'.wrote))

-- ---- the rows that are not taken

pub untaken_rows : (p : Parameters) → UntakenRows p
untaken_rows p message start long size parties prefixes prefixes' before a a' after after' B B' same C C' =
    let equal = rows_not_taken p message start long size parties prefixes prefixes' before B B' same in
    (same_answer a a' (C.0 ∙ equal.0 ∙ sym C'.0), C.1 ∙ equal.1 ∙ sym C'.1)

-- ---- the way there and back

pub range_round_trip : (p : Parameters) → AcceptedScheme p → RangeRoundTrip p
unfolding range_output range_answer range_refusal
range_round_trip p A message keys bytes short K parties counted rising before out room start inside prefixes B same =
    let right = parties_distinct p.n parties rising in
    let handed-are = handed-bytes p A message keys bytes short K parties counted right.0 right.1 before room in
    let sent : List ℕ = handed p (length message) parties (split_output p message keys before) in
    let passes : (prefixes : List ℕ) → length prefixes ≡ prefix_bytes p (length parties) (blocks_of p (length message))
    → range_refusal p (length message) start (length out) parties (length prefixes) (length out) ≡ 0 =
    λ prefixes long.
    numbered
    (pass A
    (pass_within 5 short
    (pass_false 6 (ap not counted)
    (pass_false 7 (readers_pass p.n parties rising)
    (pass_within 15 inside (pass_same 9 long (pass_same {a = length out} {b = length out} 10 refl done))))))) in (
      answer_none _ _ (passes prefixes B.0),
      sym (rows_not_taken p (length message) start (length out) _ parties sent prefixes out handed-are B same).1
          ∙ rw (passes sent handed-are.0)
          (ap (λ (l : List ℕ). take (length out) (drop start l)) (message_back p A message keys bytes short K parties counted right.0 right.1 before room)),
    )

-- ---- the forms without a scheme

pub default_untaken_rows : UntakenRows default_parameters
default_untaken_rows = untaken_rows default_parameters

pub default_range_round_trip : RangeRoundTrip default_parameters
default_range_round_trip = range_round_trip default_parameters default_accepted
