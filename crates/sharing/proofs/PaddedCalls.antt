-- Every call on padded messages in words: each test of a call reflects the line of the table at its place, and what a call leaves follows from its answer. And
-- the words settle a call.
-- Assumes nothing.
use Rattle.std.specs.Prelude.{Err, Ok, Result}
use mathlib.Core.Path.{◌≡◌, refl, sym, ap, ◌∙◌}
use mathlib.Core.Bool.{true, false, not}
use mathlib.Core.List.{List, [], ◌∷◌}
use Prim.Native.Nat.{ℕ, ◌-◌, ◌*◌, ◌/◌, ◌<◌}
use native.Mathlib.Nat.{mul_comm, mul-pos, mul-div_cancel_left}
use native.Mathlib.Omega.{arith}
use lib.Dec.{eqb}
use lib.ListN.{length}
use borrow.Author.Tests.{not-false}
use Rattle.lists.specs.Each.{occurs}
use Rattle.lists.proofs.Numbers.{positive_factor}
use Rattle.lists.proofs.Tests.{test_positive}
use Rattle.scheme.specs.Refusals as refusals
use Rattle.scheme.specs.declared.refusal.Refusal.{Refusal}
use Rattle.scheme.specs.Outcome.{outcome, number_if, first_of, answer}
use Rattle.scheme.specs.Padding.{most_padded, NoMessageGives}
use Rattle.scheme.specs.Grounds.{Ground, ground, NoneApplies, FirstApplies, AnsweredBy}
use Rattle.scheme.proofs.Laws.{number_same, Reflects, Tested, end, line, line_then, above, other, no_count_lem, not-rising, none_gives, after-scheme, after-accepted, answered_by, none_first, first-once, accepted_none, refused-first, told-accepted, told-refused, kept, held_quotient}
use Rattle.family.specs.Padding.{end_refused}
use Rattle.family.proofs.Padding.{no_end_lem, end_is}
use Rattle.staircase.specs.Parameters.{Parameters, AcceptedScheme, default_parameters, block, rows, prefix_rows, padded_blocks_of}
use Rattle.staircase.specs.Exactness.{opened_string}
use Rattle.staircase.proofs.Sizes.{block_some, rows_some, sent_some}
use Rattle.dealer.specs.SplitPadded.{split_padded_refusal, split_padded_answer}
use Rattle.party.specs.PrefixPadded.{blocks_kept, prefix_padded_refusal, prefix_padded_length, prefix_padded_answer, prefix_padded_of}
use Rattle.party.proofs.Laws.{padded_quotient, padded_whole}
use Rattle.reader.specs.declared.padded.PaddedOpening.{PaddedOpening}
use Rattle.reader.specs.ReconstructPadded.{padded_outcome, blocks_sent, opened_padded, reconstruct_padded_refusal, reconstruct_padded_answer}
use Rattle.sharing.specs.Calls.{HandsBack}
use Rattle.sharing.specs.PaddedSecrecy.{PaddedWrote}
use Rattle.sharing.specs.OpeningPadded.{OpenedPaddedExactly}
use Rattle.sharing.specs.PaddedCalls.{EverySplitPadded, prefix_padded_lines, EveryPrefixPadded, prefix_blocks, no_end, reconstruct_padded_lines, PaddedAnsweredBy, ReconstructPaddedInWords, EveryReconstructPadded, PaddedWordsSettle}
use Rattle.sharing.proofs.PaddedSecrecy.{padded_call_wrote}
use Rattle.sharing.proofs.OpeningPadded.{padded_exact_calls}
use Rattle.sharing.proofs.Calls.{one_answer, one_part}

pub split_padded_in_words : (p : Parameters) → EverySplitPadded p
unfolding split_padded_answer split_padded_refusal
split_padded_in_words p message keys before a after C =
    record {
      answered = answered_by (after-scheme p.n p.r p.z p.counts (line above (line other (line other end)))) _ a C.0;
      wrote = padded_call_wrote p message keys before a after C;
    }

-- ---- prefix

module _ (p : Parameters) (d : ℕ) (share : List ℕ) where
  padded_hands_back : (a : Result ℕ Refusal) → outcome a ≡ prefix_padded_answer p d (length share) → HandsBack share a (prefix_padded_of p d share)
  unfolding prefix_padded_answer prefix_padded_of
  padded_hands_back (Ok bytes) e =
      let told = told-accepted (Ok bytes) _ _ e refl in
      (rw (told.0, told.1), padded_whole p d share told.0 ∙ sym told.1)
  padded_hands_back (Err q) e = sym (kept _ (told-refused (Err q) _ _ e refl))

  prefix_answered : (a : Result ℕ Refusal) → outcome a ≡ prefix_padded_answer p d (length share) → AnsweredBy (prefix_padded_lines p d (length share)) (prefix_padded_length p d (length share)) a
  unfolding prefix_padded_answer prefix_padded_refusal blocks_kept
  prefix_answered a e =
      answered_by
      (after-accepted p.n p.r p.z p.counts
      (λ A. line (no_count_lem d p.counts) (line (none_gives (block p) (rows p) (length share) (block_some p A) (rows_some p A)) end))) _ a e

pub prefix_padded_in_words : (p : Parameters) → EveryPrefixPadded p
unfolding prefix_padded_answer prefix_padded_length
prefix_padded_in_words p d share a part e is =
    let A = prefix_answered p d share a e in
    record {
      answered =
          record {
            accepts = A.accepts;
            refuses = A.refuses;
            value_is = λ w told. A.value_is w told ∙ ap (λ (N : ℕ). prefix_rows p d * N) (padded_quotient p d (length share) (told-accepted a _ _ e told).0);
          };
      part_is = rw is (padded_hands_back p d share a e);
    }

-- ---- reconstruct

-- the answer with two numbers, by tests and grounds
module _ {qs : List ℕ} {grounds : List Ground} (tested : Tested qs grounds) (used message : ℕ) where
  opened_by : (a : Result PaddedOpening Refusal) → padded_outcome a ≡ answer (first_of qs) (used ∷ message ∷ []) → NoneApplies grounds → (opening : PaddedOpening) × (a ≡ Ok opening)
  opened_by (Ok opening) e n = (opening, refl)
  opened_by (Err q) e n = absurd (none_first grounds (refusals.number q) n (refused-first tested used (refusals.number q) (message ∷ []) e))

  padded_refused_by : (q : Refusal) (a : Result PaddedOpening Refusal) → padded_outcome a ≡ answer (first_of qs) (used ∷ message ∷ [])
      → FirstApplies (refusals.number q) grounds → a ≡ Err q
  padded_refused_by q (Ok opening) e f =
      absurd (none_first grounds (refusals.number q) (accepted_none tested (used ∷ message ∷ []) (opening.used ∷ opening.length ∷ []) e) f)
  padded_refused_by q (Err k) e f =
      ap Err (number_same k q (first-once grounds (refusals.number k) (refusals.number q) (refused-first tested used (refusals.number k) (message ∷ []) e) f))

  pub padded_answered_by : (a : Result PaddedOpening Refusal) → padded_outcome a ≡ answer (first_of qs) (used ∷ message ∷ []) → PaddedAnsweredBy grounds a
  padded_answered_by a e =
      record {
        accepts = (
          λ told. accepted_none tested (used ∷ message ∷ []) ((told.0).used ∷ (told.0).length ∷ []) (sym (ap padded_outcome told.1) ∙ e),
          opened_by a e,
        );
        refuses = λ q. (λ told. refused-first tested used (refusals.number q) (message ∷ []) (sym (ap padded_outcome told) ∙ e), padded_refused_by q a e);
      }

-- what is tested for 9
gives_none : (p : Parameters) (A : AcceptedScheme p) (d prefixes : ℕ) → occurs d p.counts ≡ true
    → Reflects (eqb (blocks_sent p d prefixes) 0) (NoMessageGives (block p) (d * prefix_rows p d) prefixes)
unfolding blocks_sent
gives_none p A d prefixes counted = none_gives (block p) (d * prefix_rows p d) prefixes (block_some p A) (sent_some p A d counted)

-- past 9 the prefixes' length tells the blocks, and there is one
module _ (p : Parameters) (A : AcceptedScheme p) (parties prefixes : List ℕ) (out : ℕ) (told : eqb (blocks_sent p (length parties) (length prefixes)) 0 ≡ false) where
  some : 0 < blocks_sent p (length parties) (length prefixes)
  some = test_positive (blocks_sent p (length parties) (length prefixes)) told

  quotient : blocks_sent p (length parties) (length prefixes) ≡ prefix_blocks p (length parties) (length prefixes)
  unfolding blocks_sent
  quotient = held_quotient (most_padded (block p)) (length parties * prefix_rows p (length parties)) (length prefixes) some

  last_lines : let N : ℕ = blocks_sent p (length parties) (length prefixes) in let M : ℕ = prefix_blocks p (length parties) (length prefixes) in
      Tested (number_if 10 (not (eqb out (N * block p))) ∷ number_if 11 (end_refused (block p) N (opened_padded p parties prefixes)) ∷ [])
      (ground 10 (out ≡ M * block p → ⊥) ∷ no_end p M (opened_string p parties M prefixes) ∷ [])
  unfolding opened_padded
  last_lines = rw quotient (line other (line (no_end_lem (block p) _ _ (rw quotient at some) (block_some p A)) end))

pub reconstruct_padded_in_words : (p : Parameters) → EveryReconstructPadded p
unfolding reconstruct_padded_answer reconstruct_padded_refusal
reconstruct_padded_in_words p parties prefixes before a after bytes C =
    let d : ℕ = length parties in
    record {
      answered =
          padded_answered_by
          (after-accepted p.n p.r p.z p.counts
          (λ A.
          line_then (no_count_lem d p.counts)
          (λ counted.
          line (not-rising p.n parties)
          (line_then (gives_none p A d (length prefixes) (not-false (occurs d p.counts) counted)) (last_lines p A parties prefixes (length before)))))) _ _ a C.0;
      wrote = padded_exact_calls p parties prefixes before a after bytes C;
    }

-- ---- the forms without a scheme

pub default_split_padded_in_words : EverySplitPadded default_parameters
default_split_padded_in_words = split_padded_in_words default_parameters

pub default_prefix_padded_in_words : EveryPrefixPadded default_parameters
default_prefix_padded_in_words = prefix_padded_in_words default_parameters

pub default_reconstruct_padded_in_words : EveryReconstructPadded default_parameters
default_reconstruct_padded_in_words = reconstruct_padded_in_words default_parameters

-- ---- the words settle a call

one_padded_split : (p : Parameters) (message keys before : List ℕ) (a : Result ℕ Refusal) (after after' : List ℕ)
    → PaddedWrote p message keys before a after → PaddedWrote p message keys before a after' → after ≡ after'
one_padded_split p message keys before (Ok bytes) after after' W W' = W.0 ∙ sym W'.0
one_padded_split p message keys before (Err q) after after' W W' = W ∙ sym W'

-- two openings of the same prefixes: as many blocks, so the same output, and so the same end
module _ (p : Parameters) (parties prefixes : List ℕ) {used used' message message' : ℕ} {after after' : List ℕ}
    (O : OpenedPaddedExactly p parties prefixes used message after) (O' : OpenedPaddedExactly p parties prefixes used' message' after') where
  abbrev sent_rows : ℕ
  sent_rows = prefix_rows p (length parties)

  some_blocks : 0 < padded_blocks_of p message * block p
  some_blocks = omega (arith, O.ends.within)

  m_some : 0 < block p
  m_some = positive_factor (block p) (padded_blocks_of p message) (padded_blocks_of p message * block p) some_blocks (mul_comm (block p) (padded_blocks_of p message))

  unit_some : 0 < length parties * sent_rows
  unit_some =
      let rows-positive : 0 < sent_rows = positive_factor sent_rows (length parties - p.z) (block p) m_some O.rows_of-count in
      let counted : 0 < length parties - p.z = positive_factor (length parties - p.z) sent_rows (block p) m_some (mul_comm (length parties - p.z) sent_rows ∙ O.rows_of-count) in
      mul-pos (omega arith) rows-positive

  same_blocks : padded_blocks_of p message ≡ padded_blocks_of p message'
  same_blocks =
      let unit : ℕ = length parties * sent_rows in
      sym (mul-div_cancel_left (padded_blocks_of p message) unit_some)
      ∙ ap (λ (x : ℕ). x / unit) (sym O.used_is ∙ O.used_all ∙ sym O'.used_all ∙ O'.used_is)
      ∙ mul-div_cancel_left (padded_blocks_of p message') unit_some

  same_after : after ≡ after'
  same_after = O.output ∙ ap (λ (N : ℕ). opened_string p parties N prefixes) same_blocks ∙ sym O'.output

  abbrev opening_of : ℕ → ℕ → PaddedOpening
  opening_of u l = record { used = u; length = l }

  same_opened : opening_of used message ≡ opening_of used' message'
  same_opened =
      let N : ℕ = padded_blocks_of p message in
      let some : 0 < N = positive_factor N (block p) (N * block p) some_blocks refl in
      let used-same : used ≡ used' = O.used_all ∙ sym O'.used_all in
      let ends_same : message ≡ message' =
      sym (end_is (block p) N after some message O.ends) ∙ end_is (block p) N after some message' (rw (same_blocks, same_after) O'.ends) in
      rw (used-same, ends_same)

one_padded_opening : (p : Parameters) (parties prefixes before : List ℕ) (a a' : Result PaddedOpening Refusal) (after after' : List ℕ)
    → ReconstructPaddedInWords p parties prefixes before a after → ReconstructPaddedInWords p parties prefixes before a' after'
    → (a ≡ a') × (after ≡ after')
one_padded_opening p parties prefixes before (Ok opening) (Ok opening') after after' R R' =
    (ap Ok (same_opened p parties prefixes R.wrote R'.wrote), same_after p parties prefixes R.wrote R'.wrote)
one_padded_opening p parties prefixes before (Err q) (Err k) after after' R R' =
    let lines = reconstruct_padded_lines p parties prefixes (length before) in
    let same = first-once lines (refusals.number q) (refusals.number k) ((R.answered.refuses q).0 refl) ((R'.answered.refuses k).0 refl) in
    (ap Err (number_same q k same), R.wrote ∙ sym R'.wrote)
one_padded_opening p parties prefixes before (Ok opening) (Err k) after after' R R' =
    absurd
    (none_first (reconstruct_padded_lines p parties prefixes (length before)) (refusals.number k) (R.answered.accepts.0 (opening, refl)) ((R'.answered.refuses k).0 refl))
one_padded_opening p parties prefixes before (Err q) (Ok opening) after after' R R' =
    absurd
    (none_first (reconstruct_padded_lines p parties prefixes (length before)) (refusals.number q) (R'.answered.accepts.0 (opening, refl)) ((R.answered.refuses q).0 refl))

pub padded_words_settle : (p : Parameters) → PaddedWordsSettle p
padded_words_settle p =
    record {
      split =
          λ message keys before a a' after after' S S'.
          let same = one_answer a a' S.answered S'.answered in
          (same, one_padded_split p message keys before a after after' S.wrote (rw (← same) at S'.wrote));
      prefix =
          λ d share a a' part part' P P'.
          let same = one_answer a a' P.answered P'.answered in
          (same, one_part share a part part' P.part_is (rw (← same) at P'.part_is));
      reconstruct = one_padded_opening p;
    }
