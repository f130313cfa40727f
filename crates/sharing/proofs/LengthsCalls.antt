-- The call for the lengths of a message in words: each test reflects the line of the table at its place. And with the lengths that it answers the tests of a
-- split and of an opening come to those of the slices' lengths.
-- Assumes nothing.
use Rattle.std.specs.Prelude.{Err, Ok, Result}
use mathlib.Core.Path.{◌≡◌, refl, sym, ap, ◌∙◌}
use mathlib.Core.Bool.{Bool, true, false, not}
use mathlib.Core.Logic.{◌≢◌}
use mathlib.Core.List.{List, [], ◌∷◌}
use Prim.Native.Nat.{ℕ, ◌*◌, ◌<◌}
use native.Mathlib.Nat.{mul_comm}
use native.Mathlib.Omega.{arith}
use lib.Dec.{ltb, eqb}
use lib.ListN.{length, drop}
use borrow.Author.Tests.{le-ltb, eq-eqb, ne_eqb}
use Rattle.lists.specs.Each.{occurs}
use Rattle.scheme.specs.Refusals as refusals
use Rattle.scheme.specs.declared.refusal.Refusal.{Refusal}
use Rattle.scheme.specs.Limits.{max_message}
use Rattle.scheme.specs.Outcome.{outcome, number_if, first_of, answer}
use Rattle.scheme.specs.Check.{refusal}
use Rattle.scheme.specs.Padding.{most_padded, blocks_held}
use Rattle.scheme.specs.Grounds.{NoneApplies, FirstApplies, AnsweredBy, ground}
use Rattle.scheme.specs.Readers.{readers_refused, Rising}
use Rattle.scheme.proofs.Laws.{number_same, Tested, end, line, above, other, after-scheme, answered_by, answered_none, accepted_none, refused-first, none_first, first-once, first-before, first-passed, readers_pass, padded_count_positive, padded_count_most, held_of}
use Rattle.staircase.specs.Parameters.{Parameters, default_parameters, block, prefix_rows, padded_blocks_of, key_bytes, share_bytes, output_bytes}
use Rattle.staircase.specs.Exactness.{prefix_bytes, opened_string}
use Rattle.staircase.proofs.Sizes.{block_some, sent_some}
use Rattle.family.proofs.Padding.{no_end_lem}
use Rattle.lengths.specs.declared.MessageLengths.{MessageLengths}
use Rattle.lengths.specs.Lengths.{lengths_values, lengths_outcome, lengths_refusal, lengths_for, lengths_in}
use Rattle.lengths.proofs.Laws.{none_refused}
use Rattle.dealer.specs.Split.{split_refusal, split_answer}
use Rattle.dealer.specs.SplitPadded.{split_padded_refusal, split_padded_answer}
use Rattle.scheme.specs.declared.forms.Form.{Form}
use Rattle.scheme.specs.declared.forms.Form.TheVariants.{Earlier, Padded}
use Rattle.dealer.specs.Forms.{blocks_in}
use Rattle.reader.specs.Reconstruct.{reconstruct_refusal, reconstruct_answer}
use Rattle.reader.specs.ReconstructPadded.{blocks_sent, opened_padded, reconstruct_padded_refusal, reconstruct_padded_answer}
use Rattle.sharing.specs.Calls.{split_lines}
use Rattle.sharing.specs.PaddedCalls.{split_padded_lines}
use Rattle.sharing.specs.Lengths.{opened_in, lengths_lines, LengthsAre, EveryLengths, LengthsWordsSettle, SplitsWith, OpensWith, Serves, LengthsServe}
use Rattle.sharing.proofs.Calls.{split_in_words}
use Rattle.sharing.proofs.PaddedCalls.{split_padded_in_words, padded_answered_by}

-- ---- in words

-- both forms are one definition, over N and what is opened
in-form : (form : Form) (p : Parameters) (message : ℕ) → lengths_in form p message ≡ lengths_for p message (blocks_in form p message) (opened_in form p message)
in-form Earlier p message = refl
in-form Padded p message = refl

module _ (form : Form) (p : Parameters) (message : ℕ) where
  tested : Tested (refusal p.n p.r p.z p.counts ∷ number_if 5 (ltb max_message message) ∷ []) (lengths_lines p message)
  tested = after-scheme p.n p.r p.z p.counts (line above end)

  module _ {a : Result MessageLengths Refusal} (e : lengths_outcome a ≡ lengths_in form p message) where
    -- the first refusal that is told
    first-told : {q : Refusal} → a ≡ Err q → FirstApplies (refusals.number q) (lengths_lines p message)
    unfolding lengths_for lengths_refusal
    first-told {q} told = refused-first tested _ (refusals.number q) _ (sym (ap lengths_outcome told) ∙ e ∙ in-form form p message)

    module _ {l : MessageLengths} (told : a ≡ Ok l) where
      none_told : NoneApplies (lengths_lines p message)
      unfolding lengths_for lengths_refusal
      none_told = accepted_none tested _ (lengths_values l) (sym (ap lengths_outcome told) ∙ e ∙ in-form form p message)

      told-values : (lengths_refusal p message ≡ 0) × LengthsAre form p message l
      unfolding lengths_for
      told-values =
          let v = answered_none _ _ _ (sym (ap lengths_outcome told) ∙ e ∙ in-form form p message) in
          let vs = v.1 in
          (v.0, record { blocks_is = cc vs; keys_is = cc vs; share_is = cc vs; output_is = cc vs; opened_is = cc vs })

  accepted_by : (a : Result MessageLengths Refusal) → lengths_outcome a ≡ lengths_in form p message → NoneApplies (lengths_lines p message) → (l : MessageLengths) × (a ≡ Ok l)
  accepted_by (Ok l) e n = (l, refl)
  accepted_by (Err q) e n = absurd (none_first (lengths_lines p message) (refusals.number q) n (first-told e refl))

  refused_by : (q : Refusal) (a : Result MessageLengths Refusal) → lengths_outcome a ≡ lengths_in form p message
      → FirstApplies (refusals.number q) (lengths_lines p message) → a ≡ Err q
  refused_by q (Ok l) e f = absurd (none_first (lengths_lines p message) (refusals.number q) (none_told e refl) f)
  refused_by q (Err k) e f =
      ap Err (number_same k q (first-once (lengths_lines p message) (refusals.number k) (refusals.number q) (first-told e refl) f))

pub lengths_in_words : (form : Form) (p : Parameters) → EveryLengths form p
lengths_in_words form p message a e =
    record {
      accepts = (λ told. none_told form p message e told.1, accepted_by form p message a e);
      refuses = λ q. (first-told form p message e, refused_by form p message q a e);
      values_are = λ l told. (told-values form p message e told).1;
    }

-- the words settle a call
abbrev made : ℕ → ℕ → ℕ → ℕ → ℕ → MessageLengths
made blocks keys share output opened = record { blocks = blocks; keys = keys; share = share; output = output; opened = opened }

one_lengths : {form : Form} {p : Parameters} {message : ℕ} (l l' : MessageLengths) → LengthsAre form p message l → LengthsAre form p message l' → l ≡ l'
one_lengths l l' L L' =
    let same : made l.blocks l.keys l.share l.output l.opened ≡ made l'.blocks l'.keys l'.share l'.output l'.opened = cc in
    same

pub lengths_words_settle : (form : Form) (p : Parameters) → LengthsWordsSettle form p
lengths_words_settle form p message (Ok l) (Ok l') W W' = ap Ok (one_lengths l l' (W.values_are l refl) (W'.values_are l' refl))
lengths_words_settle form p message (Err q) (Err k) W W' =
    ap Err
    (number_same q k (first-once (lengths_lines p message) (refusals.number q) (refusals.number k) ((W.refuses q).0 refl) ((W'.refuses k).0 refl)))
lengths_words_settle form p message (Ok l) (Err k) W W' =
    absurd (none_first (lengths_lines p message) (refusals.number k) (W.accepts.0 (l, refl)) ((W'.refuses k).0 refl))
lengths_words_settle form p message (Err q) (Ok l) W W' =
    absurd (none_first (lengths_lines p message) (refusals.number q) (W'.accepts.0 (l, refl)) ((W.refuses q).0 refl))

-- ---- the lengths serve

-- a test that is false is passed over
over : (q : ℕ) {t : Bool} (qs : List ℕ) → t ≡ false → first_of (number_if q t ∷ qs) ≡ first_of qs
over q {t} qs e = first-passed (number_if q t) qs (rw e)

still : (vs : List ℕ) {k k' : ℕ} → k ≡ k' → answer k vs ≡ answer k' vs
still vs e = ap (λ (k : ℕ). answer k vs) e

-- past the scheme and the message's length; the other tests are those of the slices
module _ (p : Parameters) (message : ℕ) (none : lengths_refusal p message ≡ 0) where
  past_five : (qs : List ℕ) → first_of (refusal p.n p.r p.z p.counts ∷ number_if 5 (ltb max_message message) ∷ qs) ≡ first_of qs
  past_five qs =
      let passed = none_refused p message none in
      first-passed _ _ passed.0 ∙ over 5 qs (le-ltb max_message message passed.1)

  module _ (parties : List ℕ) (counted : occurs (length parties) p.counts ≡ true) (rising : Rising 0 p.n parties) where
    past_seven : (qs : List ℕ) → first_of (number_if 6 (not (occurs (length parties) p.counts)) ∷ number_if 7 (readers_refused p.n parties) ∷ qs) ≡ first_of qs
    past_seven qs = over 6 _ (ap not counted) ∙ over 7 qs (readers_pass p.n parties rising)

-- a split of N blocks, in either form
module _ (form : Form) (p : Parameters) (message : ℕ) (l : MessageLengths) (none : lengths_refusal p message ≡ 0) (are : LengthsAre form p message l) where
  split-left : (keys out : ℕ) (a : Result ℕ Refusal)
      → let N : ℕ = blocks_in form p message in
      outcome a
      ≡ answer
      (first_of
      (refusal p.n p.r p.z p.counts
      ∷ number_if 5 (ltb max_message message)
      ∷ number_if 8 (not (eqb keys (key_bytes p N)))
      ∷ number_if 10 (not (eqb out (output_bytes p N)))
      ∷ []))
      (share_bytes p N ∷ [])
      → AnsweredBy (ground 8 (keys ≢ l.keys) ∷ ground 10 (out ≢ l.output) ∷ []) l.share a
  split-left keys out a e =
      rw (are.keys_is, are.output_is, are.share_is)
      (answered_by (line other (line other end)) _ a (e ∙ still _ (past_five p message none _)))

splits_with : (form : Form) (p : Parameters) (message : ℕ) (l : MessageLengths) → lengths_refusal p message ≡ 0 → LengthsAre form p message l → SplitsWith form p message l
unfolding split_answer split_refusal split_padded_answer split_padded_refusal
splits_with Earlier p message l none are text keys before a after long C = split-left Earlier p message l none are (length keys) (length before) a (rw long at C.0)
splits_with Padded p message l none are text keys before a after long C = split-left Padded p message l none are (length keys) (length before) a (rw long at C.0)

-- an opening from d parties and prefixes of N blocks
module _ (p : Parameters) (message : ℕ) (l : MessageLengths) (none : lengths_refusal p message ≡ 0) where
  opens-earlier : LengthsAre Earlier p message l → OpensWith Earlier p message l
  unfolding reconstruct_answer reconstruct_refusal prefix_bytes
  opens-earlier are parties prefixes before a after counted rising long C =
      let lent : length prefixes ≡ prefix_bytes p (length parties) (blocks_in Earlier p message) = rw (← are.blocks_is) long in
      let left = past_five p message none _ ∙ past_seven p message none parties counted rising _ ∙ over 9 _ (ap not (eq-eqb _ _ lent)) in
      rw (are.opened_is, lent) (answered_by (line other end) _ a (C.0 ∙ still _ left))

  -- the prefixes' length tells the blocks
  sent-told : (parties : List ℕ) → occurs (length parties) p.counts ≡ true → (prefixes : ℕ)
      → prefixes ≡ length parties * prefix_rows p (length parties) * padded_blocks_of p message → blocks_sent p (length parties) prefixes ≡ padded_blocks_of p message
  unfolding blocks_sent
  sent-told parties counted prefixes long =
      let passed = none_refused p message none in
      let unit : ℕ = length parties * prefix_rows p (length parties) in
      let N : ℕ = padded_blocks_of p message in
      ap (blocks_held (most_padded (block p)) unit) (long ∙ mul_comm unit N)
      ∙ held_of (most_padded (block p)) unit N (sent_some p passed.0 (length parties) counted) (padded_count_most (block p) message passed.1 (block_some p passed.0))

  opens-padded : LengthsAre Padded p message l → OpensWith Padded p message l
  unfolding reconstruct_padded_answer reconstruct_padded_refusal opened_padded
  opens-padded are parties prefixes before a after counted rising long C =
      let A = (none_refused p message none).0 in
      let N : ℕ = padded_blocks_of p message in
      let some : 0 < N = padded_count_positive (block p) message in
      let told : blocks_sent p (length parties) (length prefixes) ≡ N = sent-told parties counted (length prefixes) (rw are.blocks_is at long) in
      let left = first-passed _ _ A ∙ past_seven p message none parties counted rising _ ∙ over 9 _ (ne_eqb N 0 (λ e. omega arith)) in
      rw (are.opened_is, are.blocks_is)
      (padded_answered_by (line other (line (no_end_lem (block p) N (opened_string p parties N prefixes) some (block_some p A)) end)) _ _ a
      (rw told at C.0 ∙ still _ left))

opens_with : (form : Form) (p : Parameters) (message : ℕ) (l : MessageLengths) → lengths_refusal p message ≡ 0 → LengthsAre form p message l → OpensWith form p message l
opens_with Earlier = opens-earlier
opens_with Padded = opens-padded

-- where the lengths are refused so is a split, whose own lines come after
refused_alike : (form : Form) (p : Parameters) (message : ℕ) (q : Refusal) → lengths_outcome (Err q) ≡ lengths_in form p message → Serves form p message (Err q)
refused_alike Earlier p message q e text keys before a after long C =
    ((split_in_words p text keys before a after C).answered.refuses q).1
    (first-before (lengths_lines p (length text)) (drop 5 (split_lines p (length text) (length keys) (length before))) (refusals.number q) (rw (← long) at (first-told Earlier p message e refl)))
refused_alike Padded p message q e text keys before a after long C =
    ((split_padded_in_words p text keys before a after C).answered.refuses q).1
    (first-before (lengths_lines p (length text)) (drop 5 (split_padded_lines p (length text) (length keys) (length before))) (refusals.number q) (rw (← long) at (first-told Padded p message e refl)))

pub lengths_serve : (form : Form) (p : Parameters) → LengthsServe form p
lengths_serve form p message (Ok l) e =
    let told = told-values form p message e refl in
    (splits_with form p message l told.0 told.1, opens_with form p message l told.0 told.1)
lengths_serve form p message (Err q) e = refused_alike form p message q e

-- ---- the forms without a scheme

pub default_lengths_in_words : (form : Form) → EveryLengths form default_parameters
default_lengths_in_words form = lengths_in_words form default_parameters

pub default_lengths_serve : (form : Form) → LengthsServe form default_parameters
default_lengths_serve form = lengths_serve form default_parameters
