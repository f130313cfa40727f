-- The number tried beside the check's answer: at each way out of the code, and in words.
-- Assumes nothing.
use mathlib.Core.Path.{◌≡◌, sym, ap, ◌∙◌}
use mathlib.Core.Logic.{inl, inr}
use mathlib.Core.List.{List, []}
use Prim.Native.Nat.{ℕ, ◌+◌, ◌-◌, ◌*◌, ◌/◌, ◌≤◌, ◌<◌}
use native.Mathlib.Nat.{div-mul-le_self, div-lt_iff_lt-mul}
use native.Mathlib.Omega.{arith}
use lib.ListN.{length, get_or, drop}
use borrow.Author.Tests.{ne_eqb}
use Rattle.std.specs.Prelude.{Result, Ok, Err}
use Rattle.scheme.specs.declared.TriedAnswer.{TriedAnswer}
use Rattle.scheme.specs.declared.refusal.Refusal.{Refusal}
use Rattle.scheme.specs.declared.refusal.Refusal.TheVariants.{BlockLength}
use Rattle.scheme.specs.declared.accepted.Scheme.{Scheme}
use Rattle.scheme.specs.Refusals as refusals
use Rattle.scheme.specs.Limits.{max_block, default_n, default_r, default_z, default_counts}
use Rattle.scheme.specs.Outcome.{Outcome, accepted, refused}
use Rattle.scheme.specs.SchemeOutcome.{scheme_outcome}
use Rattle.scheme.specs.BlockLength.{block_length}
use Rattle.scheme.specs.Check.{first, refusal, rows_of_count, checked}
use Rattle.scheme.specs.Grounds.{CountsWrong, BlockTooLong, FirstApplies, scheme_grounds}
use Rattle.scheme.specs.Tried.{beside, tried_outcome, tried_at, checked_tried, TriedBy}
use Rattle.scheme.proofs.Answers.{answer-number, scheme-told}
use Rattle.scheme.proofs.BlockLength.{least_above}
use Rattle.scheme.proofs.Multiples.{first_positive}
use Rattle.scheme.proofs.SchemeFacts as facts
use Rattle.scheme.proofs.Grounds.{check_answers}

-- a number beside an outcome says both
beside-number : {t t' : ℕ} {o o' : Outcome} → beside t o ≡ beside t' o' → t ≡ t'
beside-number e = ap (λ (o : Outcome). get_or o.values 0 0) e

beside-outcome : {t t' : ℕ} {o o' : Outcome} → beside t o ≡ beside t' o' → o ≡ o'
beside-outcome e = ap (λ (o : Outcome). record { number = o.number; values = drop 1 o.values }) e

module _ (n r z : ℕ) (ds : List ℕ) where
  at_none : {q : ℕ} → 0 < q → q < 4 → tried_at q z ds ≡ 0
  unfolding tried_at
  at_none {q} p l = rw (ne_eqb q 0 (λ e. omega arith), ne_eqb q 4 (λ e. omega arith))

  number_is : (checked n r z ds).number ≡ refusal n r z ds
  unfolding checked
  number_is = answer-number (refusal n r z ds) _

  -- where the refusal is q, 0 when accepted
  module _ {q : ℕ} {vs : List ℕ} (e : record { number = q; values = vs } ≡ checked n r z ds) where
    tried-beside : {t : ℕ} → t ≡ tried_at q z ds → beside t (record { number = q; values = vs }) ≡ checked_tried n r z ds
    unfolding checked_tried
    tried-beside t-is = cc (t-is, e, number_is, ap (λ (o : Outcome). o.number) e)

  -- the code's ways out: before the search, past the limit, and with m
  pub tried_none : {q : ℕ} → 0 < q → q < 4 → refused q ≡ checked n r z ds → beside 0 (refused q) ≡ checked_tried n r z ds
  tried_none p l e = tried-beside e (sym (at_none p l))

  pub tried_past : {t : ℕ} → t ≡ max_block / (first ds - z) → refused 4 ≡ checked n r z ds → beside t (refused 4) ≡ checked_tried n r z ds
  unfolding tried_at
  tried_past t-is e = tried-beside e t-is

  pub tried-found : {t b : ℕ} {vs : List ℕ} → b ≡ block_length z ds → t ≡ rows_of_count b z (first ds) → accepted vs ≡ checked n r z ds
      → beside t (accepted vs) ≡ checked_tried n r z ds
  unfolding tried_at
  tried-found b-is t-is e = tried-beside e (rw b-is at t-is)

  -- ---- in words

  -- where 4 is the first that applies, m is above the limit and there is a count
  long_told : FirstApplies 4 (scheme_grounds n r z ds) → (CountsWrong n r ds → ⊥) × BlockTooLong z ds
  long_told (inl a) = absurd (let no : ⊥ = omega (arith, a.1) in no)
  long_told (inr (x, inl a)) = absurd (let no : ⊥ = omega (arith, a.1) in no)
  long_told (inr (x, inr (y, inl a))) = absurd (let no : ⊥ = omega (arith, a.1) in no)
  long_told (inr (x, inr (y, inr (counts, inl a)))) = (counts, a.0)
  long_told (inr (x, inr (y, inr (counts, inr a)))) = absurd a.1

  step_positive : FirstApplies 4 (scheme_grounds n r z ds) → 0 < first ds - z
  step_positive f =
      let long = long_told f in
      let no-counts : length ds ≡ 0 → ⊥ = λ e. long.0 (inl e) in
      let some : 0 < length ds = omega arith in
      first_positive z ds some (least_above long.1.1)

  pub check-told : (a : TriedAnswer) → tried_outcome a ≡ checked_tried n r z ds → scheme_outcome a.answer ≡ checked n r z ds
  unfolding checked_tried
  check-told a e = beside-outcome e

  number-told : (q : ℕ) (vs : List ℕ) {t : ℕ} → beside t (record { number = q; values = vs }) ≡ checked_tried n r z ds → (t ≡ tried_at q z ds) × (q ≡ refusal n r z ds)
  unfolding checked_tried
  number-told q vs e =
      let is : q ≡ refusal n r z ds = ap (λ (o : Outcome). o.number) e ∙ number_is in
      (rw is (beside-number e), is)

  module _ (a : TriedAnswer) (e : tried_outcome a ≡ checked_tried n r z ds) where
    told-as : {b : Result Scheme Refusal} → a.answer ≡ b → beside a.tried (scheme_outcome b) ≡ checked_tried n r z ds
    told-as told = sym (ap (λ (b : Result Scheme Refusal). beside a.tried (scheme_outcome b)) told) ∙ e

    check-as : {b : Result Scheme Refusal} → a.answer ≡ b → scheme_outcome b ≡ checked n r z ds
    check-as told = sym (ap scheme_outcome told) ∙ check-told a e

    found-told : (s : Scheme) → a.answer ≡ Ok s → a.tried * (first ds - z) ≡ s.block
    unfolding tried_at
    found-told s told =
        let number = number-told 0 _ (told-as told) in
        let is = facts.accepted-scheme {s = s} (check-as told) in
        let whole = facts.accepted n r z ds is.passed in
        cc (number.0, is.block_is, whole.rows_of-count 0 whole.some)

    passed-told : a.answer ≡ Err BlockLength → (a.tried * (first ds - z) ≤ max_block) × (max_block < (a.tried + 1) * (first ds - z))
    unfolding tried_at
    passed-told told =
        let number = (number-told 4 [] (told-as told)).0 in
        let positive = step_positive (((check_answers n r z ds a.answer (check-told a e)).refuses BlockLength).0 told) in
        (rw number (div-mul-le_self max_block (first ds - z)), (div-lt_iff_lt-mul positive).0 (omega (arith, number)))

    none_told : (q : Refusal) → a.answer ≡ Err q → refusals.number q < 4 → a.tried ≡ 0
    none_told q told l =
        let number = number-told (refusals.number q) [] (told-as told) in
        let some = scheme-told n r z ds q (check-as told) in
        number.0 ∙ at_none (omega (arith, some.0, some.1)) l

    pub tried_answers : TriedBy n r z ds a
    tried_answers =
        record { check = check_answers n r z ds a.answer (check-told a e); found = found-told; passed = passed-told; none = none_told }

pub default_tried_answers : (a : TriedAnswer) → tried_outcome a ≡ checked_tried default_n default_r default_z default_counts
    → TriedBy default_n default_r default_z default_counts a
default_tried_answers = tried_answers default_n default_r default_z default_counts
