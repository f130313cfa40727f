-- Every call in words: each test of a call reflects the line of document 01's table at its place, and what a call leaves follows from its answer. And
-- the words settle a call.
-- Assumes nothing.
use Rattle.std.specs.Prelude.{Err, Ok, Result}
use mathlib.Core.Path.{◌≡◌, refl, sym, ap, ◌∙◌}
use mathlib.Core.List.{List}
use Prim.Native.Nat.{ℕ}
use native.Mathlib.Omega.{arith}
use lib.ListN.{length}
use Rattle.scheme.specs.declared.refusal.Refusal.{Refusal}
use Rattle.scheme.specs.Outcome.{outcome}
use Rattle.scheme.specs.Grounds.{Ground, AnsweredBy}
use Rattle.scheme.proofs.Laws.{end, line, above, other, no_count_lem, not-rising, after-scheme, answered_by, told-accepted, told-refused, kept}
use Rattle.staircase.specs.Parameters.{Parameters, default_parameters}
use Rattle.staircase.specs.Exactness.{prefix_bytes}
use Rattle.dealer.specs.Split.{split_refusal, split_answer}
use Rattle.party.specs.Prefix.{prefix_refusal, prefix_length, prefix_answer, prefix_of}
use Rattle.party.proofs.Laws.{prefix_whole}
use Rattle.reader.specs.Basis.{basis_refusal, basis_answer, basis_of}
use Rattle.reader.specs.Reconstruct.{reconstruct_refusal, reconstruct_answer}
use Rattle.reader.proofs.Laws.{basis_for, basis-zero, basis_for_unique, all_zero_unique}
use Rattle.sharing.specs.Secrecy.{Wrote}
use Rattle.sharing.specs.Opening.{Opens}
use Rattle.sharing.specs.Calls.{EverySplit, HandsBack, EveryPrefix, Tabulates, EveryBasis, EveryReconstruct, WordsSettle}
use Rattle.sharing.proofs.Secrecy.{call_wrote}
use Rattle.sharing.proofs.Opening.{exact_calls}

pub split_in_words : (p : Parameters) → EverySplit p
unfolding split_answer split_refusal
split_in_words p message keys before a after C =
    record {
      answered = answered_by (after-scheme p.n p.r p.z p.counts (line above (line other (line other end)))) _ a C.0;
      wrote = call_wrote p message keys before a after C;
    }

-- ---- prefix

hands_back : (p : Parameters) (message d : ℕ) (share : List ℕ) (a : Result ℕ Refusal) → outcome a ≡ prefix_answer p message d (length share)
    → HandsBack share a (prefix_of p message d share)
unfolding prefix_answer prefix_of
hands_back p message d share (Ok bytes) e =
    let told = told-accepted (Ok bytes) _ _ e refl in
    (rw (told.0, told.1), prefix_whole p message d share told.0 ∙ sym told.1)
hands_back p message d share (Err q) e = sym (kept _ (told-refused (Err q) _ _ e refl))

pub prefix_in_words : (p : Parameters) → EveryPrefix p
unfolding prefix_answer prefix_refusal prefix_length
prefix_in_words p message d share a part e is =
    record {
      answered = answered_by (after-scheme p.n p.r p.z p.counts (line above (line (no_count_lem d p.counts) (line other end)))) _ a e;
      part_is = rw is (hands_back p message d share a e);
    }

-- ---- basis

tabulates : (p : Parameters) (parties : List ℕ) (a : Result ℕ Refusal) → outcome a ≡ basis_answer p parties → Tabulates p parties a (basis_of p parties)
unfolding basis_answer
tabulates p parties (Ok d) e = basis_for p parties (told-accepted (Ok d) _ _ e refl).0
tabulates p parties (Err q) e = basis-zero p parties (λ none. omega (arith, told-refused (Err q) _ _ e refl))

pub basis_in_words : (p : Parameters) → EveryBasis p
unfolding basis_answer basis_refusal
basis_in_words p parties a table e is =
    record {
      answered = answered_by (after-scheme p.n p.r p.z p.counts (line (no_count_lem (length parties) p.counts) (line (not-rising p.n parties) end))) _ a e;
      table_is = rw is (tabulates p parties a e);
    }

-- ---- reconstruct

pub reconstruct_in_words : (p : Parameters) → EveryReconstruct p
unfolding reconstruct_answer reconstruct_refusal prefix_bytes
reconstruct_in_words p message parties prefixes before a after bytes C =
    record {
      answered =
          answered_by
          (after-scheme p.n p.r p.z p.counts
          (line above (line (no_count_lem (length parties) p.counts) (line (not-rising p.n parties) (line other (line other end)))))) _ a C.0;
      wrote = exact_calls p message parties prefixes before a after bytes C;
    }

-- ---- the forms without a scheme

pub default_split_in_words : EverySplit default_parameters
default_split_in_words = split_in_words default_parameters

pub default_prefix_in_words : EveryPrefix default_parameters
default_prefix_in_words = prefix_in_words default_parameters

pub default_basis_in_words : EveryBasis default_parameters
default_basis_in_words = basis_in_words default_parameters

pub default_reconstruct_in_words : EveryReconstruct default_parameters
default_reconstruct_in_words = reconstruct_in_words default_parameters

-- ---- the words settle a call

-- no two answers fit the same lines and value
pub one_answer : {grounds : List Ground} {v : ℕ} (a a' : Result ℕ Refusal) → AnsweredBy grounds v a → AnsweredBy grounds v a' → a ≡ a'
one_answer (Ok w) a' A A' =
    let other = A'.accepts.1 (A.accepts.0 (w, refl)) in
    ap Ok (A.value_is w refl ∙ sym (A'.value_is other.0 other.1)) ∙ sym other.1
one_answer (Err q) a' A A' = sym ((A'.refuses q).1 ((A.refuses q).0 refl))

-- and with one answer, no two outputs
one_split : (p : Parameters) (message keys before : List ℕ) (a : Result ℕ Refusal) (after after' : List ℕ)
    → Wrote p message keys before a after → Wrote p message keys before a after' → after ≡ after'
one_split p message keys before (Ok bytes) after after' W W' = W.0 ∙ sym W'.0
one_split p message keys before (Err q) after after' W W' = W ∙ sym W'

pub one_part : (share : List ℕ) (a : Result ℕ Refusal) (part part' : List ℕ) → HandsBack share a part → HandsBack share a part' → part ≡ part'
one_part share (Ok bytes) part part' H H' = H.0 ∙ sym H'.0
one_part share (Err q) part part' H H' = H ∙ sym H'

one_table : (p : Parameters) (parties : List ℕ) (a : Result ℕ Refusal) (table table' : List (List ℕ))
    → Tabulates p parties a table → Tabulates p parties a table' → table ≡ table'
one_table p parties (Ok d) table table' T T' = basis_for_unique T T'
one_table p parties (Err q) table table' T T' = all_zero_unique T T'

one_opening : (p : Parameters) (message : ℕ) (parties prefixes before : List ℕ) (a : Result ℕ Refusal) (after after' : List ℕ)
    → Opens p message parties prefixes before a after → Opens p message parties prefixes before a after' → after ≡ after'
one_opening p message parties prefixes before (Ok used) after after' O O' = O.output ∙ sym O'.output
one_opening p message parties prefixes before (Err q) after after' O O' = O ∙ sym O'

pub words_settle : (p : Parameters) → WordsSettle p
words_settle p =
    record {
      split =
          λ message keys before a a' after after' S S'.
          let same = one_answer a a' S.answered S'.answered in
          (same, one_split p message keys before a after after' S.wrote (rw (← same) at S'.wrote));
      prefix =
          λ message d share a a' part part' P P'.
          let same = one_answer a a' P.answered P'.answered in
          (same, one_part share a part part' P.part_is (rw (← same) at P'.part_is));
      basis =
          λ parties a a' table table' B B'.
          let same = one_answer a a' B.answered B'.answered in
          (same, one_table p parties a table table' B.table_is (rw (← same) at B'.table_is));
      reconstruct =
          λ message parties prefixes before a a' after after' R R'.
          let same = one_answer a a' R.answered R'.answered in
          (same, one_opening p message parties prefixes before a after after' R.wrote (rw (← same) at R'.wrote));
    }
