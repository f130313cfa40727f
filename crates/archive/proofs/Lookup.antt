-- What a lookup answers, by what the test of the file answered, and what the part is that it hands back.
-- Assumes nothing.
use Rattle.std.specs.Prelude.{Result, Ok, Err}
use mathlib.Core.Path.{◌≡◌, sym, ap, ◌∙◌}
use mathlib.Core.List.{List, [], ◌∷◌}
use Prim.Native.Nat.{ℕ, ◌+◌, ◌-◌, ◌≤◌, ◌<◌}
use native.Mathlib.Nat.{zero-add}
use native.Mathlib.Omega.{arith}
use lib.Dec.{leb}
use lib.ListN.{length, take, drop}
use borrow.Author.Tests.{ne_eqb, le-leb, lt-leb, leb-false}
use Rattle.scheme.specs.declared.refusal.Refusal.{Refusal}
use Rattle.scheme.specs.Refusals as refusals
use Rattle.scheme.specs.Outcome.{accepted, refused, outcome, answer}
use Rattle.scheme.proofs.Laws.{answers, answer_none, answered_none, answered_some, done, stop, pass, stop_true, pass_false, told-accepted, kept, first_none, first_if}
use Rattle.archive.specs.declared.pairs.Pair.{Pair}
use Rattle.archive.specs.Format.{max_entries, head_bytes}
use Rattle.archive.specs.Pairs.{PairIs}
use Rattle.archive.specs.Reading.{count_of, offset_of, length_of, file_refusal, count_answer, entry_refusal, entry_outcome, place_answer, entry_length_answer, entry_of, entry_start, moved}
use Rattle.archive.proofs.Passing.{passed, entry_first, entry-within}

-- ---- by the answer of the test of the file

module _ (file : List ℕ) (number : ℕ) (a : Result ℕ Refusal) (e : outcome a ≡ count_answer file) where
  pub file-refused : {q : Refusal} → a ≡ Err q → refused (refusals.number q) ≡ place_answer file number
  unfolding count_answer place_answer
  file-refused {q} told =
      let known = answered_some (file_refusal file) (refusals.number q) (count_of file) [] (sym (ap outcome told) ∙ e) in
      rw (entry_first, ← known.0) (answers (stop known.1))

  module _ {count : ℕ} (told : a ≡ Ok count) where
    pub file-passed : (file_refusal file ≡ 0) × (count ≡ count_of file)
    unfolding count_answer
    file-passed = told-accepted a (file_refusal file) (count_of file) e told

    pub no_entry : count ≤ number → refused 14 ≡ place_answer file number
    unfolding place_answer
    no_entry beyond = rw entry_first (answers (pass file-passed.0 (stop_true (le-leb (count_of file) number (rw file-passed.1 at beyond)))))

    module _ (below : number < count) where
      -- the pair stands in the file
      pub pair_within : (number < max_entries) × (head_bytes number + 4 ≤ length file)
      pair_within =
          let p = passed file file-passed.0 in
          (omega (arith, p.few, file-passed.1), omega (arith, p.head, file-passed.1))

      pub entry_here : {pair : Pair} → PairIs file number pair → accepted (pair.offset ∷ pair.length ∷ []) ≡ place_answer file number
      unfolding place_answer
      entry_here is =
          rw (is.offset_is, is.length_is, entry_first) (answers (pass file-passed.0 (pass_false 14 (lt-leb (count_of file) number (rw file-passed.1 at below)) done)))

-- ---- by the answer of the lookup

module _ (file : List ℕ) (number : ℕ) (a : Result Pair Refusal) (e : entry_outcome a ≡ place_answer file number) where
  module _ {q : Refusal} (told : a ≡ Err q) where
    entry-refused : (entry_refusal file number ≡ refusals.number q) × (0 < entry_refusal file number)
    unfolding place_answer
    entry-refused = answered_some (entry_refusal file number) (refusals.number q) (offset_of file number) _ (sym (ap entry_outcome told) ∙ e)

    pub length-refused : refused (refusals.number q) ≡ entry_length_answer file number
    unfolding entry_length_answer answer
    length-refused = rw (ne_eqb (entry_refusal file number) 0 (λ none. omega (arith, entry-refused.1)), entry-refused.0)

    pub no_part : [] ≡ entry_of file number
    unfolding entry_of
    no_part = kept _ entry-refused.1

    pub at-start : (pointer : ℕ × ℕ) → pointer ≡ moved pointer (entry_start file number)
    unfolding entry_start
    at-start pointer =
        let none : 0 ≡ entry_start file number = kept _ entry-refused.1 in
        ap (λ (n : ℕ). (pointer.0, n)) (sym (zero-add pointer.1)) ∙ ap (λ (n : ℕ). moved pointer n) none

  module _ {place : Pair} (told : a ≡ Ok place) where
    entry-accepted : (entry_refusal file number ≡ 0) × (place.offset ∷ place.length ∷ [] ≡ offset_of file number ∷ length_of file number ∷ [])
    unfolding place_answer
    entry-accepted = answered_none (entry_refusal file number) (place.offset ∷ place.length ∷ []) _ (sym (ap entry_outcome told) ∙ e)

    pub offset_told : place.offset ≡ offset_of file number
    offset_told = cc entry-accepted.1

    pub size-told : place.length ≡ length_of file number
    size-told = cc entry-accepted.1

    pub length-told : accepted (place.length ∷ []) ≡ entry_length_answer file number
    unfolding entry_length_answer
    length-told = rw size-told (sym (answer_none _ _ entry-accepted.0))

    pub part-within : place.offset + place.length ≤ length file
    part-within =
        let passes = first_none (file_refusal file) _ (sym (entry_first file number) ∙ entry-accepted.0) in
        let found = first_if 13 (leb (count_of file) number) [] passes.1 in
        rw (offset_told, size-told) (entry-within file number passes.0 (leb-false _ _ found.0))

    -- the part of this length from the place.offset on
    pub part_is : take place.length (drop place.offset file) ≡ entry_of file number
    unfolding entry_of
    part_is = rw (entry-accepted.0, offset_told, size-told)

    -- as the code cuts it, between the place.offset and the entry's end
    pub part-told : take (place.offset + place.length - place.offset) (drop place.offset file) ≡ entry_of file number
    part-told =
        let long : place.offset + place.length - place.offset ≡ place.length = omega arith in
        rw long part_is

    pub start-told : (pointer : ℕ × ℕ) → moved pointer place.offset ≡ moved pointer (entry_start file number)
    unfolding entry_start
    start-told pointer = rw (entry-accepted.0, offset_told)
