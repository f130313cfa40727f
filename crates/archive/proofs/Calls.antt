-- Every call on archives in words: each test of a call reflects the line of the table at its place, and what a call hands back or leaves follows from
-- its answer. And the words settle a call.
-- Assumes nothing.
use Rattle.std.specs.Prelude.{Result, Ok, Err}
use mathlib.Core.Path.{◌≡◌, refl, sym, ap, ◌∙◌}
use mathlib.Core.List.{List, [], ◌∷◌}
use Prim.Native.Nat.{ℕ}
use native.Mathlib.Omega.{arith}
use lib.Dec.{leb}
use lib.ListN.{length, drop, length-drop}
use lib.Seq.{length-take-le}
use Rattle.scheme.specs.declared.refusal.Refusal.{Refusal}
use Rattle.scheme.specs.Refusals as refusals
use Rattle.scheme.specs.Outcome.{accepted, refused, number_if}
use Rattle.scheme.specs.Grounds.{Ground, NoneApplies, FirstApplies}
use Rattle.scheme.proofs.Laws.{number_same, Tested, end, line, above, other, answered_by, none_first, first-once, accepted_none, refused-first, told-refused, kept}
use Rattle.sharing.proofs.Calls.{one_answer}
use Rattle.archive.specs.declared.pairs.Pair.{Pair}
use Rattle.archive.specs.Reading.{count_of, cut_short, rules_broken, file_refusal, count_answer, entry_refusal, entry_outcome, place_answer, entry_length_answer}
use Rattle.archive.specs.Writing.{write_refusal, write_answer, write_output, WriteCall}
use Rattle.archive.specs.Calls.{EveryCount, entry_lines, EntryAnsweredBy, EveryPlace, EveryLength, HandsBack, EveryEntry, Leaves, EveryWrite, ArchiveWordsSettle}
use Rattle.archive.proofs.Lookup.{no_part, offset_told, size-told, part-within, part_is}
use Rattle.archive.proofs.Written.{wrote}
use Rattle.archive.proofs.Lines.{cut_short_lem, rules_broken_lem, no_entry, would_break_lem}

-- ---- a file

-- lines 12 and 13
pub count_in_words : EveryCount
unfolding count_answer file_refusal
count_in_words file a e = answered_by (line (cut_short_lem file) (line (rules_broken_lem file) end)) _ a e

-- ---- an entry of it

module _ (file : List ℕ) (number : ℕ) where
  -- lines 12 to 14, of the place and of the length
  entry_tested : Tested (number_if 12 (cut_short file) ∷ number_if 13 (rules_broken file) ∷ number_if 14 (leb (count_of file) number) ∷ []) (entry_lines file number)
  entry_tested = line (cut_short_lem file) (line (rules_broken_lem file) (line (no_entry file number) end))

  -- a lookup answers a place only where no line applies, and a refusal only where it is that of the first that does
  placed : (o s : ℕ) → accepted (o ∷ s ∷ []) ≡ place_answer file number → NoneApplies (entry_lines file number)
  unfolding place_answer entry_refusal
  placed o s e = accepted_none entry_tested _ (o ∷ s ∷ []) e

  unplaced : (q : ℕ) → refused q ≡ place_answer file number → FirstApplies q (entry_lines file number)
  unfolding place_answer entry_refusal
  unplaced q e = refused-first entry_tested _ q _ e

  -- and the other way
  placed_by : (a : Result Pair Refusal) → entry_outcome a ≡ place_answer file number → NoneApplies (entry_lines file number) → (place : Pair) × (a ≡ Ok place)
  placed_by (Ok place) e n = (place, refl)
  placed_by (Err q) e n = absurd (none_first (entry_lines file number) (refusals.number q) n (unplaced (refusals.number q) e))

  unplaced_by : (q : Refusal) (a : Result Pair Refusal) → entry_outcome a ≡ place_answer file number
      → FirstApplies (refusals.number q) (entry_lines file number) → a ≡ Err q
  unplaced_by q (Ok place) e f = absurd (none_first (entry_lines file number) (refusals.number q) (placed place.offset place.length e) f)
  unplaced_by q (Err k) e f =
      ap Err (number_same k q (first-once (entry_lines file number) (refusals.number k) (refusals.number q) (unplaced (refusals.number k) e) f))

-- so it answers by its lines, with the offset and the length that the file says
pub place_in_words : EveryPlace
place_in_words file number a e =
    record {
      accepts = (λ told. placed file number (told.0).offset (told.0).length (sym (ap entry_outcome told.1) ∙ e), placed_by file number a e);
      refuses = λ q. (λ told. unplaced file number (refusals.number q) (sym (ap entry_outcome told) ∙ e), unplaced_by file number q a e);
      place_is = λ place told. (offset_told file number a e told, size-told file number a e told);
    }

-- the length alone, by the same lines
pub length_in_words : EveryLength
unfolding entry_length_answer entry_refusal
length_in_words file number a e = answered_by (entry_tested file number) _ a e

-- the entry lies within the file, so the part has as many bytes as was answered
pub entry_in_words : EveryEntry
entry_in_words file number (Ok place) part e is =
    let part-here = is ∙ sym (part_is file number (Ok place) e refl) in
    let within = part-within file number (Ok place) e refl in
    (part-here, ap length part-here ∙ length-take-le place.length (drop place.offset file) (rw length-drop (omega arith)))
entry_in_words file number (Err q) part e is = is ∙ sym (no_part file number (Err q) e refl)

-- ---- the writer

-- what it leaves, by its answer
leaves : (contents sizes before : List ℕ) (a : Result ℕ Refusal) (after : List ℕ) → WriteCall contents sizes before a after → Leaves contents sizes before a after
unfolding write_answer write_output
leaves contents sizes before (Ok bytes) after C = (wrote contents sizes before bytes after C).archive
leaves contents sizes before (Err q) after C = C.1 ∙ sym (kept _ (told-refused (Err q) _ _ C.0 refl))

-- lines 12, 13 and 10
pub write_in_words : EveryWrite
unfolding write_answer write_refusal
write_in_words contents sizes before a after C =
    record {
      answered = answered_by (line above (line (would_break_lem (length contents) sizes) (line other end))) _ a C.0;
      left = leaves contents sizes before a after C;
    }

-- ---- the words settle a call

abbrev pair_of : ℕ → ℕ → Pair
pair_of offset size = record { offset = offset; length = size }

-- no two lookups answer by the same lines and the same place
one_place : {grounds : List Ground} {offset size : ℕ} (a a' : Result Pair Refusal)
    → EntryAnsweredBy grounds offset size a → EntryAnsweredBy grounds offset size a' → a ≡ a'
one_place (Ok place) a' A A' =
    let found = A'.accepts.1 (A.accepts.0 (place, refl)) in
    let here = A.place_is place refl in
    let there = A'.place_is found.0 found.1 in
    let same : pair_of place.offset place.length ≡ pair_of (found.0).offset (found.0).length = cc (here.0, here.1, there.0, there.1) in
    ap Ok same ∙ sym found.1
one_place (Err q) a' A A' = sym ((A'.refuses q).1 ((A.refuses q).0 refl))

-- with one answer there are no two parts
one_part : (file : List ℕ) (a : Result Pair Refusal) (part part' : List ℕ) → HandsBack file a part → HandsBack file a part' → part ≡ part'
one_part file (Ok place) part part' H H' = H.0 ∙ sym H'.0
one_part file (Err q) part part' H H' = H ∙ sym H'

-- and no two outputs
one_output : (contents sizes before : List ℕ) (a : Result ℕ Refusal) (after after' : List ℕ)
    → Leaves contents sizes before a after → Leaves contents sizes before a after' → after ≡ after'
one_output contents sizes before (Ok bytes) after after' L L' = L.is ∙ sym L'.is
one_output contents sizes before (Err q) after after' L L' = L ∙ sym L'

-- so for each call
pub archive_words_settle : ArchiveWordsSettle
archive_words_settle =
    record {
      count = λ file. one_answer;
      place = λ file number. one_place;
      size = λ file number. one_answer;
      part = one_part;
      write =
          λ contents sizes before a a' after after' W W'.
          let same = one_answer a a' W.answered W'.answered in
          (same, one_output contents sizes before a after after' W.left (rw (← same) at W'.left));
    }
