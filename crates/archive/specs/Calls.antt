-- Demand 1 of the request in words for the archive's calls: the lines of the table that apply to a call in their order, what it answers by them, and
-- what it hands back or leaves. A call is what its contract says, so these are statements about every run of it, whatever it is given.
-- proofs/Calls.antt proves them.
-- Assumes nothing.
use Rattle.std.specs.Prelude.{◌≡◌, ◌⊎◌, ◌↔◌, ◌≢◌, List, [], ◌∷◌, ℕ, ◌+◌, ◌≤◌, ◌<◌, length, get_or, take, drop, Err, Ok, Result}
use Rattle.scheme.specs.declared.refusal.Refusal.{Refusal}
use Rattle.scheme.specs.Refusals as refusals
use Rattle.scheme.specs.Outcome.{outcome}
use Rattle.scheme.specs.Grounds.{Ground, ground, NoneApplies, FirstApplies, AnsweredBy}
use Rattle.archive.specs.declared.pairs.Pair.{Pair}
use Rattle.archive.specs.Format.{max_entries, max_number, head_bytes, Archive}
use Rattle.archive.specs.Reading.{count_of, offset_of, length_of, start_of, count_answer, entry_outcome, place_answer, entry_length_answer, entry_of}
use Rattle.archive.specs.Writing.{total, cut, WriteCall}

-- ---- a file

-- 12: the count is cut short, or above its limit, or a pair is cut short
abbrev pub CutShort : List ℕ → Type 0
CutShort file = (length file < 2) ⊎ (max_entries < count_of file) ⊎ (length file < head_bytes (count_of file))

-- 13: an entry does not start where it has to, or has no byte, or the file does not end where the last entry does (and without entries where its
-- count does)
abbrev pub BreaksRules : List ℕ → Type 0
BreaksRules file =
    ((i : ℕ) × (i < count_of file) × (offset_of file i ≢ start_of file i))
    ⊎ ((i : ℕ) × (i < count_of file) × (length_of file i ≡ 0))
    ⊎ (length file ≢ start_of file (count_of file))

abbrev pub file_lines : List ℕ → List Ground
file_lines file = ground 12 (CutShort file) ∷ ground 13 (BreaksRules file) ∷ []

-- the test of a file answers how many entries it has
abbrev pub EveryCount : Type 0
EveryCount = (file : List ℕ) (a : Result ℕ Refusal) → outcome a ≡ count_answer file → AnsweredBy (file_lines file) (count_of file) a

-- ---- an entry of it

abbrev pub entry_lines : List ℕ → ℕ → List Ground
entry_lines file number = ground 12 (CutShort file) ∷ ground 13 (BreaksRules file) ∷ ground 14 (count_of file ≤ number) ∷ []

-- a lookup, whose answer has two numbers: accepted exactly if no ground applies, with this offset and this length
pub record EntryAnsweredBy (grounds : List Ground) (offset size : ℕ) (a : Result Pair Refusal) : Type 0 where
  pub accepts : ((place : Pair) × (a ≡ Ok place)) ↔ NoneApplies grounds
  pub refuses : (q : Refusal) → (a ≡ Err q) ↔ FirstApplies (refusals.number q) grounds
  pub place_is : (place : Pair) → a ≡ Ok place → (place.offset ≡ offset) × (place.length ≡ size)

abbrev pub EveryPlace : Type 0
EveryPlace =
    (file : List ℕ) (number : ℕ) (a : Result Pair Refusal) → entry_outcome a ≡ place_answer file number
    → EntryAnsweredBy (entry_lines file number) (offset_of file number) (length_of file number) a

abbrev pub EveryLength : Type 0
EveryLength =
    (file : List ℕ) (number : ℕ) (a : Result ℕ Refusal) → outcome a ≡ entry_length_answer file number
    → AnsweredBy (entry_lines file number) (length_of file number) a

-- the part that is handed back: as many bytes as was answered, from the offset on; empty on a refusal
abbrev pub HandsBack : List ℕ → Result Pair Refusal → List ℕ → Type 0
HandsBack file (Ok place) part = (part ≡ take place.length (drop place.offset file)) × (length part ≡ place.length)
HandsBack file (Err q) part = part ≡ []

abbrev pub EveryEntry : Type 0
EveryEntry =
    (file : List ℕ) (number : ℕ) (a : Result Pair Refusal) (part : List ℕ) → entry_outcome a ≡ place_answer file number → part ≡ entry_of file number
    → HandsBack file a part

-- ---- the writer

-- 13: an entry would have no byte, or be longer than two bytes can say, or start farther back than that; or the lengths do not add up to the contents
abbrev pub WouldBreak : ℕ → List ℕ → Type 0
WouldBreak contents sizes =
    ((i : ℕ) × (i < length sizes) × (get_or sizes i 0 ≡ 0))
    ⊎ ((i : ℕ) × (i < length sizes) × (max_number < get_or sizes i 0))
    ⊎ ((i : ℕ) × (i < length sizes) × (max_number < head_bytes (length sizes) + total (take i sizes)))
    ⊎ (total sizes ≢ contents)

-- contents of so many bytes, these lengths, and an output of so many bytes
abbrev pub write_lines : ℕ → List ℕ → ℕ → List Ground
write_lines contents sizes out =
    ground 12 (max_entries < length sizes)
    ∷ ground 13 (WouldBreak contents sizes)
    ∷ ground 10 (out ≢ head_bytes (length sizes) + contents)
    ∷ []

-- the output: the archive of the contents cut by the lengths, or what was there
abbrev pub Leaves : List ℕ → List ℕ → List ℕ → Result ℕ Refusal → List ℕ → Type 0
Leaves contents sizes before (Ok bytes) after = Archive (cut sizes contents) after
Leaves contents sizes before (Err q) after = after ≡ before

-- it answers the file's length
pub record WriteInWords (contents sizes before : List ℕ) (a : Result ℕ Refusal) (after : List ℕ) : Type 0 where
  pub answered : AnsweredBy (write_lines (length contents) sizes (length before)) (head_bytes (length sizes) + length contents) a
  pub left : Leaves contents sizes before a after

abbrev pub EveryWrite : Type 0
EveryWrite =
    (contents sizes before : List ℕ) (a : Result ℕ Refusal) (after : List ℕ) → WriteCall contents sizes before a after → WriteInWords contents sizes before a after

-- ---- the words settle a call: two that fit them, given the same, answered and left the same

pub record ArchiveWordsSettle : Type 0 where
  pub count : (file : List ℕ) (a a' : Result ℕ Refusal) → AnsweredBy (file_lines file) (count_of file) a → AnsweredBy (file_lines file) (count_of file) a' → a ≡ a'
  pub place : (file : List ℕ) (number : ℕ) (a a' : Result Pair Refusal)
      → EntryAnsweredBy (entry_lines file number) (offset_of file number) (length_of file number) a
      → EntryAnsweredBy (entry_lines file number) (offset_of file number) (length_of file number) a'
      → a ≡ a'
  pub size : (file : List ℕ) (number : ℕ) (a a' : Result ℕ Refusal)
      → AnsweredBy (entry_lines file number) (length_of file number) a → AnsweredBy (entry_lines file number) (length_of file number) a' → a ≡ a'
  pub part : (file : List ℕ) (a : Result Pair Refusal) (part part' : List ℕ) → HandsBack file a part → HandsBack file a part' → part ≡ part'
  pub write : (contents sizes before : List ℕ) (a a' : Result ℕ Refusal) (after after' : List ℕ)
      → WriteInWords contents sizes before a after → WriteInWords contents sizes before a' after' → (a ≡ a') × (after ≡ after')
