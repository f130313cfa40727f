-- Reading an archive: the test of a file, and the lookup of an entry by its number.
-- Assumes nothing.
use Rattle.std.specs.Prelude.{Bool, true, cond, not, ◌&&◌, ◌||◌, List, [], ◌∷◌, ℕ, zero, suc, ◌+◌, ◌*◌, ltb, leb, eqb, length, get_or, take, drop, Err, Ok, Result}
use Rattle.scheme.specs.declared.refusal.Refusal.{Refusal}
use Rattle.scheme.specs.Refusals as refusals
use Rattle.scheme.specs.Outcome.{Outcome, accepted, refused, number_if, first_of, answer}
use Rattle.archive.specs.declared.pairs.Pair.{Pair}
use Rattle.archive.specs.Format.{max_entries, head_bytes}

-- the number in the two bytes from a place on, the low byte first
unfoldable pub number_at : List ℕ → ℕ → ℕ
number_at file at = get_or file at 0 + 256 * get_or file (at + 1) 0

-- what the file says: how many entries it has, and of each its offset and its length
abbrev pub count_of : List ℕ → ℕ
count_of file = number_at file 0

abbrev pub offset_of : List ℕ → ℕ → ℕ
offset_of file i = number_at file (2 + 4 * i)

abbrev pub length_of : List ℕ → ℕ → ℕ
length_of file i = number_at file (4 + 4 * i)

-- where entry i has to start: right after the pairs, or where the entry before it ends. For i the count, it is where the file has to end
unfoldable pub start_of : List ℕ → ℕ → ℕ
start_of file zero = head_bytes (count_of file)
start_of file (suc i) = offset_of file i + length_of file i

-- 12: the count or a pair is cut short, or the count is above its limit
unfoldable pub cut_short : List ℕ → Bool
cut_short file = ltb (length file) 2 || ltb max_entries (count_of file) || ltb (length file) (head_bytes (count_of file))

-- the first n pairs keep the rules: each entry starts where it has to, and has at least one byte
unfoldable pub pairs_kept : List ℕ → ℕ → Bool
pairs_kept file zero = true
pairs_kept file (suc i) = pairs_kept file i && eqb (offset_of file i) (start_of file i) && ltb 0 (length_of file i)

-- 13: a pair or the file's end breaks the rules
unfoldable pub rules_broken : List ℕ → Bool
rules_broken file = not (pairs_kept file (count_of file) && eqb (start_of file (count_of file)) (length file))

-- ---- the test of a whole file, which answers how many entries it has

unfoldable pub file_refusal : List ℕ → ℕ
file_refusal file = first_of (number_if 12 (cut_short file) ∷ number_if 13 (rules_broken file) ∷ [])

unfoldable pub count_answer : List ℕ → Outcome
count_answer file = answer (file_refusal file) (count_of file ∷ [])

-- ---- the lookup, which tests the whole file first. 14: no entry has this number

unfoldable pub entry_refusal : List ℕ → ℕ → ℕ
entry_refusal file number =
    first_of
    (number_if 12 (cut_short file)
    ∷ number_if 13 (rules_broken file)
    ∷ number_if 14 (leb (count_of file) number)
    ∷ [])

-- the cases of the lookup's answer: the offset of the entry and its length
abbrev pub entry_outcome : Result Pair Refusal → Outcome
entry_outcome (Ok place) = accepted (place.offset ∷ place.length ∷ [])
entry_outcome (Err q) = refused (refusals.number q)

unfoldable pub place_answer : List ℕ → ℕ → Outcome
place_answer file number = answer (entry_refusal file number) (offset_of file number ∷ length_of file number ∷ [])

unfoldable pub entry_length_answer : List ℕ → ℕ → Outcome
entry_length_answer file number = answer (entry_refusal file number) (length_of file number ∷ [])

-- the entry itself, a part of the file; empty on a refusal
unfoldable pub entry_of : List ℕ → ℕ → List ℕ
entry_of file number = cond (eqb (entry_refusal file number) 0) (take (length_of file number) (drop (offset_of file number) file)) []

-- where in the file that part starts; at its beginning on a refusal
unfoldable pub entry_start : List ℕ → ℕ → ℕ
entry_start file number = cond (eqb (entry_refusal file number) 0) (offset_of file number) 0

-- a pointer that is moved by so many bytes within what it points into
abbrev pub moved : (ℕ × ℕ) → ℕ → ℕ × ℕ
moved pointer bytes = (pointer.0, bytes + pointer.1)
