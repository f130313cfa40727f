-- Writing an archive: the entries are lent end to end, with their lengths.
-- Assumes nothing.
use Rattle.std.specs.Prelude.{◌≡◌, Bool, true, cond, not, ◌&&◌, List, [], ◌∷◌, ℕ, ◌+◌, ltb, leb, eqb, length, take, drop, Result}
use Rattle.scheme.specs.declared.refusal.Refusal.{Refusal}
use Rattle.scheme.specs.Outcome.{Outcome, number_if, first_of, answer, outcome}
use Rattle.archive.specs.Format.{max_entries, max_number, head_bytes, archive_of}

-- all of these together
unfoldable pub total : List ℕ → ℕ
total [] = 0
total (size ∷ sizes) = size + total sizes

-- the contents cut into entries of these lengths
unfoldable pub cut : List ℕ → List ℕ → List (List ℕ)
cut [] contents = []
cut (size ∷ sizes) contents = take size contents ∷ cut sizes (drop size contents)

-- entries of these lengths, the first of which starts at this offset, have at least one byte each, and every offset and length fits two bytes
unfoldable pub lengths_fit : ℕ → List ℕ → Bool
lengths_fit offset [] = true
lengths_fit offset (size ∷ sizes) = ltb 0 size && leb size max_number && leb offset max_number && lengths_fit (offset + size) sizes

-- 13: the archive would break the rules, or the lengths do not add up to the contents, which have so many bytes
unfoldable pub would_break : ℕ → List ℕ → Bool
would_break contents sizes = not (lengths_fit (head_bytes (length sizes)) sizes && eqb (total sizes) contents)

-- the file's length
abbrev pub file_bytes : ℕ → List ℕ → ℕ
file_bytes contents sizes = head_bytes (length sizes) + contents

-- the first refusal that applies to contents of so many bytes, these lengths and an output of so many bytes
unfoldable pub write_refusal : ℕ → List ℕ → ℕ → ℕ
write_refusal contents sizes out =
    first_of
    (number_if 12 (ltb max_entries (length sizes))
    ∷ number_if 13 (would_break contents sizes)
    ∷ number_if 10 (not (eqb out (file_bytes contents sizes)))
    ∷ [])

unfoldable pub write_answer : ℕ → List ℕ → ℕ → Outcome
write_answer contents sizes out = answer (write_refusal contents sizes out) (file_bytes contents sizes ∷ [])

-- the output after the call: the archive of the entries, or what it held before where the call is refused
unfoldable pub write_output : List ℕ → List ℕ → List ℕ → List ℕ
write_output contents sizes before =
    cond (eqb (write_refusal (length contents) sizes (length before)) 0) (archive_of (cut sizes contents)) before

-- a call of the writer, as its contract has it: what it answers, and what an output that held `before` holds after it
abbrev pub WriteCall : List ℕ → List ℕ → List ℕ → Result ℕ Refusal → List ℕ → Type 0
WriteCall contents sizes before a after =
    (outcome a ≡ write_answer (length contents) sizes (length before)) × (after ≡ write_output contents sizes before)
