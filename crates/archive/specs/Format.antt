-- The archive, document 02 b's bundle: one file of many entries (items), shares of at least one byte each. A count, for each entry a pair of its
-- offset and its length, and the entries end to end. All numbers have two bytes, the low byte first; offsets count from the file's start.
-- Assumes nothing.
use Rattle.std.specs.Prelude.{◌≡◌, List, [], ◌∷◌, ◌++◌, map, ℕ, ◌+◌, ◌*◌, ◌/◌, ◌%◌, ◌≤◌, ◌<◌, length, take}
use Rattle.lists.specs.Each.{Each}
use Rattle.lists.specs.Table.{flat}

-- the most entries of an archive
abbrev pub max_entries : ℕ
max_entries = 4096

-- the greatest number of two bytes
abbrev pub max_number : ℕ
max_number = 65535

-- a number in two bytes, the low byte first
unfoldable pub two_bytes : ℕ → List ℕ
two_bytes number = number % 256 ∷ number / 256 ∷ []

-- the bytes before the entries, of which there are so many: the count and the pairs
abbrev pub head_bytes : ℕ → ℕ
head_bytes count = 2 + 4 * count

-- the pairs of entries of these lengths, the first of which starts at this offset: each next one starts where the one before ends
unfoldable pub pairs : ℕ → List ℕ → List ℕ
pairs offset [] = []
pairs offset (size ∷ sizes) = two_bytes offset ++ two_bytes size ++ pairs (offset + size) sizes

-- the count and the pairs of entries of these lengths; the first entry starts right after them
abbrev pub head_of : List ℕ → List ℕ
head_of sizes = two_bytes (length sizes) ++ pairs (head_bytes (length sizes)) sizes

-- the bytes of the archive of these entries; the last one ends the file
unfoldable pub archive_of : List (List ℕ) → List ℕ
archive_of entries = head_of (map length entries) ++ flat entries

-- where entry i starts: after the head and the entries before it
abbrev pub start_in : List (List ℕ) → ℕ → ℕ
start_in entries i = head_bytes (length entries) + length (flat (take i entries))

-- the lists of entries that have an archive: not too many, each of at least one byte, and every offset and length fits two bytes
pub record Archivable (entries : List (List ℕ)) : Type 0 where
  pub few : length entries ≤ max_entries
  pub some : Each (λ entry. 1 ≤ length entry) entries
  pub lengths_fit_lem : Each (λ entry. length entry ≤ max_number) entries
  pub offsets_fit : (i : ℕ) → i < length entries → start_in entries i ≤ max_number

-- this file is the archive of these entries
pub record Archive (entries : List (List ℕ)) (file : List ℕ) : Type 0 where
  pub archivable : Archivable entries
  pub is : file ≡ archive_of entries
