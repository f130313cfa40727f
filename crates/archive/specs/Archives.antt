-- What is proved of archives, over all files and all entries. The reader accepts exactly the files that are archives; reading an archive gives
-- its entries, every one, and what the writer wrote is the archive of what it was lent; no second archive has the same entries. A call is what its
-- contract says of its answer and of what it writes or hands back. proofs/Theorems.antt proves these.
-- Assumes nothing.
use Rattle.std.specs.Prelude.{◌≡◌, ◌↔◌, List, [], ◌∷◌, map, ℕ, ◌≤◌, ◌<◌, length, get_or, Ok, Result}
use Rattle.lists.specs.Each.{Each, Byte}
use Rattle.lists.specs.Table.{flat}
use Rattle.scheme.specs.declared.refusal.Refusal.{Refusal}
use Rattle.scheme.specs.Outcome.{accepted, refused}
use Rattle.archive.specs.Format.{Archivable, Archive, start_in, archive_of}
use Rattle.archive.specs.Reading.{count_answer, place_answer, entry_length_answer, entry_of}
use Rattle.archive.specs.Writing.{cut, WriteCall}

-- ---- the reader's test

-- `count` accepts this file, with so many entries
abbrev pub Accepts : List ℕ → ℕ → Type 0
Accepts file count = count_answer file ≡ accepted (count ∷ [])

-- it accepts exactly the files that are the archive of some entries
abbrev pub TestExact : Type 0
TestExact = (file : List ℕ) → Each Byte file → ((count : ℕ) × Accepts file count) ↔ ((entries : List (List ℕ)) × Archive entries file)

-- and those entries are the only ones that the file is the archive of
abbrev pub OneReading : Type 0
OneReading = (file : List ℕ) (entries others : List (List ℕ)) → Archive entries file → Archive others file → entries ≡ others

-- an archive of bytes is bytes
abbrev pub ArchiveBytes : Type 0
ArchiveBytes = (entries : List (List ℕ)) → Archivable entries → Each (λ entry. Each Byte entry) entries → Each Byte (archive_of entries)

-- ---- reading

-- the reader's calls on a file give these entries, and there is none beyond them
pub record Gives (file : List ℕ) (entries : List (List ℕ)) : Type 0 where
  pub count : Accepts file (length entries)
  pub part : (i : ℕ) → i < length entries → entry_of file i ≡ get_or entries i []
  pub size : (i : ℕ) → i < length entries → entry_length_answer file i ≡ accepted (length (get_or entries i []) ∷ [])
  pub place : (i : ℕ) → i < length entries → place_answer file i ≡ accepted (start_in entries i ∷ length (get_or entries i []) ∷ [])
  pub none : (i : ℕ) → length entries ≤ i → entry_length_answer file i ≡ refused 14
  pub no_place : (i : ℕ) → length entries ≤ i → place_answer file i ≡ refused 14
  pub no_part : (i : ℕ) → length entries ≤ i → entry_of file i ≡ []

abbrev pub ReadsArchive : Type 0
ReadsArchive = (file : List ℕ) (entries : List (List ℕ)) → Archive entries file → Gives file entries

-- ---- writing

-- an accepted call leaves the archive of the contents cut by the lengths, as long as it answers; the cut takes all of the contents, by the lengths
pub record Wrote (contents sizes : List ℕ) (bytes : ℕ) (after : List ℕ) : Type 0 where
  pub archive : Archive (cut sizes contents) after
  pub bytes_are : bytes ≡ length after
  pub lengths_are : map length (cut sizes contents) ≡ sizes
  pub contents_are : flat (cut sizes contents) ≡ contents

abbrev pub WritesArchive : Type 0
WritesArchive =
    (contents sizes before : List ℕ) (bytes : ℕ) (after : List ℕ) → WriteCall contents sizes before (Ok bytes) after → Wrote contents sizes bytes after

-- reading what was written gives the entries that were lent
abbrev pub RoundTrip : Type 0
RoundTrip =
    (contents sizes before : List ℕ) (bytes : ℕ) (after : List ℕ) → WriteCall contents sizes before (Ok bytes) after → Gives after (cut sizes contents)

-- the writer refuses no entries that have an archive, where the output has its length
abbrev pub WritesAll : Type 0
WritesAll =
    (entries : List (List ℕ)) (before : List ℕ) (a : Result ℕ Refusal) (after : List ℕ)
    → Archivable entries → length before ≡ length (archive_of entries)
    → WriteCall (flat entries) (map length entries) before a after
    → (a ≡ Ok (length (archive_of entries))) × (after ≡ archive_of entries)

-- ---- no second archive

-- two files that are accepted, with as many entries, and of which the lookup hands back the same entries, are the same file
abbrev pub OnlyArchive : Type 0
OnlyArchive =
    (file other : List ℕ) (count : ℕ) → Each Byte file → Each Byte other → Accepts file count → Accepts other count
    → ((i : ℕ) → i < count → entry_of file i ≡ entry_of other i)
    → file ≡ other
