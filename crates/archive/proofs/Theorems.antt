-- The statements of specs/Archives.antt, each of its type there.
-- Assumes nothing.
use mathlib.Core.Path.{◌≡◌, refl, sym, ap, ◌∙◌}
use mathlib.Core.List.{List, [], ◌∷◌, ◌++◌, map}
use Prim.Native.Nat.{ℕ}
use native.Mathlib.Omega.{arith}
use lib.ListN.{length, length-map}
use Rattle.lists.specs.Each.{Byte}
use Rattle.lists.specs.Table.{flat}
use Rattle.lists.proofs.Each.{each_append}
use Rattle.archive.specs.Format.{two_bytes, head_bytes, pairs, archive_of}
use Rattle.archive.specs.Archives.{Accepts, TestExact, OneReading, ArchiveBytes, ReadsArchive, WritesArchive, RoundTrip, WritesAll, OnlyArchive}
use Rattle.scheme.proofs.Laws.{answered_none}
use Rattle.archive.specs.Reading.{count_of, file_refusal, count_answer}
use Rattle.archive.proofs.TwoBytes.{number-bytes}
use Rattle.archive.proofs.Entries.{each_flat}
use Rattle.archive.proofs.Passing.{passed}
use Rattle.archive.proofs.Fits.{true_fit, pairs-bytes, fits_of}
use Rattle.archive.proofs.Found.{found_archive}
use Rattle.archive.proofs.Given.{gives, same_entries}
use Rattle.archive.proofs.Written.{wrote, wrote_all}

-- what acceptance tells: no refusal applies, and the count is the file's
accepts : (file : List ℕ) (count : ℕ) → Accepts file count → (file_refusal file ≡ 0) × (count ≡ count_of file)
unfolding count_answer
accepts file count told =
    let none = answered_none (file_refusal file) (count ∷ []) (count_of file ∷ []) (sym told) in
    (none.0, cc none.1)

-- the test passes exactly the archives
pub test_exact : TestExact
test_exact file bytes = (
  λ told. found_archive file bytes (passed file (accepts file told.0 told.1).0),
  λ found. (length found.0, (gives file found.0 found.1).count),
)

-- a file is the archive of one list of entries at most
pub one_reading : OneReading
one_reading file entries others a b = same_entries file file entries others a b refl (λ i h. refl)

-- the archive of entries of bytes is bytes: its count, its pairs and its entries are
pub archive_bytes : ArchiveBytes
unfolding archive_of two_bytes
archive_bytes entries can bytes =
    let sizes : List ℕ = map length entries in
    let head : ℕ = head_bytes (length entries) in
    let pairs-are = pairs-bytes head sizes (true_fit head sizes (fits_of entries can)) in
    rw length-map
    (number-bytes (length entries) (pairs head sizes ++ flat entries) (omega (arith, can.few))
    (each_append Byte (pairs head sizes) (flat entries) pairs-are (each_flat Byte entries bytes)))

-- reading an archive gives its entries
pub reads_archive : ReadsArchive
reads_archive = gives

-- an accepted call of the writer leaves the archive of what it was lent
pub writes_archive : WritesArchive
writes_archive = wrote

-- which reads back as what it was lent
pub round_trip : RoundTrip
round_trip contents sizes before bytes after call = gives after _ (wrote contents sizes before bytes after call).archive

-- and it accepts whatever has an archive
pub writes_all : WritesAll
writes_all = wrote_all

-- two files that pass and have the same entries are the same: each is the archive of its entries
pub only_archive : OnlyArchive
only_archive file other count bytes bytes' told told' same =
    let a = (test_exact file bytes).0 (count, told) in
    let b = (test_exact other bytes').0 (count, told') in
    let many = (accepts file count told).1 in
    let entries = same_entries file other a.0 b.0 a.1 b.1 (sym many ∙ (accepts other count told').1) (λ i h. same i (rw many h)) in
    a.1.is ∙ ap archive_of entries ∙ sym b.1.is
