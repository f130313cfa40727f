-- Writing: what an accepted call leaves, and that entries which have an archive are accepted.
-- Assumes nothing.
use Rattle.std.specs.Prelude.{Result, Ok, Err}
use mathlib.Core.Path.{◌≡◌, refl, sym, ap, ◌∙◌}
use mathlib.Core.Bool.{not}
use mathlib.Core.List.{List, [], ◌∷◌, map}
use Prim.Native.Nat.{ℕ, ◌≤◌}
use native.Mathlib.Nat.{le_of_eq}
use native.Mathlib.Omega.{arith}
use lib.Dec.{ltb, eqb}
use lib.ListN.{length, length-map}
use borrow.Author.Tests.{ltb-false, eqb-true, not-false, le-ltb, eq-eqb}
use Rattle.lists.specs.Table.{flat}
use Rattle.scheme.specs.declared.refusal.Refusal.{Refusal}
use Rattle.scheme.specs.Outcome.{first_of, answer, outcome}
use Rattle.scheme.proofs.Laws.{first_if, told-accepted, told-refused}
use Rattle.archive.specs.Format.{max_entries, head_bytes, archive_of, Archivable}
use Rattle.archive.specs.Writing.{total, cut, would_break, file_bytes, write_refusal, write_answer, write_output, WriteCall}
use Rattle.archive.specs.Archives.{Wrote}
use Rattle.archive.proofs.Entries.{length-flat, cut-flat, lengths-cut, flat-cut}
use Rattle.archive.proofs.Lengths.{unbroken}
use Rattle.archive.proofs.Laid.{length-laid, archive_laid}
use Rattle.archive.proofs.Fits.{Fits, fit_true, fits_unbroken, fits_of, cut_archive}

-- what the writer's test asks of contents of so many bytes, these lengths and an output of so many bytes
record Accepted (contents : ℕ) (sizes : List ℕ) (out : ℕ) : Type 0 where
  few : length sizes ≤ max_entries
  fits : Fits (head_bytes (length sizes)) sizes
  whole : total sizes ≡ contents
  room : out ≡ file_bytes contents sizes

module _ (contents : ℕ) (sizes : List ℕ) (out : ℕ) where
  -- it passes exactly where these hold
  accepted_of : write_refusal contents sizes out ≡ 0 → Accepted contents sizes out
  unfolding write_refusal would_break
  accepted_of e =
      let twelve = first_if 11 (ltb max_entries (length sizes)) _ e in
      let thirteen = first_if 12 (would_break contents sizes) _ twelve.1 in
      let ten = first_if 9 (not (eqb out (file_bytes contents sizes))) [] thirteen.1 in
      let rules = unbroken sizes contents thirteen.0 in
      record {
        few = ltb-false max_entries (length sizes) twelve.0;
        fits = fit_true _ sizes rules.0;
        whole = rules.1;
        room = eqb-true _ _ (not-false _ ten.0);
      }

  of_accepted : Accepted contents sizes out → write_refusal contents sizes out ≡ 0
  unfolding write_refusal first_of
  of_accepted h = simp (le-ltb max_entries (length sizes) h.few, fits_unbroken contents sizes h.fits h.whole, eq-eqb _ _ h.room)

-- an accepted call's output
output_is : (contents sizes before : List ℕ) → write_refusal (length contents) sizes (length before) ≡ 0
    → write_output contents sizes before ≡ archive_of (cut sizes contents)
unfolding write_output
output_is contents sizes before e = rw e

-- what it has written
pub wrote : (contents sizes before : List ℕ) (bytes : ℕ) (after : List ℕ)
    → WriteCall contents sizes before (Ok bytes) after → Wrote contents sizes bytes after
unfolding write_answer
wrote contents sizes before bytes after call =
    let told = told-accepted (Ok bytes) _ _ call.0 refl in
    let h = accepted_of (length contents) sizes (length before) told.0 in
    let archive = cut_archive sizes contents h.few h.fits h.whole in
    let is : after ≡ archive_of (cut sizes contents) = call.1 ∙ output_is contents sizes before told.0 in
    record {
      archive = record { archivable = archive.archivable; is = is };
      bytes_are = told.1 ∙ sym (ap length (is ∙ sym archive.is) ∙ length-laid sizes contents);
      lengths_are = lengths-cut sizes contents (le_of_eq h.whole);
      contents_are = flat-cut sizes contents h.whole;
    }

-- ---- entries that have an archive

-- a call that refuses nothing answers its value
value_of : (a : Result ℕ Refusal) (k v : ℕ) → outcome a ≡ answer k (v ∷ []) → k ≡ 0 → a ≡ Ok v
value_of (Ok w) k v e none = ap Ok (told-accepted (Ok w) k v e refl).1
value_of (Err q) k v e none = absurd (let no : ⊥ = omega (arith, told-refused (Err q) k v e refl) in no)

module _ (entries : List (List ℕ)) where
  -- their archive is as long as the writer says
  archive_long : length (archive_of entries) ≡ file_bytes (length (flat entries)) (map length entries)
  archive_long = rw archive_laid (length-laid (map length entries) (flat entries))

  -- the test passes, into an output of that length
  none_refused : (out : ℕ) → Archivable entries → out ≡ length (archive_of entries)
      → write_refusal (length (flat entries)) (map length entries) out ≡ 0
  none_refused out can room =
      of_accepted (length (flat entries)) (map length entries) out
      record {
        few = rw length-map can.few;
        fits = λ i h. rw length-map (fits_of entries can i h);
        whole = sym (length-flat entries);
        room = room ∙ archive_long;
      }

  -- so the call answers that length and leaves their archive
  pub wrote_all : (before : List ℕ) (a : Result ℕ Refusal) (after : List ℕ) → Archivable entries → length before ≡ length (archive_of entries)
      → WriteCall (flat entries) (map length entries) before a after → (a ≡ Ok (length (archive_of entries))) × (after ≡ archive_of entries)
  unfolding write_answer
  wrote_all before a after can room call =
      let none = none_refused (length before) can room in (
        rw archive_long (value_of a _ _ call.0 none),
        call.1 ∙ output_is (flat entries) (map length entries) before none ∙ ap archive_of (cut-flat entries),
      )
