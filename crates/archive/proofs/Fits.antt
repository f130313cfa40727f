-- The lengths of which an archive can be made, pair by pair: what the writer's test asks of them, and what it is for entries to have an archive.
-- Assumes nothing.
use mathlib.Core.Path.{◌≡◌, refl, sym, ◌∙◌}
use mathlib.Core.Bool.{true, false, ◌&&◌}
use mathlib.Core.List.{List, [], ◌∷◌, ◌++◌, map}
use Prim.Native.Nat.{ℕ, zero, suc, ◌+◌, ◌≤◌, ◌<◌, suc-le-suc}
use native.Mathlib.Nat.{add-zero, add_assoc, not-suc-le-zero, le_of_suc-le-suc, zero-lt-suc, le_of_eq}
use native.Mathlib.Omega.{arith}
use lib.Dec.{ltb, leb}
use lib.ListN.{length, get_or, take, length-map, get_or-map}
use borrow.Author.Tests.{ltb-true, leb-true, lt-ltb, le-leb, eq-eqb}
use Rattle.lists.specs.Each.{Each, Byte}
use Rattle.lists.proofs.Each.{each_of, each_get_d}
use Rattle.lists.proofs.Tests.{both}
use Rattle.archive.specs.Format.{max_entries, max_number, two_bytes, head_bytes, pairs, start_in, archive_of, Archivable, Archive}
use Rattle.archive.specs.Writing.{total, cut, lengths_fit, would_break}
use Rattle.archive.proofs.TwoBytes.{number-bytes}
use Rattle.archive.proofs.Entries.{length_before, length_cut, lengths-cut, flat-cut}
use Rattle.archive.proofs.Laid.{laid, archive_laid}

-- a pair of this offset and this length can be written
pub record PairFits (offset size : ℕ) : Type 0 where
  pub some : 1 ≤ size
  pub size_fits : size ≤ max_number
  pub offset_fits : offset ≤ max_number

-- so can all pairs of entries of these lengths, the first of which starts at this offset
abbrev pub Fits : ℕ → List ℕ → Type 0
Fits offset sizes = (i : ℕ) → i < length sizes → PairFits (offset + total (take i sizes)) (get_or sizes i 0)

-- ---- the writer's test

-- it asks that the first pair fits, and then the same of the others
fit_first : (offset size : ℕ) (sizes : List ℕ) → lengths_fit offset (size ∷ sizes) ≡ true
    → PairFits offset size × (lengths_fit (offset + size) sizes ≡ true)
unfolding lengths_fit
fit_first offset size sizes e =
    let later = both (ltb 0 size && leb size max_number && leb offset max_number) (lengths_fit (offset + size) sizes) e in
    let this = both (ltb 0 size && leb size max_number) (leb offset max_number) later.0 in
    let long = both (ltb 0 size) (leb size max_number) this.0 in (
      record {
        some = ltb-true 0 size long.0;
        size_fits = leb-true size max_number long.1;
        offset_fits = leb-true offset max_number this.1;
      },
      later.1,
    )

-- so of each pair
pub fit_true : (offset : ℕ) (sizes : List ℕ) → lengths_fit offset sizes ≡ true → Fits offset sizes
unfolding total
fit_true offset [] e i h = absurd (not-suc-le-zero h)
fit_true offset (size ∷ sizes) e zero h = rw add-zero (fit_first offset size sizes e).0
fit_true offset (size ∷ sizes) e (suc i) h =
    rw add_assoc at (fit_true (offset + size) sizes (fit_first offset size sizes e).1 i (le_of_suc-le-suc h))

-- and the other way
pub true_fit : (offset : ℕ) (sizes : List ℕ) → Fits offset sizes → lengths_fit offset sizes ≡ true
unfolding lengths_fit total
true_fit offset [] fits = refl
true_fit offset (size ∷ sizes) fits =
    let this = fits 0 (zero-lt-suc (length sizes)) in
    let rest : Fits (offset + size) sizes = λ i h. rw add_assoc (fits (suc i) (suc-le-suc h)) in
    simp (
      lt-ltb 0 size this.some,
      le-leb size max_number this.size_fits,
      le-leb offset max_number (omega (arith, this.offset_fits)),
      true_fit (offset + size) sizes rest,
    )

-- then nothing would break, if the lengths add up to the contents
pub fits_unbroken : (contents : ℕ) (sizes : List ℕ) → Fits (head_bytes (length sizes)) sizes → total sizes ≡ contents → would_break contents sizes ≡ false
unfolding would_break
fits_unbroken contents sizes fits whole = rw (true_fit _ sizes fits, eq-eqb _ _ whole)

-- and the pairs are bytes
pub pairs-bytes : (offset : ℕ) (sizes : List ℕ) → lengths_fit offset sizes ≡ true → Each Byte (pairs offset sizes)
unfolding pairs two_bytes
pairs-bytes offset [] e = tt
pairs-bytes offset (size ∷ sizes) e =
    let first = fit_first offset size sizes e in
    let rest : List ℕ = pairs (offset + size) sizes in
    number-bytes offset (two_bytes size ++ rest) first.0.offset_fits
    (number-bytes size rest first.0.size_fits (pairs-bytes (offset + size) sizes first.1))

-- ---- entries that have an archive are those of which the lengths fit

module _ (entries : List (List ℕ)) where
  -- the pair of entry i, by the entries
  entry_fits : Fits (head_bytes (length entries)) (map length entries) → (i : ℕ) → i < length entries
      → PairFits (start_in entries i) (length (get_or entries i []))
  entry_fits fits i h = rw (← length_before entries i, get_or-map length entries i []) at (fits i (rw length-map h))

  pub archivable_of : length entries ≤ max_entries → Fits (head_bytes (length entries)) (map length entries) → Archivable entries
  archivable_of few fits =
      record {
        few = few;
        some = each_of (λ entry. 1 ≤ length entry) entries [] (λ i h. (entry_fits fits i h).some);
        lengths_fit_lem = each_of (λ entry. length entry ≤ max_number) entries [] (λ i h. (entry_fits fits i h).size_fits);
        offsets_fit = λ i h. (entry_fits fits i h).offset_fits;
      }

  -- and the other way
  pub fits_of : Archivable entries → Fits (head_bytes (length entries)) (map length entries)
  fits_of can i h =
      let within : i < length entries = rw length-map at h in
      rw (← length_before entries i, get_or-map length entries i [])
      record {
        some = each_get_d (λ entry. 1 ≤ length entry) entries i [] within can.some;
        size_fits = each_get_d (λ entry. length entry ≤ max_number) entries i [] within can.lengths_fit_lem;
        offset_fits = can.offsets_fit i within;
      }

-- contents that are cut by lengths that add up to them: the archive of the entries is laid out by those lengths
pub cut-laid : (sizes contents : List ℕ) → total sizes ≡ length contents → archive_of (cut sizes contents) ≡ laid sizes contents
cut-laid sizes contents whole = archive_laid (cut sizes contents) ∙ rw (lengths-cut sizes contents (le_of_eq whole), flat-cut sizes contents whole)

-- and where the lengths fit, there is one
pub cut_archive : (sizes contents : List ℕ) → length sizes ≤ max_entries → Fits (head_bytes (length sizes)) sizes
    → total sizes ≡ length contents → Archive (cut sizes contents) (laid sizes contents)
cut_archive sizes contents few fits whole =
    record {
      archivable = archivable_of (cut sizes contents) (rw length_cut few) (rw (length_cut, lengths-cut sizes contents (le_of_eq whole)) fits);
      is = sym (cut-laid sizes contents whole);
    }
