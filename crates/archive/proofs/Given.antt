-- What the reader's calls give of an archive: its entries.
-- Assumes nothing.
use mathlib.Core.Path.{◌≡◌, sym, ◌∙◌}
use mathlib.Core.List.{List, [], map}
use Prim.Native.Nat.{ℕ, ◌+◌, ◌≤◌, ◌<◌}
use lib.ListN.{length, get_or, take, drop, length-map, get_or-map}
use lib.Seq.{ext_get_or}
use Rattle.lists.specs.Table.{flat}
use Rattle.scheme.specs.Outcome.{answer}
use Rattle.archive.specs.Format.{head_bytes, start_in, Archive}
use Rattle.archive.specs.Reading.{count_of, offset_of, length_of, file_refusal, count_answer, place_answer, entry_length_answer, entry_refusal, entry_of}
use Rattle.archive.specs.Archives.{Gives}
use Rattle.archive.proofs.Entries.{length-flat, length_before, entry_in_flat}
use Rattle.archive.proofs.Laid.{laid, archive_laid, after-laid, count-laid, offset_laid, length_of-laid, laid_passes}
use Rattle.archive.proofs.Passing.{passes, entry_found, entry_none}
use Rattle.archive.proofs.Fits.{fits_of}

module _ (file : List ℕ) (entries : List (List ℕ)) (archive : Archive entries file) where
  -- it is laid out by its entries
  is_laid : file ≡ laid (map length entries) (flat entries)
  is_laid = archive.is ∙ archive_laid entries

  -- the file passes the test
  pub archive_passes : file_refusal file ≡ 0
  archive_passes =
      let can = archive.archivable in
      let some : (i : ℕ) → i < length (map length entries) → 0 < get_or (map length entries) i 0 = λ i h. (fits_of entries can i h).some in
      passes file (rw is_laid (laid_passes (map length entries) (flat entries) (rw length-map can.few) some (sym (length-flat entries))))

  -- it says how many entries there are, and where each starts and how long it is
  pub count_is : count_of file ≡ length entries
  count_is = rw is_laid (count-laid (map length entries) (flat entries) ∙ length-map entries length)

  offset_is : (i : ℕ) → i < length entries → offset_of file i ≡ start_in entries i
  offset_is i h = rw (is_laid, offset_laid (map length entries) (flat entries) i (rw length-map h), length-map, length_before entries i)

  length_is : (i : ℕ) → i < length entries → length_of file i ≡ length (get_or entries i [])
  length_is i h = rw (is_laid, length_of-laid (map length entries) (flat entries) i (rw length-map h)) (get_or-map length entries i [])

  -- after the pairs the entries stand end to end
  after_head : (n : ℕ) → drop (head_bytes (length entries) + n) file ≡ drop n (flat entries)
  after_head n = rw is_laid (rw length-map at (after-laid (map length entries) (flat entries) n))

  -- so each stands where the file says
  part_is : (i : ℕ) → i < length entries → take (length_of file i) (drop (offset_of file i) file) ≡ get_or entries i []
  part_is i h = rw (length_is i h, offset_is i h, after_head (length (flat (take i entries)))) (entry_in_flat entries i)

  -- the lookup finds these, and no other
  found : (i : ℕ) → i < length entries → entry_refusal file i ≡ 0
  found i h = entry_found file i archive_passes (rw count_is h)

  no_entry : (i : ℕ) → length entries ≤ i → entry_refusal file i ≡ 14
  no_entry i h = entry_none file i archive_passes (rw count_is h)

  -- what the lookup hands back
  pub entry_is : (i : ℕ) → i < length entries → entry_of file i ≡ get_or entries i []
  unfolding entry_of
  entry_is i h = rw (found i h) (part_is i h)

  -- all calls together
  pub gives : Gives file entries
  unfolding count_answer place_answer entry_length_answer entry_of answer
  gives =
      record {
        count = rw (archive_passes, count_is);
        part = entry_is;
        size = λ i h. rw (found i h, length_is i h);
        place = λ i h. rw (found i h, length_is i h, offset_is i h);
        none = λ i h. rw (no_entry i h);
        no_place = λ i h. rw (no_entry i h);
        no_part = λ i h. rw (no_entry i h);
      }

-- two archives with as many entries, of which the lookup hands back the same, are archives of the same entries
pub same_entries : (file other : List ℕ) (entries others : List (List ℕ))
    → Archive entries file → Archive others other
    → count_of file ≡ count_of other → ((i : ℕ) → i < count_of file → entry_of file i ≡ entry_of other i)
    → entries ≡ others
same_entries file other entries others a b many same =
    let long : length entries ≡ length others = sym (count_is file entries a) ∙ many ∙ count_is other others b in
    ext_get_or [] entries others long
    (λ i h. sym (entry_is file entries a i h) ∙ same i (rw (count_is file entries a) h) ∙ entry_is other others b i (rw long at h))
