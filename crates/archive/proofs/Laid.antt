-- A file that is laid out as an archive is, of these lengths and with this after the pairs: what it says, and that it passes the test.
-- Assumes nothing.
use mathlib.Core.Path.{◌≡◌, refl, sym, ◌∙◌}
use mathlib.Core.List.{List, [], ◌∷◌, ◌++◌, map}
use Prim.Native.Nat.{ℕ, zero, suc, ◌+◌, ◌*◌, ◌≤◌, ◌<◌}
use native.Mathlib.Nat.{le_of_suc-le-suc, not-suc-le-zero, le_refl, le_of_lt}
use native.Mathlib.Omega.{arith}
use lib.ListN.{length, get_or, take, drop, length-append}
use lib.Seq.{take-length, drop-append-add}
use Rattle.lists.specs.Table.{flat}
use Rattle.archive.specs.Format.{max_entries, two_bytes, head_bytes, pairs, head_of, archive_of}
use Rattle.archive.specs.Reading.{number_at, count_of, offset_of, length_of, start_of}
use Rattle.archive.specs.Writing.{total}
use Rattle.archive.proofs.TwoBytes.{number_of, number-after}
use Rattle.archive.proofs.Entries.{total_more}
use Rattle.archive.proofs.Passing.{Passed}

-- ---- the pairs alone

-- four bytes each
length_pairs : (offset : ℕ) (sizes : List ℕ) → length (pairs offset sizes) ≡ 4 * length sizes
unfolding pairs two_bytes
length_pairs offset [] = refl
length_pairs offset (size ∷ sizes) = rw (length_pairs (offset + size) sizes) (omega arith)

-- the offset in pair i is the first one's and all lengths before it
pair_offset : (offset : ℕ) (sizes rest : List ℕ) (i : ℕ) → i < length sizes
    → number_at (pairs offset sizes ++ rest) (4 * i) ≡ offset + total (take i sizes)
unfolding pairs total two_bytes
pair_offset offset [] rest i h = absurd (not-suc-le-zero h)
pair_offset offset (size ∷ sizes) rest zero h = number_of offset _ ∙ omega arith
pair_offset offset (size ∷ sizes) rest (suc i) h =
    let next : 4 * suc i ≡ 2 + (2 + 4 * i) = omega arith in
    let this = pair_offset (offset + size) sizes rest i (le_of_suc-le-suc h) in
    rw next (number-after offset _ (2 + 4 * i) ∙ number-after size _ (4 * i) ∙ this ∙ omega arith)

-- and the length in it is length i
pair_length : (offset : ℕ) (sizes rest : List ℕ) (i : ℕ) → i < length sizes
    → number_at (pairs offset sizes ++ rest) (2 + 4 * i) ≡ get_or sizes i 0
unfolding pairs two_bytes
pair_length offset [] rest i h = absurd (not-suc-le-zero h)
pair_length offset (size ∷ sizes) rest zero h = number-after offset _ 0 ∙ number_of size _
pair_length offset (size ∷ sizes) rest (suc i) h =
    let next : 2 + 4 * suc i ≡ 2 + (2 + (2 + 4 * i)) = omega arith in
    let this = pair_length (offset + size) sizes rest i (le_of_suc-le-suc h) in
    rw next (number-after offset _ (2 + (2 + 4 * i)) ∙ number-after size _ (2 + 4 * i) ∙ this)

-- ---- the file

-- the count and the pairs of entries of these lengths, and what comes after them
unfoldable pub laid : List ℕ → List ℕ → List ℕ
laid sizes rest = head_of sizes ++ rest

-- two bytes and four for each entry
length_head : (sizes : List ℕ) → length (head_of sizes) ≡ head_bytes (length sizes)
unfolding two_bytes
length_head sizes = rw length_pairs (omega arith)

-- an archive is such a file, with the entries end to end after the pairs
pub archive_laid : (entries : List (List ℕ)) → archive_of entries ≡ laid (map length entries) (flat entries)
unfolding archive_of laid
archive_laid entries = refl

module _ (sizes rest : List ℕ) where
  -- how long it is
  pub length-laid : length (laid sizes rest) ≡ head_bytes (length sizes) + length rest
  unfolding laid
  length-laid = rw (length-append, length_head)

  -- what comes after the pairs
  pub after-laid : (n : ℕ) → drop (head_bytes (length sizes) + n) (laid sizes rest) ≡ drop n rest
  unfolding laid
  after-laid n = rw length_head at (drop-append-add (head_of sizes) rest n)

  -- what it says: how many entries there are, where each starts and how long it is
  pub count-laid : count_of (laid sizes rest) ≡ length sizes
  unfolding laid two_bytes
  count-laid = number_of (length sizes) _

  pub offset_laid : (i : ℕ) → i < length sizes → offset_of (laid sizes rest) i ≡ head_bytes (length sizes) + total (take i sizes)
  unfolding laid two_bytes
  offset_laid i h = number-after (length sizes) _ (4 * i) ∙ pair_offset (head_bytes (length sizes)) sizes rest i h

  pub length_of-laid : (i : ℕ) → i < length sizes → length_of (laid sizes rest) i ≡ get_or sizes i 0
  unfolding laid two_bytes
  length_of-laid i h =
      let place : 4 + 4 * i ≡ 2 + (2 + 4 * i) = omega arith in
      rw place (number-after (length sizes) _ (2 + 4 * i) ∙ pair_length (head_bytes (length sizes)) sizes rest i h)

  -- where entry i has to start
  start-laid : (i : ℕ) → i ≤ length sizes → start_of (laid sizes rest) i ≡ head_bytes (length sizes) + total (take i sizes)
  unfolding start_of total
  start-laid zero h = rw count-laid (omega arith)
  start-laid (suc i) h = rw (offset_laid i h, length_of-laid i h, total_more sizes i h) (omega arith)

  -- and where the file has to end
  pub end_laid : start_of (laid sizes rest) (count_of (laid sizes rest)) ≡ head_bytes (length sizes) + total sizes
  end_laid = rw count-laid (rw take-length at (start-laid (length sizes) (le_refl (length sizes))))

  -- it passes the test if the entries are not too many, each has a byte, and they take all that comes after the pairs
  pub laid_passes : length sizes ≤ max_entries → ((i : ℕ) → i < length sizes → 0 < get_or sizes i 0)
      → total sizes ≡ length rest → Passed (laid sizes rest)
  laid_passes few some whole =
      let below : (i : ℕ) → i < count_of (laid sizes rest) → i < length sizes = λ i h. rw count-laid at h in
      record {
        few = rw count-laid few;
        head = rw (count-laid, length-laid) (omega arith);
        pairs_kept_lem = λ i h.
            record {
              starts = offset_laid i (below i h) ∙ sym (start-laid i (le_of_lt (below i h)));
              some = rw (length_of-laid i (below i h)) (some i (below i h));
            };
        ends = end_laid ∙ rw (whole, length-laid);
      }
