-- A file of bytes that passes the test is laid out by what it says: its pairs, read one after another, are those of the lengths that it says.
-- Assumes nothing.
use mathlib.Core.Path.{◌≡◌, refl, ap}
use mathlib.Core.List.{List, [], ◌∷◌, ◌++◌}
use Prim.Native.Nat.{ℕ, zero, suc, ◌+◌, ◌*◌, ◌≤◌, ◌<◌}
use native.Mathlib.Nat.{add-zero, zero-add}
use native.Mathlib.Omega.{arith}
use lib.ListN.{length, drop}
use Rattle.lists.specs.Each.{Each, Byte}
use Rattle.archive.specs.Format.{two_bytes, head_bytes, pairs, Archive}
use Rattle.archive.specs.Reading.{count_of, length_of, start_of}
use Rattle.archive.specs.Writing.{cut}
use Rattle.archive.proofs.TwoBytes.{number_here, number_fits}
use Rattle.archive.proofs.Passing.{Passed}
use Rattle.archive.proofs.Laid.{laid, length-laid, count-laid, offset_laid, length_of-laid, end_laid}
use Rattle.archive.proofs.Fits.{cut_archive}

-- the lengths that the file says of k entries, from entry i on
lengths_from : List ℕ → ℕ → ℕ → List ℕ
lengths_from file i zero = []
lengths_from file i (suc k) = length_of file i ∷ lengths_from file (suc i) k

-- they are k
lengths-many : (file : List ℕ) (i k : ℕ) → length (lengths_from file i k) ≡ k
unfolding lengths_from
lengths-many file i zero = refl
lengths-many file i (suc k) = ap suc (lengths-many file (suc i) k)

module _ (file : List ℕ) (bytes : Each Byte file) (passed : Passed file) where
  -- pair i, and what comes after it
  pair_here : (i : ℕ) → i < count_of file
      → drop (head_bytes i) file ≡ two_bytes (start_of file i) ++ two_bytes (length_of file i) ++ drop (head_bytes (suc i)) file
  unfolding two_bytes
  pair_here i h =
      let head = passed.head in
      let second : 2 + 4 * i + 2 ≡ 4 + 4 * i = omega arith in
      let next : 4 + 4 * i + 2 ≡ 2 + 4 * suc i = omega arith in
      cc (number_here file (2 + 4 * i) bytes (omega arith), number_here file (4 + 4 * i) bytes (omega arith), (passed.pairs_kept_lem i h).starts)

  -- k pairs from pair i on, and what comes after them
  pairs_here : (k i : ℕ) → i + k ≤ count_of file
      → drop (head_bytes i) file ≡ pairs (start_of file i) (lengths_from file i k) ++ drop (head_bytes (i + k)) file
  unfolding pairs lengths_from start_of two_bytes
  pairs_here zero i h = rw add-zero
  pairs_here (suc k) i h =
      let last : suc i + k ≡ i + suc k = omega arith in
      cc (pair_here i (omega arith), pairs_here k (suc i) (omega arith), (passed.pairs_kept_lem i (omega arith)).starts)

  -- so the count, the pairs and the rest are the file
  found : file ≡ laid (lengths_from file 0 (count_of file)) (drop (head_bytes (count_of file)) file)
  unfolding laid start_of two_bytes
  found =
      let head = passed.head in
      let c : ℕ = count_of file in
      cc (number_here file 0 bytes (omega arith), pairs_here c 0 (omega arith), lengths-many file 0 c, zero-add c)

-- ---- and so it is an archive

-- of the rest cut by the lengths: two bytes hold no number above the limit, and the test asks for the other rules
laid_archive : (sizes rest : List ℕ) → Each Byte (laid sizes rest) → Passed (laid sizes rest) → Archive (cut sizes rest) (laid sizes rest)
laid_archive sizes rest bytes passed =
    let file : List ℕ = laid sizes rest in
    let many = count-laid sizes rest in
    cut_archive sizes rest (rw many at passed.few)
    (λ i h.
    record {
      some = rw (length_of-laid sizes rest i h) at (passed.pairs_kept_lem i (rw many h)).some;
      size_fits = rw (length_of-laid sizes rest i h) at (number_fits file (4 + 4 * i) bytes);
      offset_fits = rw (offset_laid sizes rest i h) at (number_fits file (2 + 4 * i) bytes);
    })
    (omega (arith, passed.ends, end_laid sizes rest, length-laid sizes rest))

-- for the file as it stands
pub found_archive : (file : List ℕ) → Each Byte file → Passed file → (entries : List (List ℕ)) × Archive entries file
found_archive file bytes passed = by _ _ (found file bytes passed)
  where
    by : (sizes rest : List ℕ) → file ≡ laid sizes rest → (entries : List (List ℕ)) × Archive entries file
    by sizes rest is = (cut sizes rest, rw is (laid_archive sizes rest (rw is at bytes) (rw is at passed)))
