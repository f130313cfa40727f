-- The head of an archive as a loop writes it, pair by pair.
-- Assumes nothing.
use mathlib.Core.Path.{◌≡◌, sym, ap, ◌∙◌}
use mathlib.Core.Bool.{Bool, true, ◌&&◌}
use mathlib.Core.List.{List, [], ◌++◌, append_assoc, append-nil}
use Prim.Native.Nat.{ℕ, ◌+◌, ◌≤◌, ◌<◌}
use native.Mathlib.Numerals.{add-one}
use native.Mathlib.Omega.{arith}
use lib.Dec.{ltb, leb}
use lib.ListN.{length, take, drop, get_or, drop_of_length-le}
use lib.Seq.{drop-cons}
use borrow.Author.Tests.{leb-true}
use Rattle.lists.proofs.Tests.{both}
use Rattle.archive.specs.Format.{max_number, head_bytes, two_bytes, pairs, head_of}
use Rattle.archive.specs.Writing.{lengths_fit}
use Rattle.archive.proofs.Lengths.{fit_at}

module _ (sizes : List ℕ) (i offset : ℕ) where
  pairs-at : i < length sizes → pairs offset (drop i sizes) ≡ two_bytes offset ++ two_bytes (get_or sizes i 0) ++ pairs (offset + get_or sizes i 0) (drop (i + 1) sizes)
  unfolding pairs
  pairs-at more = rw (drop-cons sizes i 0, add-one)

  -- where the lengths fit, so do those of the next pair, and the ones after it
  pub fits_here : i < length sizes → lengths_fit offset (drop i sizes) ≡ true
      → (get_or sizes i 0 ≤ max_number) × (offset ≤ max_number) × (lengths_fit (offset + get_or sizes i 0) (drop (i + 1) sizes) ≡ true)
  fits_here more fit =
      let size : ℕ = get_or sizes i 0 in
      let short : Bool = leb size max_number in
      let near : Bool = leb offset max_number in
      let all = both (ltb 0 size && short && near) _ (sym (fit_at sizes i offset more) ∙ fit) in
      let three = both (ltb 0 size && short) near all.0 in
      (leb-true _ _ (both (ltb 0 size) short three.0).1, leb-true _ _ three.1, all.1)

-- `out` holds the pairs before i, and after them those from i on make the whole head
pub record HeadTo (sizes : List ℕ) (offset i : ℕ) (out : List ℕ) : Type 0 where
  pub within : i ≤ length sizes
  pub fit : lengths_fit offset (drop i sizes) ≡ true
  pub is : take (head_bytes i) out ++ pairs offset (drop i sizes) ≡ head_of sizes

module _ (sizes : List ℕ) where
  -- before the first pair stands the count
  pub head_begun : (out : List ℕ) → take 2 out ≡ two_bytes (length sizes) → lengths_fit (head_bytes (length sizes)) sizes ≡ true → HeadTo sizes (head_bytes (length sizes)) 0 out
  head_begun out counted fit = record { within = omega arith; fit = fit; is = rw counted }

  -- one pair more: out' holds the offset after what `out` holds, and out'' the length after that
  pub head_next : (offset i at : ℕ) (out out' out'' : List ℕ) → HeadTo sizes offset i out → i < length sizes → at ≡ head_bytes i
      → take (at + 2) out' ≡ take at out ++ two_bytes offset
      → take (at + 2 + 2) out'' ≡ take (at + 2) out' ++ two_bytes (get_or sizes i 0)
      → HeadTo sizes (offset + get_or sizes i 0) (i + 1) out''
  head_next offset i at out out' out'' h more at-is first second =
      let size : ℕ = get_or sizes i 0 in
      let rest : List ℕ = pairs (offset + size) (drop (i + 1) sizes) in
      let next : head_bytes (i + 1) ≡ at + 2 + 2 = omega arith in
      let written : take (head_bytes (i + 1)) out'' ≡ (take (head_bytes i) out ++ two_bytes offset) ++ two_bytes size =
      ap (λ (n : ℕ). take n out'') next
      ∙ second
      ∙ ap (λ (l : List ℕ). l ++ two_bytes size) (first ∙ ap (λ (n : ℕ). take n out ++ two_bytes offset) at-is)
      in
      record {
        within = omega arith;
        fit = (fits_here sizes i offset more h.fit).2;
        is = ap (λ (l : List ℕ). l ++ rest) written
            ∙ append_assoc (take (head_bytes i) out ++ two_bytes offset) (two_bytes size) rest
            ∙ append_assoc (take (head_bytes i) out) (two_bytes offset) (two_bytes size ++ rest)
            ∙ ap (λ (l : List ℕ). take (head_bytes i) out ++ l) (sym (pairs-at sizes i offset more ∙ append_assoc (two_bytes offset) (two_bytes size) rest))
            ∙ h.is;
      }

  pub head_done : (offset i : ℕ) (out : List ℕ) → HeadTo sizes offset i out → length sizes ≤ i
      → take (head_bytes (length sizes)) out ≡ head_of sizes
  unfolding pairs
  head_done offset i out h over =
      let all : i ≡ length sizes = omega (arith, h.within) in
      let none : drop i sizes ≡ [] = drop_of_length-le sizes over in
      sym (append-nil (take (head_bytes (length sizes)) out)) ∙ rw (none, all) at h.is
