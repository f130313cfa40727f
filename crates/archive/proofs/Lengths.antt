-- The test of the lengths and their sum as a loop makes them, place by place.
-- Assumes nothing.
use mathlib.Core.Path.{◌≡◌, refl, ◌∙◌}
use mathlib.Core.Bool.{true, false, ◌&&◌, not, and-false}
use mathlib.Core.Logic.{◌⊎◌, ⊎_elim}
use mathlib.Core.List.{List}
use Prim.Native.Nat.{ℕ, ◌+◌, ◌-◌, ◌≤◌, ◌<◌}
use native.Mathlib.Numerals.{add-one}
use native.Mathlib.Omega.{arith}
use lib.Dec.{ltb, leb, eqb}
use lib.ListN.{length, drop, get_or, drop_of_length-le}
use lib.Seq.{drop-cons}
use borrow.Author.Tests.{lt-ltb, le-leb, lt-leb, eqb-true, not-false}
use Rattle.lists.proofs.Tests.{both}
use Rattle.archive.specs.Format.{max_number, head_bytes}
use Rattle.archive.specs.Writing.{total, lengths_fit, would_break}

-- what is wrong with an entry of this length that starts at this offset, by the first test that finds it
abbrev Unfit : ℕ → ℕ → Type 0
Unfit size offset =
    (size ≡ 0) ⊎ (((size ≡ 0 → ⊥) × (max_number < size)) ⊎ ((size ≡ 0 → ⊥) × (size ≤ max_number) × (max_number < offset)))

module _ (sizes : List ℕ) (i : ℕ) where
  -- from place i on
  pub fit_at : (offset : ℕ) → i < length sizes
      → lengths_fit offset (drop i sizes)
      ≡ (ltb 0 (get_or sizes i 0) && leb (get_or sizes i 0) max_number && leb offset max_number && lengths_fit (offset + get_or sizes i 0) (drop (i + 1) sizes))
  unfolding lengths_fit
  fit_at offset more = rw (drop-cons sizes i 0, add-one)

  total-at : i < length sizes → total (drop i sizes) ≡ get_or sizes i 0 + total (drop (i + 1) sizes)
  unfolding total
  total-at more = rw (drop-cons sizes i 0, add-one)

  -- the end is reached
  fit_end : (offset : ℕ) → length sizes ≤ i → lengths_fit offset (drop i sizes) ≡ true
  unfolding lengths_fit
  fit_end offset over = rw (drop_of_length-le sizes over)

  total_end : length sizes ≤ i → total (drop i sizes) ≡ 0
  unfolding total
  total_end over = rw (drop_of_length-le sizes over)

  -- an entry of no byte, one that is too long, one that starts too far back, and one that fits
  module _ (offset : ℕ) (more : i < length sizes) where
    unfit : Unfit (get_or sizes i 0) offset → lengths_fit offset (drop i sizes) ≡ false
    unfit =
        ⊎_elim (λ none. rw (fit_at offset more, none))
        (⊎_elim (λ long. rw (fit_at offset more, lt-leb (get_or sizes i 0) max_number long.1, and-false))
        (λ far. rw (fit_at offset more, lt-leb offset max_number far.2, and-false)))

    fit_next : (get_or sizes i 0 ≡ 0 → ⊥) → get_or sizes i 0 ≤ max_number → offset ≤ max_number
        → lengths_fit offset (drop i sizes) ≡ lengths_fit (offset + get_or sizes i 0) (drop (i + 1) sizes)
    fit_next some short near =
        rw (fit_at offset more, lt-ltb 0 (get_or sizes i 0) (omega (arith, some)), le-leb (get_or sizes i 0) max_number short, le-leb offset max_number near)

-- What is left from place i on, where the next entry starts at this offset, decides as all of the lengths do, and with what was passed it adds up to
-- all of them.
pub record LeftFrom (sizes : List ℕ) (offset i : ℕ) : Type 0 where
  pub past : head_bytes (length sizes) ≤ offset
  pub sums : offset + total (drop i sizes) ≡ head_bytes (length sizes) + total sizes
  pub decides : lengths_fit (head_bytes (length sizes)) sizes ≡ lengths_fit offset (drop i sizes)

module _ (sizes : List ℕ) where
  pub all_left : LeftFrom sizes (head_bytes (length sizes)) 0
  all_left = record { past = omega arith; sums = refl; decides = refl }

  module _ {offset i : ℕ} (h : LeftFrom sizes offset i) where
    module _ (more : i < length sizes) where
      pub left_broken : (contents : ℕ) → Unfit (get_or sizes i 0) offset → true ≡ would_break contents sizes
      unfolding would_break
      left_broken contents bad = rw (h.decides, unfit sizes i offset more bad)

      pub left_next : (get_or sizes i 0 ≡ 0 → ⊥) → get_or sizes i 0 ≤ max_number → offset ≤ max_number → LeftFrom sizes (offset + get_or sizes i 0) (i + 1)
      left_next some short near =
          record {
            past = omega (arith, h.past);
            sums = omega (arith, h.sums, total-at sizes i more);
            decides = h.decides ∙ fit_next sizes i offset more some short near;
          }

    -- at the end all of them fit, and the test is of their sum
    pub none_left : (contents : ℕ) → length sizes ≤ i → not (eqb (offset - head_bytes (length sizes)) contents) ≡ would_break contents sizes
    unfolding would_break
    none_left contents over =
        let sum : offset - head_bytes (length sizes) ≡ total sizes = omega (arith, h.past, h.sums, total_end sizes i over) in
        rw (h.decides, fit_end sizes i offset over, sum)

-- what the test shows where it finds nothing
pub unbroken : (sizes : List ℕ) (contents : ℕ) → would_break contents sizes ≡ false → (lengths_fit (head_bytes (length sizes)) sizes ≡ true) × (total sizes ≡ contents)
unfolding would_break
unbroken sizes contents none =
    let rules = both (lengths_fit (head_bytes (length sizes)) sizes) (eqb (total sizes) contents) (not-false _ none) in
    (rules.0, eqb-true _ _ rules.1)
