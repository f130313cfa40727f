-- The places of a row's coefficients written over others: how a loop writes them, and what the list then holds.
-- Assumes nothing.
use mathlib.Core.Path.{◌≡◌, refl, sym, ◌∙◌}
use mathlib.Core.Bool.{and-false}
use mathlib.Core.List.{List}
use mathlib.Core.Logic.{⊎_elim}
use Prim.Native.Nat.{ℕ, ◌+◌, ◌≤◌, ◌<◌, min}
use native.Mathlib.Omega.{arith}
use lib.Dec.{leb}
use lib.ListN.{length, get_or, set}
use borrow.Author.Tests.{lt-ltb, le-ltb, le-leb, lt-leb}
use Rattle.lists.proofs.Table.{length-tabulate, get_or-tabulate}
use Rattle.lists.proofs.Tests.{lt_or_le}
use Rattle.staircase.specs.Coefficients.{count_of}
use Rattle.rows.specs.Origins.{found, place_over, origins_over}
use Rattle.lists.proofs.Known.{Written, written_more, written_all}

module _ (m z : ℕ) (ds : List ℕ) (row : ℕ) (places : List ℕ) where
  below : (e : ℕ) → e < z → place_over m z ds row places e ≡ get_or places e 0
  unfolding place_over
  below e h = rw (lt-leb z e h)

  beyond : (e : ℕ) → count_of m z ds row ≤ e → place_over m z ds row places e ≡ get_or places e 0
  unfolding place_over
  beyond e h = rw (le-ltb e (count_of m z ds row) h, and-false (leb z e))

  here : (e : ℕ) → z ≤ e → e < count_of m z ds row → place_over m z ds row places e ≡ found m z ds row e
  unfolding place_over
  here e low high = rw (le-leb z e low, lt-ltb e (count_of m z ds row) high)

  -- ---- the loop, from z up to the end

  module _ (end : ℕ) (end_is : end ≡ min (count_of m z ds row) (length places)) where
    pub over_none : (low : ℕ) → low ≡ z → Written 0 (place_over m z ds row places) (length places) end low places
    over_none low low-is =
        record {
          long = refl;
          is = λ k l left.
              ⊎_elim (λ (b : k < low). sym (below k (omega arith))) (λ (b : low ≤ k). sym (beyond k (omega (arith, left b)))) (lt_or_le k low);
        }

    module _ {e : ℕ} {o : List ℕ} (W : Written 0 (place_over m z ds row places) (length places) end e o) where
      pub over_more : {x : ℕ} → z ≤ e → e < end → x ≡ found m z ds row e
          → Written 0 (place_over m z ds row places) (length places) end (e + 1) (set o e x)
      over_more low high x-is = written_more W high (omega arith) (x-is ∙ sym (here e low (omega arith)))

      pub over_all : end ≤ e → o ≡ origins_over m z ds row places
      unfolding origins_over
      over_all h = written_all W h

  -- ---- the list

  pub over_long : length (origins_over m z ds row places) ≡ length places
  unfolding origins_over
  over_long = length-tabulate (length places) (place_over m z ds row places)

  pub over_at : (e : ℕ) → z ≤ e → e < count_of m z ds row → e < length places → get_or (origins_over m z ds row places) e 0 ≡ found m z ds row e
  unfolding origins_over
  over_at e low high h = get_or-tabulate (length places) (place_over m z ds row places) e 0 h ∙ here e low high
