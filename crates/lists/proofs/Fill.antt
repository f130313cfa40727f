-- The invariant of a loop that fills a list from the front.
-- Assumes nothing.
use mathlib.Core.Path.{◌≡◌, refl, sym, ◌∙◌}
use mathlib.Core.List.{List}
use Prim.Native.Nat.{ℕ, ◌+◌, ◌≤◌, ◌<◌, zero-le}
use native.Mathlib.Nat.{le_antisymm}
use native.Mathlib.Numerals.{add-one}
use native.Mathlib.Omega.{arith}
use lib.ListN.{length, take, set, length-set}
use lib.Seq.{take-suc-set, take_all}
use Rattle.lists.specs.Table.{tabulate}

-- the first i of o's n entries are by the rule f
pub record Fill {ℓ} {A : Type ℓ} (f : ℕ → A) (n i : ℕ) (o : List A) : Type ℓ where
  pub within : i ≤ n
  pub long : length o ≡ n
  pub is : take i o ≡ tabulate i f

module _ {ℓ} {A : Type ℓ} where
  pub fill_none : (f : ℕ → A) (n : ℕ) (o : List A) → length o ≡ n → Fill f n 0 o
  unfolding tabulate
  fill_none f n o h = record { within = zero-le; long = h; is = refl }

  pub fill_more : {f : ℕ → A} {n i : ℕ} {o : List A} {v : A} → Fill f n i o → i < n → v ≡ f i → Fill f n (i + 1) (set o i v)
  unfolding tabulate
  fill_more {f} {n} {i} {o} {v} F h e =
      record {
        within = omega arith;
        long = length-set o i v ∙ F.long;
        is = rw (add-one, take-suc-set o i v (rw F.long h), F.is, e);
      }

  pub fill-all : {f : ℕ → A} {n i : ℕ} {o : List A} → Fill f n i o → n ≤ i → o ≡ tabulate n f
  fill-all {f} {n} {i} {o} F h =
      let q : i ≡ n = le_antisymm F.within h in
      sym (take_all i o (rw F.long h)) ∙ F.is ∙ rw q
