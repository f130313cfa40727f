-- The tests `occurs` and `distinct` as loops make them, place by place: at the end of the list, where a number is found, and at the next place.
-- Assumes nothing.
use mathlib.Core.Path.{◌≡◌, refl, ap}
use mathlib.Core.Bool.{Bool, true, false, ◌||◌}
use mathlib.Core.List.{List, [], ◌∷◌}
use Prim.Native.Nat.{ℕ, ◌+◌, ◌≤◌, ◌<◌}
use native.Mathlib.Numerals.{add-one}
use lib.ListN.{length, get_or, drop, drop_of_length-le}
use lib.Seq.{drop-cons}
use lib.Dec.{eqb}
use Rattle.std.specs.List.{list_any}
use borrow.Author.Tests.{eq-eqb, ne_eqb}
use Rattle.lists.specs.Each.{occurs, distinct}

module _ (x : ℕ) (xs : List ℕ) (j : ℕ) where
  pub occurs_end : length xs ≤ j → occurs x (drop j xs) ≡ false
  unfolding occurs
  occurs_end h = rw (drop_of_length-le xs h)

  pub occurs_here : j < length xs → x ≡ get_or xs j 0 → occurs x (drop j xs) ≡ true
  unfolding occurs
  occurs_here h e = rw (drop-cons xs j 0 h, eq-eqb x (get_or xs j 0) e)

  pub occurs-next : j < length xs → (x ≡ get_or xs j 0 → ⊥) → occurs x (drop j xs) ≡ occurs x (drop (j + 1) xs)
  unfolding occurs
  occurs-next h e = rw (add-one, drop-cons xs j 0 h, ne_eqb x (get_or xs j 0) e)

module _ (xs : List ℕ) (i : ℕ) where
  pub distinct_end : length xs ≤ i → distinct (drop i xs) ≡ true
  unfolding distinct
  distinct_end h = rw (drop_of_length-le xs h)

  pub distinct_here : i < length xs → occurs (get_or xs i 0) (drop (i + 1) xs) ≡ true → distinct (drop i xs) ≡ false
  unfolding distinct
  distinct_here h e = rw (drop-cons xs i 0 h, ← add-one i, e)

  pub distinct-next : i < length xs → occurs (get_or xs i 0) (drop (i + 1) xs) ≡ false → distinct (drop i xs) ≡ distinct (drop (i + 1) xs)
  unfolding distinct
  distinct-next h e = rw (add-one, drop-cons xs i 0 h, (rw add-one at e))

-- the test as `any` makes it
pub occurs_any : (x : ℕ) (xs : List ℕ) → list_any (eqb x) xs ≡ occurs x xs
unfolding occurs
occurs_any x [] = refl
occurs_any x (y ∷ ys) = ap (λ (t : Bool). eqb x y || t) (occurs_any x ys)
