-- Laws of the number of differing entries.
-- Assumes nothing.
use mathlib.Core.Path.{◌≡◌, refl, sym, ap₂, ◌∙◌}
use mathlib.Core.Bool.{Bool, true, false, cond}
use mathlib.Core.Logic.{⊎_elim}
use mathlib.Core.List.{List, [], ◌∷◌}
use Prim.Native.Nat.{ℕ, ◌+◌, ◌≤◌, ◌<◌, min}
use native.Mathlib.Nat.{suc-ne-zero}
use native.Mathlib.Numerals.{add-one}
use native.Mathlib.Omega.{arith}
use lib.Dec.{eqb}
use lib.ListN.{length, get_or, drop, drop_of_length-le}
use lib.Seq.{drop-cons}
use borrow.Author.Tests.{eqb-true, eq-eqb, ne_eqb}
use Rattle.lists.specs.Differing.{differing}
use Rattle.lists.proofs.Tests.{lt_or_le}

-- ---- differing bytes

pub differing_self : (l : List ℕ) → differing l l ≡ 0
unfolding differing
differing_self [] = refl
differing_self (x ∷ l) = rw (eq-eqb x x refl) (omega (arith, differing_self l))

-- no place counts where none differs
cell_by : (x y rest : ℕ) (t : Bool) → eqb x y ≡ t → cond {A = ℕ} t 0 1 + rest ≡ 0 → (x ≡ y) × (rest ≡ 0)
cell_by x y rest true q h = (eqb-true x y q, omega arith)
cell_by x y rest false q h = absurd (omega arith)

pub differing_none : (xs ys : List ℕ) → length xs ≡ length ys → differing xs ys ≡ 0 → xs ≡ ys
unfolding differing
differing_none [] [] e h = refl
differing_none [] (y ∷ ys) e h = absurd (suc-ne-zero (length ys) (sym e))
differing_none (x ∷ xs) [] e h = absurd (suc-ne-zero (length xs) e)
differing_none (x ∷ xs) (y ∷ ys) e h =
    let c = cell_by x y (differing xs ys) (eqb x y) refl h in
    ap₂ ◌∷◌ c.0 (differing_none xs ys (omega arith) c.1)

-- an empty list differs nowhere
pub differing_empty : (xs ys : List ℕ) → length xs ≡ 0 → differing xs ys ≡ 0
unfolding differing
differing_empty [] ys e = refl
differing_empty (x ∷ xs) ys e = absurd (suc-ne-zero (length xs) e)

-- ---- the loop that counts them: what is left from place i on

right_empty : (xs : List ℕ) → differing xs [] ≡ 0
unfolding differing
right_empty [] = refl
right_empty (x ∷ xs) = refl

pub differing_end : (xs ys : List ℕ) (i : ℕ) → min (length xs) (length ys) ≤ i → differing (drop i xs) (drop i ys) ≡ 0
unfolding differing
differing_end xs ys i h =
    ⊎_elim (λ (l : length xs < length ys). rw (drop_of_length-le xs {i = i} (omega arith)))
    (λ (l : length ys ≤ length xs). rw (drop_of_length-le ys {i = i} (omega arith)) (right_empty (drop i xs)))
    (lt_or_le (length xs) (length ys))

module _ (xs ys : List ℕ) (i : ℕ) (hx : i < length xs) (hy : i < length ys) where
  split : differing (drop i xs) (drop i ys) ≡ cond (eqb (get_or xs i 0) (get_or ys i 0)) 0 1 + differing (drop (i + 1) xs) (drop (i + 1) ys)
  unfolding differing
  split = rw (drop-cons xs i 0 hx, drop-cons ys i 0 hy, add-one)

  pub differing_here : (get_or xs i 0 ≡ get_or ys i 0 → ⊥) → differing (drop i xs) (drop i ys) ≡ differing (drop (i + 1) xs) (drop (i + 1) ys) + 1
  differing_here n = split ∙ rw (ne_eqb _ _ n) (omega arith)

  pub differing-same : get_or xs i 0 ≡ get_or ys i 0 → differing (drop i xs) (drop i ys) ≡ differing (drop (i + 1) xs) (drop (i + 1) ys)
  differing-same e = split ∙ rw (eq-eqb _ _ e) (omega arith)
