-- The running value of a row, block by block: after the calls from the highest coefficient down, byte k is the value of the row in block k.
-- And the step and the start of a loop that makes the calls, with e counting down from the number of coefficients.
-- Assumes nothing.
use mathlib.Core.Path.{◌≡◌, sym, ap, ◌∙◌}
use mathlib.Core.List.{List, [], ◌∷◌, map}
use Prim.Native.Nat.{ℕ, ◌+◌, ◌<◌}
use native.Mathlib.Numerals.{add-one}
use lib.ListN.{length, get_or, drop}
use lib.Seq.{drop-cons, drop-length}
use Rattle.lists.specs.Table.{tabulate}
use Rattle.lists.proofs.Table.{get_or-tabulate, tabulate-same, tabulate_is}
use Rattle.gf256.specs.Byte.{◌⊕◌}
use Rattle.gf256.specs.Lanes.{lanes, sums, scaled}
use Rattle.gf256.proofs.Laws.{⊗-zero, ⊕-zero}
use Rattle.interpolation.specs.Polynomial.{next, eval}
use Rattle.interpolation.specs.RowValue.{next_each, values_of}

-- one coefficient more, in block k
pub next-at : (x : ℕ) (values coefficients : List ℕ) (k : ℕ) → k < lanes
    → get_or (next_each x values coefficients) k 0 ≡ next x (get_or values k 0) (get_or coefficients k 0)
unfolding next_each
next-at x values coefficients k h = get_or-tabulate lanes _ k 0 h

-- what a coefficient makes of zeros is the coefficient
pub next_of_zeros : (x : ℕ) (coefficients : List ℕ) → length coefficients ≡ lanes → coefficients ≡ next_each x (tabulate lanes (λ k. 0)) coefficients
unfolding next_each next
next_of_zeros x coefficients long =
    tabulate_is coefficients lanes _ 0 long (λ k h. sym (rw (get_or-tabulate {A = ℕ} lanes (λ k. 0) k 0 h, ⊗-zero, ⊕-zero)))

pub row_value : (x : ℕ) (columns : List (List ℕ)) (k : ℕ) → k < lanes
    → get_or (values_of x columns) k 0 ≡ eval x (map (λ column. get_or column k 0) columns)
unfolding values_of eval
row_value x [] k h = get_or-tabulate lanes _ k 0 h
row_value x (column ∷ columns) k h =
    next-at x (values_of x columns) column k h ∙ ap (λ v. next x v (get_or column k 0)) (row_value x columns k h)

pub row-start : (x : ℕ) (columns : List (List ℕ)) → values_of x (drop (length columns) columns) ≡ tabulate lanes (λ k. 0)
unfolding values_of
row-start x columns = rw (drop-length columns)

pub row_step : (x : ℕ) (columns : List (List ℕ)) (e : ℕ) → e < length columns
    → values_of x (drop e columns) ≡ next_each x (values_of x (drop (e + 1) columns)) (get_or columns e [])
unfolding values_of
row_step x columns e h = rw (add-one, drop-cons columns e [])

-- by the sums and the products of bytes side by side
pub next_by_lanes : (x : ℕ) (values coefficients : List ℕ) {t r : List ℕ} → t ≡ scaled x values → r ≡ sums coefficients t → r ≡ next_each x values coefficients
unfolding next_each next sums scaled
next_by_lanes x values coefficients e f =
    f ∙ ap (sums coefficients) e ∙ tabulate-same lanes _ _ (λ k h. ap (◌⊕◌ (get_or coefficients k 0)) (get_or-tabulate lanes _ k 0 h))
