-- The running value of one row in 64 blocks side by side.
-- Assumes nothing.
use Rattle.std.specs.Prelude.{List, [], ◌∷◌, ℕ, get_or}
use Rattle.lists.specs.Table.{tabulate}
use Rattle.gf256.specs.Lanes.{lanes}
use Rattle.interpolation.specs.Polynomial.{next}

-- one coefficient more in each block
unfoldable pub next_each : ℕ → List ℕ → List ℕ → List ℕ
next_each x values coefficients = tabulate lanes (λ k. next x (get_or values k 0) (get_or coefficients k 0))

-- the values after all calls: the columns of coefficients, the lowest degree first, are taken from the last one down
unfoldable pub values_of : ℕ → List (List ℕ) → List ℕ
values_of x [] = tabulate lanes (λ k. 0)
values_of x (column ∷ columns) = next_each x (values_of x columns) column
