-- What the functions on 64 blocks side by side make.
-- Assumes nothing.
use Rattle.std.specs.Prelude.{List, ℕ, ◌+◌, ◌*◌, ◌≤◌, ◌<◌, min, get_or}
use Rattle.lists.specs.Table.{tabulate}
use Rattle.gf256.specs.Lanes.{lanes}
use Rattle.interpolation.specs.Interpolation.{side}

-- n bytes of a string, `step` apart from place `at` on, and 0 past its end
unfoldable pub strided_for : ℕ → List ℕ → ℕ → ℕ → List ℕ
strided_for n bytes at step = tabulate n (λ k. get_or bytes (at + k * step) 0)

-- 64 of them
abbrev pub strided : List ℕ → ℕ → ℕ → List ℕ
strided bytes at step = strided_for lanes bytes at step

-- of the first `most` places, `step` apart from `at` on, just the first r lie below `size`
pub record Inside (size at step most r : ℕ) : Type 0 where
  pub within : r ≤ most
  pub before : (k : ℕ) → k < r → at + k * step < size
  pub after : (k : ℕ) → r ≤ k → k < most → size ≤ at + k * step

-- column e of 64 bytes, where columns stand one after another
unfoldable pub flat_column : List ℕ → ℕ → List ℕ
flat_column bytes e = tabulate lanes (λ k. get_or bytes (e * lanes + k) 0)

-- the first d of them, at most 16
unfoldable pub flat_columns : ℕ → List ℕ → List (List ℕ)
flat_columns d bytes = tabulate (min d side) (flat_column bytes)
