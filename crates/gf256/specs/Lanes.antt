-- The same arithmetic on 64 bytes side by side, entry by entry: what the inner loops work on.
-- Assumes nothing.
use Rattle.std.specs.Prelude.{List, ℕ, get_or}
use Rattle.lists.specs.Table.{tabulate}
use Rattle.gf256.specs.Byte.{◌⊕◌, ◌⊗◌}

-- how many bytes stand side by side
abbrev pub lanes : ℕ
lanes = 64

unfoldable pub sums : List ℕ → List ℕ → List ℕ
sums xs ys = tabulate lanes (λ i. get_or xs i 0 ⊕ get_or ys i 0)

-- every byte times `by`
unfoldable pub scaled : ℕ → List ℕ → List ℕ
scaled by xs = tabulate lanes (λ i. by ⊗ get_or xs i 0)
