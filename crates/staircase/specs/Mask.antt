-- The change of the keys behind the secrecy of staircase shares: what is added to the keys of a block, so that some parties have the same of one block
-- with the keys and of another with the changed keys.
-- Assumes nothing.
use Rattle.std.specs.Prelude.{List, map, ℕ, ◌+◌, ◌-◌, get_or}
use Rattle.lists.specs.Table.{tabulate, joined}
use Rattle.gf256.specs.Byte.{◌⊕◌, ◌⊗◌, power}
use Rattle.interpolation.specs.Polynomial.{eval}
use Rattle.interpolation.specs.Interpolation.{fitted}
use Rattle.staircase.specs.Coefficients.{count_of, origin}
use Rattle.staircase.specs.Parameters.{Parameters, block, rows, point}

-- the coefficients of row j from degree z up: message bytes alone
unfoldable pub rest_of : ℕ → ℕ → List ℕ → List ℕ → ℕ → List ℕ
rest_of m z ds bytes j = tabulate (count_of m z ds j - z) (λ e. get_or bytes (origin m z ds j (z + e)) 0)

-- what they add to the row's value at x
unfoldable pub upper : ℕ → List ℕ → ℕ → ℕ
upper z rest x = power x z ⊗ eval x rest

-- the z bytes that take, at the points xs, the difference of what two rests add
unfoldable pub row_mask : ℕ → List ℕ → List ℕ → List ℕ → List ℕ
row_mask z xs first second = fitted z xs (map (λ x. upper z first x ⊕ upper z second x) xs)

-- row after row, for two blocks and some parties
unfoldable pub block_mask : Parameters → List ℕ → List ℕ → List ℕ → List ℕ
block_mask p parties first second =
    joined (rows p)
    (λ j. row_mask p.z (map (point p) parties) (rest_of (block p) p.z p.counts first j) (rest_of (block p) p.z p.counts second j))
