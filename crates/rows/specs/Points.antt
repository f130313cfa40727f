-- The points of parties as the code lists them: an array of 16, with zeros after the last of them.
-- Assumes nothing.
use Rattle.std.specs.Prelude.{cond, List, ℕ, ◌+◌, ltb, length, get_or}
use Rattle.lists.specs.Table.{tabulate}
use Rattle.interpolation.specs.Interpolation.{side}
use Rattle.staircase.specs.Parameters.{Parameters, point}

-- entry i for so many parties, of which the one at place i, counted from 0, has the number s i
unfoldable pub point_at : Parameters → ℕ → (ℕ → ℕ) → ℕ → ℕ
point_at p many s i = cond (ltb i many) (point p (s i)) 0

-- all 16 entries: where there are more parties, the points of the first 16
unfoldable pub points_at : Parameters → ℕ → (ℕ → ℕ) → List ℕ
points_at p many s = tabulate side (point_at p many s)

-- for the parties of a list
unfoldable pub points_of : Parameters → List ℕ → List ℕ
points_of p parties = points_at p (length parties) (λ i. get_or parties i 0)

-- for parties 1 to n
unfoldable pub party_points : Parameters → ℕ → List ℕ
party_points p n = points_at p n (λ i. i + 1)
