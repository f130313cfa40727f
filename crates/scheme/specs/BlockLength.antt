-- Document 01's block length m: the smallest positive number that every d − z of the counts divides.
-- Assumes nothing.
use Rattle.std.specs.Prelude.{Bool, true, ◌&&◌, List, [], ◌∷◌, ℕ, ◌-◌, ◌*◌, ◌%◌, ◌≤◌, ◌<◌, eqb}
use Rattle.std.specs.Int.{◌∣◌}
use Rattle.lists.specs.Each.{Each}
use Rattle.lists.specs.FirstFrom.{first_from}

-- does every d − z divide x?
unfoldable pub divides : ℕ → List ℕ → ℕ → Bool
divides z [] x = true
divides z (d ∷ ds) x = eqb (x % (d - z)) 0 && divides z ds x

-- the product of all d − z: every d − z divides it, so a search from 1 need not go past it
unfoldable pub common_multiple : ℕ → List ℕ → ℕ
common_multiple z [] = 1
common_multiple z (d ∷ ds) = (d - z) * common_multiple z ds

unfoldable pub block_length : ℕ → List ℕ → ℕ
block_length z ds = first_from (divides z ds) (common_multiple z ds) 1

-- m is the smallest positive number that every d − z divides, of all numbers
pub record Least (z : ℕ) (ds : List ℕ) (m : ℕ) : Type 0 where
  pub positive : 0 < m
  pub divided : Each (λ d. d - z ∣ m) ds
  pub smallest : (x : ℕ) → 0 < x → Each (λ d. d - z ∣ x) ds → m ≤ x
