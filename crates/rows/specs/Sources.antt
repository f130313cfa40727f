-- Where a coefficient comes from, one step at a time, and what the places of a row are in a scheme.
-- Assumes nothing.
use Rattle.std.specs.Prelude.{◌≡◌, List, ℕ, ◌≤◌, ◌<◌, length, get_or}
use Rattle.interpolation.specs.Interpolation.{side}
use Rattle.staircase.specs.Coefficients.{origin}
use Rattle.rows.specs.Origins.{found}
use Rattle.rows.specs.declared.Source.{Source}
use Rattle.rows.specs.declared.Source.TheVariants.{Message, Copy}

-- what is found for degree e of row j is what is found for degree e' of row j', an earlier one
pub record Copied (m z : ℕ) (ds : List ℕ) (j e j' e' : ℕ) : Type 0 where
  pub earlier : j' < j
  pub same : found m z ds j' e' ≡ found m z ds j e

-- the coefficient of degree e of row j comes from there
abbrev pub SourceIs : ℕ → ℕ → List ℕ → ℕ → ℕ → Source → Type 0
SourceIs m z ds j e (Message place) = place ≡ found m z ds j e
SourceIs m z ds j e (Copy j' e') = Copied m z ds j e j' e'

-- at each degree from z up, below d, stands the origin of the coefficient of row j, a place in the block
pub record RowOrigins (m z : ℕ) (ds : List ℕ) (j d : ℕ) (places : List ℕ) : Type 0 where
  pub long : length places ≡ side
  pub is : (e : ℕ) → z ≤ e → e < d → get_or places e 0 ≡ origin m z ds j e
  pub below : (e : ℕ) → z ≤ e → e < d → get_or places e 0 < m
