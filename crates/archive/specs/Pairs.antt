-- What a private function of the code promises: the pair that it reads.
-- Assumes nothing.
use Rattle.std.specs.Prelude.{◌≡◌, List, ℕ, ◌≤◌}
use Rattle.archive.specs.declared.pairs.Pair.{Pair}
use Rattle.archive.specs.Format.{max_number}
use Rattle.archive.specs.Reading.{offset_of, length_of}

-- the two numbers of pair i, each of two bytes
pub record PairIs (file : List ℕ) (i : ℕ) (pair : Pair) : Type 0 where
  pub offset_is : pair.offset ≡ offset_of file i
  pub length_is : pair.length ≡ length_of file i
  pub offset_fits : pair.offset ≤ max_number
  pub length_fits : pair.length ≤ max_number
