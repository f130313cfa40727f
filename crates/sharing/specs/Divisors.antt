-- No call divides by 0 (document 02, g). The basis and the weights of an opening are made by divisions, by differences of the points of two parties
-- and by products of such differences. For every accepted scheme and list of parties none of these is 0 (proofs/Divisors.antt).
-- Assumes nothing.
use Rattle.std.specs.Prelude.{◌≢◌, List, map, ℕ, ◌<◌, length, get_or}
use Rattle.lists.specs.Each.{Each, Distinct}
use Rattle.gf256.specs.Byte.{◌⊕◌}
use Rattle.interpolation.specs.Divisors.{Divisors}
use Rattle.scheme.specs.Readers.{Rising}
use Rattle.staircase.specs.Parameters.{Parameters, Party, point}

pub record DivisorsOf (p : Parameters) (parties : List ℕ) : Type 0 where
  -- the difference of the points of two of the parties, at different places of their list, is not 0
  pub apart : (i j : ℕ) → i < length parties → j < length parties → i ≢ j → point p (get_or parties i 0) ⊕ point p (get_or parties j 0) ≢ 0
  -- nor is a product of such differences; each has an inverse; and what the basis divides by, in the code and in the definition, is among them
  pub divisors : Divisors (map (point p) parties)

-- of an accepted scheme (`never_by_zero`): for every list of parties that a reader's call accepts, whose numbers rise strictly and are from 1 to n
abbrev pub NeverByZero : Parameters → Type 0
NeverByZero p = (parties : List ℕ) → Rising 0 p.n parties → DivisorsOf p parties

-- and for any distinct parties in any order (`distinct_never_by_zero`), as demand 3 speaks of them: the change of its keys is made by divisions too
abbrev pub DistinctNeverByZero : Parameters → Type 0
DistinctNeverByZero p = (parties : List ℕ) → Each (Party p) parties → Distinct parties → DivisorsOf p parties
