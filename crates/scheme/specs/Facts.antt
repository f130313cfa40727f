-- What holds of every accepted scheme, for the layers above, and of the number of a message's blocks.
-- Assumes nothing.
use Rattle.std.specs.Prelude.{◌≡◌, List, ℕ, ◌+◌, ◌-◌, ◌*◌, ◌≤◌, ◌<◌, length, get_or}
use Rattle.scheme.specs.Limits.{max_parties, max_counts, max_block}
use Rattle.scheme.specs.declared.accepted.Scheme.{Scheme}
use Rattle.scheme.specs.BlockLength.{block_length, Least}
use Rattle.scheme.specs.Check.{first, last, refusal, rows_of_count, rows_of_block}

-- refusals 1 and 2 do not apply: n, r and z alone
pub record ThresholdsFit (n r z : ℕ) : Type 0 where
  pub parties_low : 2 ≤ n
  pub parties_high : n ≤ max_parties
  pub threshold : 0 < z
  pub room : r + z < n

-- an accepted scheme with block length m and b rows a block. The counts are d 0 > d 1 > ..; P d is `rows_of_count m z d`.
pub record SchemeFacts (n r z : ℕ) (ds : List ℕ) (m b : ℕ) : Type 0 where
  pub sizes : ThresholdsFit n r z
  pub some : 0 < length ds
  pub most : length ds ≤ max_counts
  pub falling : (i : ℕ) → i + 1 < length ds → get_or ds (i + 1) 0 < get_or ds i 0
  pub top : first ds ≤ n
  pub bottom : last ds ≡ n - r
  -- every count is between the last and the first
  pub low : (i : ℕ) → i < length ds → n - r ≤ get_or ds i 0
  pub high : (i : ℕ) → i < length ds → get_or ds i 0 ≤ n
  pub least : Least z ds m
  pub limit : m ≤ max_block
  -- k × b = m
  pub rows : (n - r - z) * b ≡ m
  -- P × (d − z) = m
  pub rows_of-count : (i : ℕ) → i < length ds → rows_of_count m z (get_or ds i 0) * (get_or ds i 0 - z) ≡ m
  -- 0 < P 1 < P 2 < .. , and the last P is b
  pub first_rows : 0 < rows_of_count m z (first ds)
  pub rising : (i : ℕ) → i + 1 < length ds → rows_of_count m z (get_or ds i 0) < rows_of_count m z (get_or ds (i + 1) 0)
  pub last-rows : rows_of_count m z (last ds) ≡ b
  -- copying fits exactly: the degrees that the earlier rows lose fill the next group's rows
  pub fits : (i : ℕ) → i + 1 < length ds
      → (rows_of_count m z (get_or ds (i + 1) 0) - rows_of_count m z (get_or ds i 0)) * (get_or ds (i + 1) 0 - z)
      ≡ rows_of_count m z (get_or ds i 0) * (get_or ds i 0 - get_or ds (i + 1) 0)

-- s is what the check answers for parameters that it accepts
pub record SchemeIs (s : Scheme) (n r z : ℕ) (ds : List ℕ) : Type 0 where
  pub passed : refusal n r z ds ≡ 0
  pub n_is : s.n ≡ n
  pub r_is : s.r ≡ r
  pub z_is : s.z ≡ z
  pub block_is : s.block ≡ block_length z ds
  pub rows_is : s.rows ≡ rows_of_block n r z (block_length z ds)

-- N blocks of m bytes hold a message of so many bytes, and no fewer do
pub record FewestBlocks (m bytes N : ℕ) : Type 0 where
  pub enough : bytes ≤ N * m
  pub fewest : (blocks : ℕ) → bytes ≤ blocks * m → N ≤ blocks
