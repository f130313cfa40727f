-- What an accepted scheme satisfies, said of the values that the check answers.
-- Assumes nothing.
use mathlib.Core.List.{List}
use Prim.Native.Nat.{ℕ, ◌-◌, ◌≤◌, ◌<◌}
use native.Mathlib.Nat.{div-le_self}
use native.Mathlib.Omega.{arith}
use lib.ListN.{length}
use Rattle.scheme.specs.declared.accepted.Scheme.{Scheme}
use Rattle.scheme.specs.Limits.{max_parties}
use Rattle.scheme.specs.Check.{last, rows_of_count}
use Rattle.scheme.specs.Facts as facts
use Rattle.scheme.specs.Facts.{SchemeIs}
use Rattle.scheme.proofs.Laws.{accepted}
use Rattle.staircase.specs.Coefficients.{group_of, count_of}
use Rattle.staircase.proofs.Groups.{group_place}

module _ (s : Scheme) (ds : List ℕ) (S : SchemeIs s s.n s.r s.z ds) where
  pub facts_of : facts.SchemeFacts s.n s.r s.z ds s.block s.rows
  facts_of = rw (S.rows_is, S.block_is) (accepted s.n s.r s.z ds S.passed)

  -- a block has no more rows than bytes
  pub rows_high : s.rows ≤ s.block
  unfolding rows_of_count
  rows_high = omega (arith, facts_of.last-rows, div-le_self s.block (last ds - s.z))

  module _ (row : ℕ) (h : row < s.rows) where
    -- a row has a group
    pub row_group : group_of s.block s.z ds row < length ds
    row_group = group_place s.n s.r s.z ds s.block s.rows facts_of row h

    -- and at most 16 coefficients
    pub row_count_high : count_of s.block s.z ds row ≤ max_parties
    unfolding count_of
    row_count_high = omega (arith, facts_of.high (group_of s.block s.z ds row) row_group, facts_of.sizes.parties_high)
