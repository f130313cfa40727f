-- The first a shares are filled.
-- Assumes nothing.
use Rattle.std.proofs.Common.{get_or}
use Rattle.interpolation.specs.RowValue.{values_of}
use Rattle.columns.specs.Columns.{flat_columns}
use Rattle.dealer.specs.Columns.{Filled}
use Rattle.dealer.proofs.parties.fill_parties.Given as goal

abbrev pub invariant-loop-a : goal.invariant-loop-a
invariant-loop-a l =
    Filled l.share l.q l.many (λ s k. get_or (values_of (get_or l.points s 0) (flat_columns l.d l.columns)) k 0) l.a l.initial.out l.out
