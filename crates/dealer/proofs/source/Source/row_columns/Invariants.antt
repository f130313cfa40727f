-- The first e columns are gathered.
-- Assumes nothing.
use Rattle.std.proofs.Common.{◌≡◌, ℕ, ◌<◌}
use Rattle.columns.specs.Columns.{flat_column}
use Rattle.dealer.specs.Sources.{column_of}
use Rattle.dealer.proofs.source.Source.row_columns.Given as goal

abbrev pub invariant-loop-e : goal.invariant-loop-e
invariant-loop-e l = (i : ℕ) → i < l.e → flat_column l.columns i ≡ column_of l.self l.t l.j i
