-- The columns from e on are taken.
use Rattle.std.proofs.Common.{◌≡◌, drop}
use Rattle.interpolation.specs.RowValue.{values_of}
use Rattle.columns.specs.Columns.{flat_columns}
use Rattle.columns.proofs.flat_values.Given as goal

abbrev pub invariant-loop-e : goal.invariant-loop-e
invariant-loop-e l = record {
  point : l.value.point ≡ l.point;
  values : l.value.values ≡ values_of l.point (drop l.e (flat_columns l.d l.columns));
}
