-- The answer for the size decides the table, and the first entries of the points' array are the parties' points.
use Rattle.std.proofs.Common.{◌≡◌, ℕ, ◌≤◌, length, take, sym, ap, ◌∙◌, arith}
use lib.Seq.{length-take-le}
use Rattle.lists.specs.Table.{tabulate}
use Rattle.interpolation.specs.Interpolation.{side, basis_table}
use Rattle.staircase.specs.Parameters.{given_parameters}
use Rattle.rows.proofs.Points.{points_are}
use Rattle.reader.specs.Basis.{basis_refusal, zero_table}
use Rattle.reader.proofs.BasisAnswers.{basis-given, table_given, table_refused, size_told}
use Rattle.reader.proofs.bases.basis.Goals as goal
use Rattle.reader.proofs.bases.basis.Goals.{In-Ok}

module _ (c : In-Ok) where
  size_of : (basis_refusal (given_parameters c.args.given) c.args.parties.now ≡ 0) × (c.in-Ok.d ≡ length c.args.parties.now)
  size_of = size_told _ _ _ _ c.basis_size.ensures c.in-Ok.is

  few : length c.args.parties.now ≤ side
  few = (basis-given _ _ size_of.0).few

pub returns-in_default : goal.returns-in_default
unfolding zero_table tabulate
returns-in_default c = table_refused _ _ _ _ c.basis_size.ensures c.in_default.is

pub slice_bounds-points-end : goal.slice_bounds-points-end
slice_bounds-points-end c =
    let k = (goal.at.slice_bounds-points-end c).In-Ok in
    omega (arith, (size_of k).1, few k)

pub slice_bounds-basis-end : goal.slice_bounds-basis-end
slice_bounds-basis-end c =
    let k = (goal.at.slice_bounds-basis-end c).In-Ok in
    sym (length-take-le _ c.points_of-points.result (omega (arith, (size_of k).1, few k)))

pub returns : goal.returns
returns c =
    let k = (goal.at.returns c).In-Ok in
    let points = c.points_of-points in
    c.basis.ensures
    ∙ ap (λ (d : ℕ). basis_table (take d points.result)) (size_of k).1
    ∙ ap basis_table (points_are _ _ _ (points.ensures _) (few k))
    ∙ table_given _ _ (size_of k).0
