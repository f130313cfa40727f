-- The table of weights as the code fills it, row by row from zeros: the rows below i and those beyond the points are right.
-- Assumes nothing.
use mathlib.Core.Path.{◌≡◌, refl, sym, ◌∙◌}
use mathlib.Core.Bool.{false}
use mathlib.Core.List.{List, []}
use Prim.Native.Nat.{ℕ, ◌+◌, ◌≤◌, ◌<◌}
use native.Mathlib.Omega.{arith}
use lib.ListN.{length, get_or, replicate, set, get_or-replicate}
use Rattle.lists.specs.Each.{distinct}
use Rattle.lists.specs.Table.{tabulate}
use Rattle.lists.proofs.Each.{replicate-at}
use Rattle.lists.proofs.Known.{Written, written_more, written_all}
use Rattle.lists.proofs.Table.{tabulate_is}
use Rattle.interpolation.specs.Interpolation.{side, weight, basis_table}
use Rattle.interpolation.proofs.Weights.{weight_beyond, weight_too_many, weight_not_distinct}

-- zeros, shut so that a goal does not print all 256
unfoldable pub zeros : List ℕ
zeros = replicate side 0

unfoldable pub zero-rows : List (List ℕ)
zero-rows = replicate side zeros

pub record Rows (ps : List ℕ) (i : ℕ) (table : List (List ℕ)) : Type 0 where
  pub within : i ≤ length ps
  pub rows : Written [] (λ k. tabulate side (weight ps k)) side (length ps) i table

module _ (ps : List ℕ) where
  -- where every weight is 0 the row is zeros, and so the table
  row_zero : (k : ℕ) → k < side → ((e : ℕ) → weight ps k e ≡ 0) → get_or zero-rows k [] ≡ tabulate side (weight ps k)
  unfolding zeros zero-rows
  row_zero k l z =
      get_or-replicate side k zeros [] l ∙ tabulate_is zeros side (weight ps k) 0 refl (λ e b. replicate-at side e 0 ∙ sym (z e))

  table_zero : ((k e : ℕ) → weight ps k e ≡ 0) → zero-rows ≡ basis_table ps
  unfolding zero-rows basis_table
  table_zero z = tabulate_is zero-rows side (λ k. tabulate side (weight ps k)) [] refl (λ k l. row_zero k l (z k))

  pub too_many : side < length ps → zero-rows ≡ basis_table ps
  too_many h = table_zero (λ k e. weight_too_many ps k e h)

  pub not-distinct : distinct ps ≡ false → zero-rows ≡ basis_table ps
  not-distinct d = table_zero (λ k e. weight_not_distinct ps k e d)

  pub rows_none : Rows ps 0 zero-rows
  unfolding zero-rows
  rows_none =
      record {
        within = omega arith;
        rows = record { long = refl; is = λ k l b. row_zero k l (λ e. weight_beyond ps k e (b (omega arith))) };
      }

  pub rows_more : (i : ℕ) (table : List (List ℕ)) (row : List ℕ) → i < length ps → length ps ≤ side → row ≡ tabulate side (weight ps i)
      → Rows ps i table → Rows ps (i + 1) (set table i row)
  rows_more i table row h m e r = record { within = omega arith; rows = written_more r.rows h m e }

  pub rows_all : (i : ℕ) (table : List (List ℕ)) → length ps ≤ i → Rows ps i table → table ≡ basis_table ps
  unfolding basis_table
  rows_all i table h r = written_all r.rows h
