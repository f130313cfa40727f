-- The entries of the table of weights: `weight` by cases, and the table's entries.
-- Assumes nothing.
use mathlib.Core.Path.{◌≡◌}
use mathlib.Core.Bool.{true, false, and-false}
use mathlib.Core.List.{List, []}
use Prim.Native.Nat.{ℕ, ◌≤◌, ◌<◌}
use lib.ListN.{length, get_or}
use borrow.Author.Tests.{lt-ltb, le-ltb, le-leb, lt-leb}
use Rattle.lists.specs.Each.{distinct}
use Rattle.lists.proofs.Table.{get_or-rows}
use Rattle.interpolation.specs.Interpolation.{side, basis, weight, basis_table}

module _ (ps : List ℕ) (i e : ℕ) where
  pub weight-within : i < length ps → length ps ≤ side → distinct ps ≡ true → weight ps i e ≡ get_or (basis ps i) e 0
  unfolding weight
  weight-within h m d = simp (le-leb _ _ m, d, lt-ltb _ _ h)

  pub weight_beyond : length ps ≤ i → weight ps i e ≡ 0
  unfolding weight
  weight_beyond h = simp (le-ltb _ _ h, and-false)

  pub weight_too_many : side < length ps → weight ps i e ≡ 0
  unfolding weight
  weight_too_many h = simp (lt-leb _ _ h)

  pub weight_not_distinct : distinct ps ≡ false → weight ps i e ≡ 0
  unfolding weight
  weight_not_distinct d = simp (d, and-false)

  pub table_at : i < side → e < side → get_or (get_or (basis_table ps) i []) e 0 ≡ weight ps i e
  unfolding basis_table
  table_at h l = get_or-rows side side (weight ps) i e 0 h l
