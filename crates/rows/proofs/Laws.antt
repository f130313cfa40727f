-- The laws for whoever cites them: in a scheme the search finds the origin of every coefficient, by induction on the row, since none of the cases
-- in which there is nothing to find applies.
-- Assumes nothing.
use mathlib.Core.Path.{◌≡◌, refl, sym, ap, ◌∙◌}
use mathlib.Core.List.{List}
use mathlib.Core.Logic.{⊎_elim}
use Prim.Native.Nat.{ℕ, zero, suc, ◌+◌, ◌-◌, ◌*◌, ◌/◌, ◌%◌, ◌≤◌, ◌<◌}
use native.Mathlib.Nat.{eq-zero-or-pos}
use native.Mathlib.Omega.{arith}
use lib.ListN.{length, get_or}
use Rattle.interpolation.specs.Interpolation.{side}
use Rattle.scheme.specs.declared.accepted.Scheme.{Scheme}
use Rattle.scheme.specs.Check.{rows_of_count}
use Rattle.scheme.specs.Facts.{SchemeIs}
use Rattle.staircase.specs.Coefficients.{group_of, count_of, origin}
use Rattle.staircase.proofs.Groups.{group_below}
use Rattle.staircase.proofs.Origin.{origin-first, origin-later, origin-falls, origin_below}
use Rattle.rows.specs.Origins.{found, origins_over}
use Rattle.rows.specs.Sources.{RowOrigins}
use Rattle.rows.proofs.Scheme.{facts_of, row_count_high}
use Rattle.rows.proofs.Steps.{first, later}
use Rattle.rows.proofs.Over.{over_long, over_at}

module _ (s : Scheme) (ds : List ℕ) (S : SchemeIs s s.n s.r s.z ds) where
  origin_in_lem : (bound row e : ℕ) → row < bound → row < s.rows → s.z ≤ e → e < count_of s.block s.z ds row
      → found s.block s.z ds row e ≡ origin s.block s.z ds row e
  unfolding count_of
  origin_in_lem zero row e l h low high = absurd (omega arith)
  origin_in_lem (suc bound) row e l h low high =
      let m : ℕ = s.block in
      let z : ℕ = s.z in
      let A = facts_of s ds S in
      let i : ℕ = group_of m z ds row in
      let d : ℕ = get_or ds i 0 in
      let above : ℕ = get_or ds (i - 1) 0 in
      let before : ℕ = rows_of_count m z above in
      let q : ℕ = (row - before) * (d - z) + (e - z) in
      ⊎_elim (λ (g : i ≡ 0).
      let d0 : d ≡ get_or ds 0 0 = ap (λ (x : ℕ). get_or ds x 0) g in
      let own : row < rows_of_count m z d = group_below s.n s.r z ds m s.rows A row h in
      sym (first m z ds row e i d z refl refl refl low high g).is
      ∙ ap (λ (x : ℕ). row * (x - z) + (e - z)) d0
      ∙ sym (origin-first s.n s.r z ds m s.rows A row e (rw d0 at own)))
      (λ (g : 0 < i).
      let t = origin-falls s.n s.r z ds m s.rows A row e i d above q h refl g refl refl refl high in
      let step = later m z ds row e i d z refl refl refl low high above (λ x. omega arith) refl before q (omega (arith, t.high)) refl refl in
      sym (step.copied t.earlier).same
      ∙ origin_in_lem bound (q / (above - d)) (d + q % (above - d)) (omega (arith, t.earlier)) t.below t.low t.within
      ∙ sym (origin-later s.n s.r z ds m s.rows A row e i d above q h refl g refl refl refl high))
      (eq-zero-or-pos i)

  module _ (row : ℕ) (h : row < s.rows) where
    pub found-origin : (e : ℕ) → s.z ≤ e → e < count_of s.block s.z ds row
        → found s.block s.z ds row e ≡ origin s.block s.z ds row e
    found-origin e low high = origin_in_lem (suc row) row e (omega arith) h low high

    -- so what `row_origins` writes over 16 places are the origins of the row's coefficients
    pub row_origins : (places : List ℕ) → length places ≡ side
        → RowOrigins s.block s.z ds row (count_of s.block s.z ds row) (origins_over s.block s.z ds row places)
    row_origins places long =
        let is : (e : ℕ) → s.z ≤ e → e < count_of s.block s.z ds row
        → get_or (origins_over s.block s.z ds row places) e 0 ≡ origin s.block s.z ds row e
        = λ e low high.
        over_at s.block s.z ds row places e low high (omega (arith, row_count_high s ds S row h)) ∙ found-origin e low high in
        record {
          long = over_long s.block s.z ds row places ∙ long;
          is = is;
          below = λ e low high. rw (is e low high) (origin_below s.n s.r s.z ds s.block s.rows (facts_of s ds S) row e h low high);
        }
