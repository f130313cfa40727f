use Rattle.std.proofs.Common.{◌≡◌, ◌*◌, ◌+◌, ◌<◌, ℕ, List, length, get_or, take, ap, sym, subst, ◌∙◌, arith}
use native.Mathlib.Nat.{le_of_eq, mul-le-mul}
use lib.Seq.{take_all}
use Rattle.lists.proofs.Joined.{row_room, place_on}
use Rattle.gf256.specs.Lanes.{lanes}
use Rattle.interpolation.specs.Interpolation.{side}
use Rattle.reader.specs.Decoding.{combined, Solved}
use Rattle.reader.proofs.Writes.{solved_degree}
use Rattle.reader.proofs.decoding.solve_batch.Goals as goal

-- the columns are all that were lent
whole_columns : (columns : List ℕ) → length columns ≡ side * lanes → take (side * lanes) columns ≡ columns
whole_columns columns long = take_all (side * lanes) columns (le_of_eq long)

pub slice_bounds-combine-end : goal.slice_bounds-combine-end
slice_bounds-combine-end c = sym (ap length (whole_columns c.args.columns.now c.requires.sums.0) ∙ c.requires.sums.0)

pub combine-column-requires : goal.combine-column-requires
combine-column-requires c =
    (ap length (whole_columns c.args.columns.now c.requires.sums.0) ∙ c.requires.sums.0, c.requires.sums.3, omega (arith, c.requires.sums.2))

-- the places of the next column are in the buffer
pub scatter-requires : goal.scatter-requires
scatter-requires c =
    let a = c.args in
    let near : get_or a.places.now c.loop-e.e 0 < a.m = c.requires.blocks.3 c.loop-e.e c.loop-e.auto.e c.loop-e-test.true in (
      c.requires.blocks.0,
      omega (arith, mul-le-mul c.requires.blocks.1 c.requires.blocks.2, c.requires.blocks.2),
      λ k h.
          omega (
            arith,
            place_on a.t k (get_or a.places.now c.loop-e.e 0) a.m,
            row_room (a.t + k) (a.t + a.many) a.m (omega arith),
            c.requires.blocks.4,
            c.loop-e.auto.work,
          ),
    )

pub loop-e-preserved : goal.loop-e-preserved
loop-e-preserved c B h =
    let l = c.loop-e in
    let a = c.args in
    let same = ap (λ (all : List ℕ). combined all a.weights.now l.e a.top) (whole_columns a.columns.now c.requires.sums.0) in
    solved_degree (l.invariant B h)
    (c.scatter.ensures B (λ k hk. ap (λ (r : List ℕ). get_or r k 0) (c.combine-column.ensures ∙ same) ∙ h l.e k l.auto.e c.loop-e-test.true hk))

pub returns : goal.returns
returns c B h =
    let l = c.loop-e in
    let a = c.args in
    let whole : l.e ≡ a.d = omega (arith, l.auto.e-end c.requires.sums.1) in
    subst (λ (x : ℕ). Solved a.t (a.t + a.many) a.m a.z x a.places.now B a.work.now l.work) whole (l.invariant B h)
