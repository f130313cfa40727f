-- `dealer::shares::fill_shares` meets its contract: each batch fills the shares further, and the last of a row ends where the next row begins.
-- Assumes nothing.
use Rattle.std.proofs.Common.{subst, ◌≡◌, ◌+◌, ◌*◌, ◌∙◌, ℕ, length, take, sym, ap, rules, arith}
use native.Mathlib.Nat.{zero-mul}
use Rattle.lists.proofs.Columns.{Columns, columns_none, columns_all}
use Rattle.dealer.specs.Sources.{byte_of}
use Rattle.dealer.proofs.Rows.{share_most, parties_few, points_long, degrees_few, origins_are, inside, more}
use Rattle.dealer.proofs.shares.fill_shares.Goals as goal
use Rattle.dealer.proofs.shares.fill_shares.Goals.{else-batch-test, then-batch-test+else-blocks-t-gt64}

pub overflow_mul-share : goal.overflow_mul-share
overflow_mul-share c = omega (arith, share_most c.args.source.now _ c.requires.0)

pub row-init : goal.row-init
row-init c = (
  search rules,
  search rules,
  subst (λ (q : ℕ). Columns (byte_of c.args.source.now c.args.blocks) c.args.source.now.scheme.n (c.args.source.now.scheme.rows * c.args.blocks) q c.args.out.now)
      (sym (zero-mul c.args.blocks)) (columns_none _ _ _ _ c.requires.1),
)

pub overflow_mul-q : goal.overflow_mul-q
overflow_mul-q c =
    omega (arith, share_most c.args.source.now _ c.requires.0, inside c.args.source.now _ _ c.row-test.true c.row_origins-d.ensures.0 _ _ _ c.batch-test.true c.batch_of-many.ensures)

pub overflow_add-q : goal.overflow_add-q
overflow_add-q c =
    omega (arith, share_most c.args.source.now _ c.requires.0, inside c.args.source.now _ _ c.row-test.true c.row_origins-d.ensures.0 _ _ _ c.batch-test.true c.batch_of-many.ensures)

pub row_columns-requires-clause-degrees : goal.row_columns-requires-clause-degrees
row_columns-requires-clause-degrees c = degrees_few c.args.source.now _ _ c.row-test.true c.row_origins-d.ensures.0

pub row_columns-requires-clause-places : goal.row_columns-requires-clause-places
row_columns-requires-clause-places c =
    origins_are c.args.source.now _ _ c.row-test.true c.row_origins-d.ensures.0 c.row.places _ c.row.invariant.0 c.row_origins-d.ensures.1

pub slice_bounds-points-end : goal.slice_bounds-points-end
slice_bounds-points-end c =
    omega (arith, parties_few c.args.source.now _ c.party_points-points.result c.from-n.ensures (c.party_points-points.ensures _))

pub slice_bounds-fill_parties-end : goal.slice_bounds-fill_parties-end
slice_bounds-fill_parties-end c = sym (points_long c.args.source.now _ c.party_points-points.result c.from-n.ensures (c.party_points-points.ensures _))

pub fill_parties-requires : goal.fill_parties-requires
fill_parties-requires c =
    let x = c.args.source.now in
    let long : length (take c.from-n.result c.party_points-points.result) ≡ x.scheme.n = points_long x _ c.party_points-points.result c.from-n.ensures (c.party_points-points.ensures _) ∙ c.from-n.ensures in (
      omega (arith, c.batch_of-many.ensures),
      inside x _ _ c.row-test.true c.row_origins-d.ensures.0 _ _ _ c.batch-test.true c.batch_of-many.ensures,
      c.batch.invariant.2.long ∙ ap (λ (n : ℕ). n * (x.scheme.rows * c.args.blocks)) (sym long),
    )

pub batch-preserved : goal.batch-preserved
batch-preserved c =
    let x = c.args.source.now in
    let many : c.batch_of-many.result ≡ 64 = omega (arith, c.batch_of-many.ensures) in
    let e : c.row.j * c.args.blocks + c.batch.t + c.batch_of-many.result ≡ c.row.j * c.args.blocks + (c.batch.t + 64) = omega arith in (
      omega arith,
      c.row_columns.auto.columns ∙ c.batch.invariant.1,
      rw e at (more x _ _ c.row-test.true c.row_origins-d.ensures.0 _ _ _ c.batch-test.true c.batch_of-many.ensures _ c.party_points-points.result c.row_columns.new.columns c.batch.out c.fill_parties.new.out
          c.from-n.ensures (c.party_points-points.ensures _) c.row_columns.ensures c.batch.invariant.2 c.fill_parties.ensures),
    )

pub row-preserved : goal.row-preserved
row-preserved c =
    let x = c.args.source.now in
    let places = origins_are x _ _ c.row-test.true c.row_origins-d.ensures.0 c.row.places _ c.row.invariant.0 c.row_origins-d.ensures.1 in
    elim c.batch-test.branch [
      | else-batch-test w ↦
          (let e : c.row.j * c.args.blocks + c.batch.t ≡ (c.row.j + 1) * c.args.blocks = omega arith in
          (places.long, rw w.columns-is c.batch.invariant.1, rw w.out-is (rw e at c.batch.invariant.2)))
      | then-batch-test+else-blocks-t-gt64 w ↦
          (let e : c.row.j * c.args.blocks + c.batch.t + w.batch_of-many.result ≡ (c.row.j + 1) * c.args.blocks = omega (arith, w.batch_of-many.ensures) in (
            places.long,
            rw w.columns-is (w.row_columns.auto.columns ∙ c.batch.invariant.1),
            rw w.out-is
                (rw e at (more x _ _ c.row-test.true c.row_origins-d.ensures.0 _ _ _ w.batch-test.true w.batch_of-many.ensures _ c.party_points-points.result w.row_columns.new.columns c.batch.out w.fill_parties.new.out
                c.from-n.ensures (c.party_points-points.ensures _) w.row_columns.ensures c.batch.invariant.2 w.fill_parties.ensures)),
          ))
    ]

pub returns : goal.returns
returns c =
    let e : c.row.j ≡ c.args.source.now.scheme.rows = omega arith in
    columns_all {f = byte_of c.args.source.now c.args.blocks} c.row.invariant.2 (omega (arith, ap (λ (n : ℕ). n * c.args.blocks) e))
