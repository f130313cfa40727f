-- `dealer::parties::fill_parties` meets its contract: each turn fills one share more.
-- Assumes nothing.
use Rattle.std.proofs.Common.{◌≡◌, ◌+◌, ◌*◌, ◌≤◌, ◌∙◌, ℕ, List, length, get_or, take, get_or-take, refl, ap, arith}
use Rattle.lists.proofs.Joined.{row_room}
use Rattle.lists.proofs.Parts.{part_length}
use Rattle.std.proofs.Math.Seq.{length-take-le}
use Rattle.gf256.specs.Lanes.{lanes}
use Rattle.interpolation.specs.RowValue.{values_of}
use Rattle.columns.specs.Columns.{flat_columns}
use Rattle.columns.proofs.Laws.{length-values}
use Rattle.dealer.proofs.Filled.{filled_none, filled_more}
use Rattle.dealer.proofs.parties.fill_parties.Goals as goal

pub loop-a-init : goal.loop-a-init
loop-a-init c = filled_none _ _ _ _ _

pub loop-a-preserved : goal.loop-a-preserved
loop-a-preserved c =
    let l = c.loop-a in
    let r = c.requires in
    let x = get_or c.args.points.now l.a 0 in
    let columns = flat_columns c.args.d c.args.columns.now in
    let whole : length (values_of x columns) ≡ lanes = length-values x columns in
    let fits : c.args.many ≤ length (values_of x columns) = omega arith in
    let at : ℕ = l.a * c.args.share + c.args.q in
    let room : at + c.args.many ≤ length l.out = omega (arith, row_room l.a (length c.args.points.now) c.args.share c.loop-a-test.true, l.invariant.long) in
    let lent = part_length at c.args.many l.out room in
    let copied : c.put.new.out ≡ take c.args.many (values_of x columns) = rw (lent, c.flat_values-values.ensures) at c.put.ensures in
    filled_more (length c.args.points.now) c.put.new.out l.invariant c.loop-a-test.true r.1 r.2 refl
    (ap length copied ∙ length-take-le c.args.many (values_of x columns) fits)
    (λ k h. ap (λ (y : List ℕ). get_or y k 0) copied ∙ get_or-take c.args.many (values_of x columns) k 0 h)

pub returns : goal.returns
returns c =
    let z : c.loop-a.a ≡ length c.args.points.now = omega arith in
    rw z at c.loop-a.invariant
