-- `dealer::source::Source::row_columns` meets its contract: each turn gathers one column more.
-- Assumes nothing.
use Rattle.std.proofs.Common.{◌≡◌, ◌+◌, ◌*◌, ◌≤◌, ◌∙◌, length, arith}
use Rattle.lists.proofs.Parts.{part_length}
use Rattle.gf256.specs.Lanes.{lanes}
use Rattle.columns.proofs.Laws.{flat_more, flat_are}
use Rattle.dealer.proofs.source.Source.row_columns.Goals as goal

pub loop-e-preserved : goal.loop-e-preserved
loop-e-preserved c =
    let l = c.loop-e in
    let y = c.column.new.out in
    let room : l.e * lanes + lanes ≤ length l.columns = omega (arith, l.auto.columns, c.requires.long, c.requires.degrees) in
    let long : length y ≡ lanes = c.column.auto.out ∙ part_length (l.e * lanes) lanes l.columns room in
    flat_more l.e l.columns y room long _ l.invariant c.column.ensures

pub returns : goal.returns
returns c = flat_are c.args.d c.loop-e.columns _ c.requires.degrees (λ i h. c.loop-e.invariant i (omega arith))
