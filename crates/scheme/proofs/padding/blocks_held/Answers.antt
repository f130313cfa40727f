use Rattle.scheme.proofs.Blocks.{held_no_unit, held-part, held_over, held_whole}
use Rattle.scheme.proofs.padding.blocks_held.Goals as goal
use Rattle.scheme.proofs.padding.blocks_held.Goals.{then-unit-eq0-via-then-unit-eq0, then-unit-eq0-via-else-unit-eq0+then-bytes-unit-ne0}

pub returns-then-unit-eq0 : goal.returns-then-unit-eq0
returns-then-unit-eq0 c =
    elim c.then-unit-eq0.branch [
      | then-unit-eq0-via-then-unit-eq0 w ↦ held_no_unit _ _ _ w.if-unit-eq0.true
      | then-unit-eq0-via-else-unit-eq0+then-bytes-unit-ne0 w ↦ held-part _ _ _ w.if-bytes-unit-ne0.true
    ]

pub returns-then-most-blocks : goal.returns-then-most-blocks
returns-then-most-blocks c = held_over _ _ _ c.if-bytes-unit-ne0.false c.if-most-blocks.true

pub returns : goal.returns
returns c = held_whole _ _ _ c.if-bytes-unit-ne0.false c.if-most-blocks.false
