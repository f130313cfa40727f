-- A place before the start is reached around the block's end.
use Rattle.reader.proofs.TurnSearch.{around}
use Rattle.reader.proofs.taking.is_wanted.Goals as goal

pub returns-else-from-place : goal.returns-else-from-place
returns-else-from-place c =
    let a = c.args in
    rw (around a.block a.from a.place c.requires.1 c.requires.2 c.if-from-place.false)
