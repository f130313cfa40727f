use Rattle.std.proofs.Common.{sym}
use Rattle.lists.proofs.Skipped.{skipped-before, skipped-after}
use Rattle.reader.proofs.decoding.place_of.Goals as goal

pub returns-then-a-skip : goal.returns-then-a-skip
returns-then-a-skip c = sym (skipped-before _ _ c.if-a-skip.true)

pub returns-else-a-skip : goal.returns-else-a-skip
returns-else-a-skip c = sym (skipped-after _ _ c.if-a-skip.false)
