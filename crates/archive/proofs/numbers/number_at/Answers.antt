-- `archive::numbers::number_at` meets its contract: the low byte comes first.
use Rattle.std.proofs.Common.{arith}
use Rattle.archive.specs.Reading.{number_at}
use Rattle.archive.proofs.numbers.number_at.Goals as goal

pub returns : goal.returns
unfolding number_at
returns c = (omega (arith, c.from.ensures, c.from_le_bytes.ensures), grind arith)
