-- `archive::numbers::put_number` meets its contract: both bytes stand at the place, the low one first.
use Rattle.std.proofs.Common.{arith}
use Rattle.std.proofs.lemmas.Slice.{take-put_mid}
use Rattle.archive.specs.Format.{two_bytes}
use Rattle.archive.proofs.numbers.put_number.Goals as goal

pub returns : goal.returns
unfolding two_bytes
returns c = grind (arith, take-put_mid)
