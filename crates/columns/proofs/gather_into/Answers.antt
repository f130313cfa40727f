use Rattle.std.proofs.Common.{◌≡◌, length, take, arith}
use Rattle.std.proofs.lemmas.List.{length-take-le}
use Rattle.columns.proofs.Gathered.{inside_then_zeros}
use Rattle.columns.proofs.gather_into.Goals as goal

-- the bytes that lie inside are gathered, and the others are 0
pub returns : goal.returns
returns c =
    let I = c.count_inside-inside.ensures in
    let part : length (take c.count_inside-inside.result c.clear.new.out) ≡ c.count_inside-inside.result = length-take-le _ _ (omega (arith, I.within)) in
    inside_then_zeros _ _ _ _ _ _ _ I c.clear.ensures (rw part at c.strided_into-2.ensures)
