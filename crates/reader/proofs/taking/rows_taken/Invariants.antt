-- In the turns from the next one on no wanted byte stands below degree d.
use Rattle.std.proofs.Common.{◌≤◌, length}
use Rattle.order.proofs.RowsTaken.{NoneLater}
use Rattle.reader.specs.Decoding.{sent_rows}
use Rattle.reader.proofs.taking.rows_taken.Given as goal

abbrev pub invariant-loop-turn : goal.invariant-loop-turn
invariant-loop-turn l =
    (l.turn ≤ sent_rows l.readers.scheme (length l.readers.parties.now))
    × NoneLater l.readers.scheme.block l.readers.scheme.z l.readers.scheme.counts.now (length l.readers.parties.now) l.start l.range_length l.turn
