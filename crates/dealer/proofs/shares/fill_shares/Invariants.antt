-- In each share the first bytes are written: those of all rows before j, and in the inner loop those of row j in the first t blocks.
-- Assumes nothing.
use Rattle.std.proofs.Common.{◌≡◌, ◌+◌, ◌*◌, ◌≤◌, length}
use Rattle.lists.proofs.Columns.{Columns}
use Rattle.gf256.specs.Lanes.{lanes}
use Rattle.interpolation.specs.Interpolation.{side}
use Rattle.dealer.specs.Sources.{byte_of}
use Rattle.dealer.proofs.shares.fill_shares.Given as goal

abbrev pub invariant-batch : goal.invariant-batch
invariant-batch l =
    (l.t ≤ l.blocks) × (length l.columns ≡ side * lanes) × Columns (byte_of l.source l.blocks) l.source.scheme.n l.share (l.j * l.blocks + l.t) l.out

abbrev pub invariant-row : goal.invariant-row
invariant-row l =
    (length l.places ≡ side) × (length l.columns ≡ side * lanes) × Columns (byte_of l.source l.blocks) l.source.scheme.n l.share (l.j * l.blocks) l.out
