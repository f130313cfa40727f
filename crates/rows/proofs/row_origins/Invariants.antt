-- All places are right but those from degree e up to the end.
use Rattle.std.proofs.Common.{length}
use Rattle.lists.proofs.Known.{Written}
use Rattle.rows.specs.Origins.{place_over}
use Rattle.rows.proofs.row_origins.Given as goal

abbrev pub invariant-loop-e : goal.invariant-loop-e
invariant-loop-e l = Written 0 (place_over l.block l.z l.counts l.row l.fn.places) (length l.fn.places) l.end l.e l.places
