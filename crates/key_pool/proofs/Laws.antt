-- The laws for whoever cites them: where a split from a pool refuses nothing, and what it then answers, writes and takes; and runs.
-- Assumes nothing.
pub use Rattle.key_pool.proofs.Room.{Room, room}
pub use Rattle.key_pool.proofs.WaysOut.{Passed, passed, written, output_long, moves, stays}
pub use Rattle.key_pool.proofs.Runs.{refusal_of, told_none, none_told, moved_on, run_exists, accounting, used_bytes_free, used_once}
