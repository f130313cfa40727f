-- How the reader's code knows where a message ends, and what it writes by that; what is lent for an opening, whole or of a range.
-- Assumes nothing.
use Rattle.std.specs.Prelude.{◌≡◌, true, false, Option, Some, None, List, ℕ, ◌+◌, ◌-◌, ◌*◌, ◌≤◌, ◌<◌, length, get_or, take, drop}
use Rattle.scheme.specs.declared.accepted.Scheme.{Scheme}
use Rattle.scheme.specs.Limits.{max_block, max_message, max_blocks}
use Rattle.family.specs.Padding.{last_nonzero, end_place, end_refused}
use Rattle.order.specs.RowsTaken.{Reached}
use Rattle.reader.specs.Decoding.{sent_rows, sent_bytes}
use Rattle.reader.specs.declared.ending.Last.{Last}
use Rattle.reader.specs.declared.ending.Ending.{Ending}
use Rattle.reader.specs.declared.ending.Ending.TheVariants.{Told, Sought}

-- the last of the bytes that is not 0
pub record LastOf (bytes : List ℕ) (last : Last) : Type 0 where
  pub after_is : last.after ≡ last_nonzero bytes (length bytes)
  pub byte_is : last.byte ≡ get_or bytes (last.after - 1) 0

-- the end that is found in N whole blocks of m bytes; there is none where refusal 11 applies
abbrev pub FoundEnd : ℕ → ℕ → List ℕ → Option ℕ → Type 0
FoundEnd m N blocks (Some message) = (end_refused m N blocks ≡ false) × (message ≡ end_place m N blocks)
FoundEnd m N blocks None = end_refused m N blocks ≡ true

-- the blocks are whole and there is one: said of every number of them
abbrev pub EndOf : ℕ → List ℕ → Option ℕ → Type 0
EndOf m blocks end = (N : ℕ) → 0 < N → length blocks ≡ N * m → FoundEnd m N blocks end

-- an end can be sought where there is a block
abbrev pub CanSeek : Ending → ℕ → List ℕ → Type 0
CanSeek Told m blocks = Unit {0}
CanSeek Sought m blocks = (0 < m) × (m ≤ length blocks)

-- the end, told by the length of the output or sought
abbrev pub EndBy : Ending → ℕ → List ℕ → ℕ → Option ℕ → Type 0
EndBy Told m blocks told end = end ≡ Some told
EndBy Sought m blocks told end = EndOf m blocks end

-- the output became the blocks' bytes from `start` on, or stayed where there is no end
abbrev pub written_by : Option ℕ → ℕ → List ℕ → List ℕ → List ℕ
written_by (Some message) start blocks before = take (length before) (drop start blocks)
written_by None start blocks before = before

-- an opening: the end, and the output
pub record OpenedBy (how : Ending) (m start : ℕ) (blocks before : List ℕ) (end : Option ℕ) (after : List ℕ) : Type 0 where
  pub end_is : EndBy how m blocks (length before) end
  pub output_is : after ≡ written_by end start blocks before

-- to seek an end takes a block, and all of them: an output of so many bytes, from `start` on
abbrev pub SeeksIn : Ending → ℕ → ℕ → ℕ → ℕ → Type 0
SeeksIn Told m N start out = Unit {0}
SeeksIn Sought m N start out = (0 < N) × (start ≡ 0) × (out ≡ N * m)

-- the first turns of the reader's order, `many` of them, reach the bytes from `start` on, so many as the output has
pub record TurnsReach (s : Scheme) (ds : List ℕ) (d many start out : ℕ) : Type 0 where
  pub within : many ≤ sent_rows s d
  pub reached : Reached s.block s.z ds d start out many

-- what is lent for an opening of N blocks by d parties: as many as a message makes, in the room that there is, with the bytes of d prefixes and an output
-- inside the blocks
pub record OpeningFits (s : Scheme) (d N : ℕ) (prefixes : List ℕ) (how : Ending) (start : ℕ) (out : List ℕ) : Type 0 where
  pub blocks_high : N ≤ max_blocks
  pub room : N * s.block ≤ max_message + max_block
  pub prefixes_long : length prefixes ≡ sent_bytes s d N
  pub covered : start + length out ≤ N * s.block
  pub end : SeeksIn how s.block N start (length out)
