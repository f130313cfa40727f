-- The blocks of a padded message (document 02, a): right after the message stands a byte that marks its end, so there is always room for one byte
-- more. And the blocks that a length tells, where nobody says how long the message is.
-- Assumes nothing.
use Rattle.std.specs.Prelude.{cond, ◌&&◌, ◌≢◌, ℕ, ◌+◌, ◌*◌, ◌/◌, ◌≤◌, eqb, leb}
use Rattle.scheme.specs.Limits.{max_message}

-- the byte right after the message
abbrev pub end_marker : ℕ
end_marker = 128

-- N of a padded message of so many bytes, in blocks of m: rounded down, plus 1
unfoldable pub padded_count : ℕ → ℕ → ℕ
padded_count m message = message / m + 1

-- the most blocks that a padded message of an accepted length makes
abbrev pub most_padded : ℕ → ℕ
most_padded m = padded_count m max_message

-- N of so many bytes, of which each block has `unit`; 0 where these are no whole blocks, none at all, or more than `most`
unfoldable pub blocks_held : ℕ → ℕ → ℕ → ℕ
blocks_held most unit bytes =
    let N : ℕ = bytes / unit in
    cond (eqb bytes (N * unit) && leb N most) N 0

-- no padded message of an accepted length makes so many bytes, where each of its blocks, of m bytes, makes `unit` of them
abbrev pub NoMessageGives : ℕ → ℕ → ℕ → Type 0
NoMessageGives m unit bytes = (message : ℕ) → message ≤ max_message → bytes ≢ padded_count m message * unit
