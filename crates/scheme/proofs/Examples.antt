-- Worked examples of the check and of the number of blocks, by computing; and the limits and the marker of a message's end, in numbers.
-- Assumes nothing.
use mathlib.Core.Path.{◌≡◌, refl}
use mathlib.Core.List.{[], ◌∷◌}
use Rattle.scheme.specs.Limits.{max_parties, max_counts, max_block, max_message, max_blocks, default_n, default_r, default_z, default_counts}
use Rattle.scheme.specs.Outcome.{accepted, refused, first_of, answer}
use Rattle.lists.specs.FirstFrom.{first_from}
use Rattle.scheme.specs.BlockLength.{divides, common_multiple, block_length}
use Rattle.scheme.specs.Padding.{end_marker, padded_count, most_padded, blocks_held}
use Rattle.scheme.specs.Check.{falls, parties_refused, thresholds_refused, counts_refused, block_refused, refusal, rows_of_count, rows_of_block, block_count, checked}
use Rattle.scheme.specs.Tried.{beside, tried_at, checked_tried}

pub limits :
    (max_parties ≡ 16)
    × (max_counts ≡ 8)
    × (max_block ≡ 840)
    × (max_message ≡ 16384)
    × (end_marker ≡ 128)
    × (default_n ≡ 5)
    × (default_r ≡ 2)
    × (default_z ≡ 2)
    × (default_counts ≡ 5 ∷ 4 ∷ 3 ∷ [])
limits = (refl, refl, refl, refl, refl, refl, refl, refl, refl)

pub default_accepted : refusal default_n default_r default_z default_counts ≡ 0
unfolding divides first_from common_multiple block_length falls parties_refused thresholds_refused counts_refused block_refused first_of refusal
default_accepted = refl

pub examples :
    -- the default: 3, 2 and 1 are to divide m; and P of its counts
    (checked default_n default_r default_z default_counts ≡ accepted (5 ∷ 2 ∷ 2 ∷ 6 ∷ 6 ∷ []))
    × (rows_of_count 6 default_z 5 ≡ 2)
    × (rows_of_count 6 default_z 4 ≡ 3)
    × (rows_of_count 6 default_z 3 ≡ 6)
    -- the former default, of which shares are stored: 4, 3 and 2
    × (checked 5 2 1 (5 ∷ 4 ∷ 3 ∷ []) ≡ accepted (5 ∷ 2 ∷ 1 ∷ 12 ∷ 6 ∷ []))
    -- at the limits: 16 parties, 8 counts, m 840
    × (checked 16 11 1 (16 ∷ 15 ∷ 13 ∷ 11 ∷ 9 ∷ 7 ∷ 6 ∷ 5 ∷ []) ≡ accepted (16 ∷ 11 ∷ 1 ∷ 840 ∷ 210 ∷ []))
    -- past them: 9 counts, m 858
    × (checked 16 11 1 (16 ∷ 15 ∷ 13 ∷ 11 ∷ 9 ∷ 8 ∷ 7 ∷ 6 ∷ 5 ∷ []) ≡ refused 3)
    × (block_length 1 (14 ∷ 12 ∷ 7 ∷ []) ≡ 858)
    × (checked 14 7 1 (14 ∷ 12 ∷ 7 ∷ []) ≡ refused 4)
    -- z above 1, and counts that start below n
    × (checked 7 3 2 (6 ∷ 4 ∷ []) ≡ accepted (7 ∷ 3 ∷ 2 ∷ 4 ∷ 2 ∷ []))
    -- two refusals apply: 1 and 2, 2 and 3, 3 and 4
    × (checked 1 0 0 (1 ∷ []) ≡ refused 1)
    × (checked 2 1 1 (2 ∷ []) ≡ refused 2)
    × (checked 10 5 1 (10 ∷ 9 ∷ 8 ∷ 6 ∷ []) ≡ refused 3)
    -- no bytes, a whole block, and a byte more
    × (block_count 12 0 ≡ 0)
    × (block_count 12 12 ≡ 1)
    × (block_count 12 13 ≡ 2)
    -- with padding: no bytes, all but a byte of a block, a whole block
    × (padded_count 12 0 ≡ 1)
    × (padded_count 12 11 ≡ 1)
    × (padded_count 12 12 ≡ 2)
    -- the most blocks, of one byte and of 12; told by 6 bytes a block, with no blocks, a byte too many and a block too many
    × (most_padded 1 ≡ max_blocks)
    × (most_padded 12 ≡ 1366)
    × (blocks_held 1366 6 8196 ≡ 1366)
    × (blocks_held 1366 6 0 ≡ 0)
    × (blocks_held 1366 6 7 ≡ 0)
    × (blocks_held 1366 6 8202 ≡ 0)
unfolding divides first_from common_multiple block_length falls parties_refused thresholds_refused counts_refused block_refused first_of answer refusal rows_of_count rows_of_block block_count checked padded_count blocks_held
examples = (refl, refl, refl, refl, refl, refl, refl, refl, refl, refl, refl, refl, refl, refl, refl, refl, refl, refl, refl, refl, refl, refl, refl, refl, refl)

-- the check with the number tried
pub tried_examples :
    -- the default: m is the second multiple of 3
    (checked_tried default_n default_r default_z default_counts ≡ beside 2 (accepted (5 ∷ 2 ∷ 2 ∷ 6 ∷ 6 ∷ [])))
    -- one count: m is the first multiple
    × (checked_tried 2 0 1 (2 ∷ []) ≡ beside 1 (accepted (2 ∷ 0 ∷ 1 ∷ 1 ∷ 1 ∷ [])))
    -- m is the limit, the 56th multiple of 15
    × (checked_tried 16 11 1 (16 ∷ 15 ∷ 13 ∷ 11 ∷ 9 ∷ 7 ∷ 6 ∷ 5 ∷ []) ≡ beside 56 (accepted (16 ∷ 11 ∷ 1 ∷ 840 ∷ 210 ∷ [])))
    -- m is above it: of the multiples of 9 the last one is 837, of those of 12 it is the limit
    × (checked_tried 10 4 1 (10 ∷ 9 ∷ 8 ∷ 6 ∷ []) ≡ beside 93 (refused 4))
    × (checked_tried 13 5 1 (13 ∷ 12 ∷ 8 ∷ []) ≡ beside 70 (refused 4))
    -- refused before the search
    × (checked_tried 17 4 1 (10 ∷ 9 ∷ 8 ∷ 6 ∷ []) ≡ beside 0 (refused 1))
    × (checked_tried 10 9 1 (10 ∷ 9 ∷ 8 ∷ 6 ∷ []) ≡ beside 0 (refused 2))
    × (checked_tried 10 5 1 (10 ∷ 9 ∷ 8 ∷ 6 ∷ []) ≡ beside 0 (refused 3))
unfolding divides first_from common_multiple block_length falls parties_refused thresholds_refused counts_refused block_refused first_of answer refusal rows_of_count rows_of_block checked tried_at checked_tried
tried_examples = (refl, refl, refl, refl, refl, refl, refl, refl)
