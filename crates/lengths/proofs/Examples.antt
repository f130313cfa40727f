-- Worked examples of the lengths, by computing: one of each kind, the longest message on both sides, and the order of the refusals, by two faults at once.
-- Assumes nothing.
use mathlib.Core.Path.{◌≡◌, refl}
use mathlib.Core.List.{[], ◌∷◌}
use Rattle.scheme.specs.Outcome.{accepted, refused, first_of, answer}
use Rattle.lists.specs.FirstFrom.{first_from}
use Rattle.scheme.specs.BlockLength.{divides, common_multiple, block_length}
use Rattle.scheme.specs.Check.{falls, parties_refused, thresholds_refused, counts_refused, block_refused, refusal, rows_of_block, block_count}
use Rattle.scheme.specs.Padding.{padded_count}
use Rattle.staircase.specs.Parameters.{parameters, scheme_a, default_parameters}
use Rattle.lengths.specs.Lengths.{lengths_refusal, lengths_for, lengths_answer, lengths_padded_answer}

pub examples :
    -- two bytes fill a block; padded they make two
    (lengths_answer scheme_a 2 ≡ accepted (1 ∷ 2 ∷ 2 ∷ 6 ∷ 2 ∷ []))
    × (lengths_padded_answer scheme_a 2 ≡ accepted (2 ∷ 4 ∷ 4 ∷ 12 ∷ 4 ∷ []))
    -- no bytes make no block, and padded one
    × (lengths_answer scheme_a 0 ≡ accepted (0 ∷ 0 ∷ 0 ∷ 0 ∷ 0 ∷ []))
    × (lengths_padded_answer scheme_a 0 ≡ accepted (1 ∷ 2 ∷ 2 ∷ 6 ∷ 2 ∷ []))
    -- in the default scheme, where z is 2, both forms make 6 blocks of 33 bytes
    × (lengths_answer default_parameters 33 ≡ accepted (6 ∷ 72 ∷ 36 ∷ 180 ∷ 33 ∷ []))
    × (lengths_padded_answer default_parameters 33 ≡ accepted (6 ∷ 72 ∷ 36 ∷ 180 ∷ 36 ∷ []))
    -- where m, b, r and z all differ: 6 bytes in 3 rows
    × (lengths_answer (parameters 5 1 2 (5 ∷ 4 ∷ [])) 6 ≡ accepted (1 ∷ 6 ∷ 3 ∷ 15 ∷ 6 ∷ []))
    × (lengths_padded_answer (parameters 5 1 2 (5 ∷ 4 ∷ [])) 6 ≡ accepted (2 ∷ 12 ∷ 6 ∷ 30 ∷ 12 ∷ []))
    -- the longest message, and one that is longer
    × (lengths_answer scheme_a 16384 ≡ accepted (8192 ∷ 16384 ∷ 16384 ∷ 49152 ∷ 16384 ∷ []))
    × (lengths_padded_answer scheme_a 16384 ≡ accepted (8193 ∷ 16386 ∷ 16386 ∷ 49158 ∷ 16386 ∷ []))
    × (lengths_answer scheme_a 16385 ≡ refused 5)
    × (lengths_padded_answer scheme_a 16385 ≡ refused 5)
    -- the scheme before 5, by its last refusal
    × (lengths_answer (parameters 14 7 1 (14 ∷ 12 ∷ 7 ∷ [])) 16385 ≡ refused 4)
    × (lengths_padded_answer (parameters 14 7 1 (14 ∷ 12 ∷ 7 ∷ [])) 16385 ≡ refused 4)
unfolding divides first_from common_multiple block_length falls parties_refused thresholds_refused counts_refused block_refused first_of answer refusal rows_of_block block_count padded_count lengths_refusal lengths_for
examples = (refl, refl, refl, refl, refl, refl, refl, refl, refl, refl, refl, refl, refl, refl)
