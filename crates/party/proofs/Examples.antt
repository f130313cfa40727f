-- Worked examples of the prefix's length, by computing: the order of its refusals, by two faults at once, and the longest message on both sides.
-- Assumes nothing.
use mathlib.Core.Path.{◌≡◌, refl}
use mathlib.Core.List.{[], ◌∷◌}
use Rattle.lists.specs.Each.{occurs}
use Rattle.scheme.specs.Outcome.{accepted, first_of, answer}
use Rattle.lists.specs.FirstFrom.{first_from}
use Rattle.scheme.specs.BlockLength.{divides, common_multiple, block_length}
use Rattle.scheme.specs.Check.{falls, parties_refused, thresholds_refused, counts_refused, block_refused, refusal, rows_of_count, rows_of_block, block_count}
use Rattle.staircase.specs.Parameters.{parameters, scheme_a}
use Rattle.scheme.specs.Padding.{padded_count, blocks_held}
use Rattle.party.specs.PrefixPadded.{blocks_kept, prefix_padded_refusal, prefix_padded_length, prefix_padded_answer}
use Rattle.party.specs.Prefix.{prefix_refusal, prefix_length, prefix_answer}

pub examples :
    -- the scheme before 5, 5 before 6, 6 before 9
    (prefix_refusal (parameters 3 1 1 (3 ∷ [])) 16385 3 16386 ≡ 3)
    × (prefix_refusal scheme_a 16385 1 16386 ≡ 5)
    × (prefix_refusal scheme_a 2 1 1 ≡ 6)
    -- the longest message, and one that is longer
    × (prefix_answer scheme_a 16384 3 16384 ≡ accepted (8192 ∷ []))
    × (prefix_refusal scheme_a 16385 3 16386 ≡ 5)
    -- of padded shares: the scheme before 6, 6 before 9
    × (prefix_padded_refusal (parameters 3 1 1 (3 ∷ [])) 1 0 ≡ 3)
    × (prefix_padded_refusal scheme_a 1 0 ≡ 6)
    -- no block, a byte too many, as many blocks as the longest message makes, and one more
    × (prefix_padded_refusal scheme_a 3 0 ≡ 9)
    × (prefix_padded_refusal scheme_a 3 5 ≡ 9)
    × (prefix_padded_answer scheme_a 3 16386 ≡ accepted (8193 ∷ []))
    × (prefix_padded_answer scheme_a 2 16386 ≡ accepted (16386 ∷ []))
    × (prefix_padded_refusal scheme_a 3 16388 ≡ 9)
    -- in blocks of one byte the longest message makes 16,385
    × (prefix_padded_answer (parameters 2 0 1 (2 ∷ [])) 2 16385 ≡ accepted (16385 ∷ []))
    × (prefix_padded_refusal (parameters 2 0 1 (2 ∷ [])) 2 16386 ≡ 9)
unfolding divides first_from common_multiple block_length falls parties_refused thresholds_refused counts_refused block_refused first_of answer refusal rows_of_count rows_of_block block_count occurs padded_count blocks_held blocks_kept prefix_refusal prefix_length prefix_answer prefix_padded_refusal prefix_padded_length prefix_padded_answer
examples = (refl, refl, refl, refl, refl, refl, refl, refl, refl, refl, refl, refl, refl, refl)
