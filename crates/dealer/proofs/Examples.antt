-- Worked examples of the splitter's answer, by computing: the order of its refusals, by two faults at once, and the longest message on both sides.
-- Assumes nothing.
use mathlib.Core.Path.{◌≡◌, refl}
use mathlib.Core.List.{[], ◌∷◌}
use Rattle.scheme.specs.Outcome.{accepted, first_of, answer}
use Rattle.lists.specs.FirstFrom.{first_from}
use Rattle.scheme.specs.BlockLength.{divides, common_multiple, block_length}
use Rattle.scheme.specs.Check.{falls, parties_refused, thresholds_refused, counts_refused, block_refused, refusal, rows_of_block, block_count}
use Rattle.scheme.specs.Padding.{padded_count}
use Rattle.staircase.specs.Parameters.{parameters, scheme_a}
use Rattle.dealer.specs.Split.{split_refusal, split_answer}
use Rattle.dealer.specs.SplitPadded.{split_padded_refusal, split_padded_answer}

pub examples :
    -- the scheme before 5, 5 before 8, 8 before 10
    (split_refusal (parameters 3 1 1 (3 ∷ [])) 16385 16386 49158 ≡ 3)
    × (split_refusal scheme_a 16385 0 49158 ≡ 5)
    × (split_refusal scheme_a 2 1 5 ≡ 8)
    -- the longest message, and one that is longer
    × (split_answer scheme_a 16384 16384 49152 ≡ accepted (16384 ∷ []))
    × (split_refusal scheme_a 16385 16386 49158 ≡ 5)
    -- the same of a padded message: two bytes make two blocks, the longest message 8193
    × (split_padded_refusal (parameters 3 1 1 (3 ∷ [])) 16385 16386 49158 ≡ 3)
    × (split_padded_refusal scheme_a 16385 0 49158 ≡ 5)
    × (split_padded_refusal scheme_a 2 2 6 ≡ 8)
    × (split_padded_refusal scheme_a 2 4 6 ≡ 10)
    × (split_padded_answer scheme_a 2 4 12 ≡ accepted (4 ∷ []))
    × (split_padded_answer scheme_a 0 2 6 ≡ accepted (2 ∷ []))
    × (split_padded_answer scheme_a 16384 16386 49158 ≡ accepted (16386 ∷ []))
    × (split_padded_refusal scheme_a 16385 16386 49158 ≡ 5)
unfolding divides first_from common_multiple block_length falls parties_refused thresholds_refused counts_refused block_refused first_of answer refusal rows_of_block block_count padded_count split_refusal split_answer split_padded_refusal split_padded_answer
examples = (refl, refl, refl, refl, refl, refl, refl, refl, refl, refl, refl, refl, refl)
