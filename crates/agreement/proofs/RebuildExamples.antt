-- Worked examples of the rebuilding, by computing: the order of its refusals, by two faults at once; N from the shares' length, 0 and the most; held copies;
-- and disagreement, where the output stays.
-- Assumes nothing.
use mathlib.Core.Path.{◌≡◌, refl}
use mathlib.Core.List.{[], ◌∷◌}
use Rattle.lists.specs.Differing.{differing}
use Rattle.lists.specs.FirstFrom.{first_from}
use Rattle.lists.specs.Table.{tabulate, joined, piece, pieces, flat}
use Rattle.lists.specs.Without.{without, without_piece}
use Rattle.gf256.specs.Byte as byte
use Rattle.gf256.specs.Byte.{◌⊕◌, ◌⊗◌, cut, reduce, squares_product, ◌⊘◌}
use Rattle.interpolation.specs.Polynomial.{next, eval, plus, scale, linear, above, vanishing}
use Rattle.interpolation.specs.Interpolation.{through, fitted}
use Rattle.scheme.specs.Outcome.{accepted, refused, first_of}
use Rattle.scheme.specs.BlockLength.{divides, common_multiple, block_length}
use Rattle.scheme.specs.Check.{falls, parties_refused, thresholds_refused, counts_refused, block_refused, refusal, rows_of_count, rows_of_block}
use Rattle.scheme.specs.Readers.{rises, within, readers_refused}
use Rattle.scheme.specs.Padding.{padded_count, blocks_held}
use Rattle.family.specs.Family.{share_of_blocks}
use Rattle.family.specs.Exactness.{readings, opened_blocks}
use Rattle.staircase.specs.Parameters.{parameters, scheme_a, default_parameters, point}
use Rattle.staircase.specs.Coefficients.{group_of, count_of, origin_in, origin}
use Rattle.staircase.specs.Rows.{row_of, keyed, copied, with_groups, rows_of}
use Rattle.staircase.specs.Shares.{staircase}
use Rattle.staircase.specs.Opening.{upper_part, lower_part, placed, opened_from, opened_block, opened_lower, opened_keys}
use Rattle.staircase.specs.Exactness.{opened_string}
use Rattle.agreement.specs.Agreement.{found_blocks, found_keys, rebuilt, agrees, named}
use Rattle.agreement.specs.Rebuild.{blocks_lent, wanted_refused, held_refused, lent_refusal, rebuild_answer, rebuild_output}
use Rattle.agreement.proofs.Examples.{four, six_with_two_over}

pub rebuild_examples :
    -- the scheme before 7; both of 7 before 17; 17 before 9; both of 9 before 10
    (lent_refusal (parameters 3 1 1 (3 ∷ [])) (2 ∷ 2 ∷ []) 4 3 0 2 ≡ 3)
    × (lent_refusal scheme_a (4 ∷ []) 2 3 0 2 ≡ 7)
    × (lent_refusal scheme_a (1 ∷ []) 2 0 0 2 ≡ 7)
    × (lent_refusal scheme_a (1 ∷ []) 2 4 0 2 ≡ 7)
    × (lent_refusal scheme_a [] 3 1 0 2 ≡ 17)
    × (lent_refusal scheme_a (2 ∷ []) 3 1 0 2 ≡ 17)
    × (lent_refusal scheme_a (1 ∷ 2 ∷ []) 5 3 0 3 ≡ 9)
    × (lent_refusal scheme_a (1 ∷ 2 ∷ []) 4 3 1 3 ≡ 9)
    × (lent_refusal scheme_a (1 ∷ 2 ∷ []) 4 3 2 3 ≡ 10)
    -- the most blocks, 8193 of two bytes, and 16385 of one; and one more
    × (lent_refusal scheme_a (1 ∷ 2 ∷ []) 32772 3 16386 16386 ≡ 0)
    × (lent_refusal scheme_a (1 ∷ 2 ∷ []) 32776 3 0 16388 ≡ 9)
    × (lent_refusal (parameters 2 0 1 (2 ∷ [])) (1 ∷ 2 ∷ []) 32770 1 0 16385 ≡ 0)
    × (lent_refusal (parameters 2 0 1 (2 ∷ [])) (1 ∷ 2 ∷ []) 32772 1 0 16386 ≡ 9)
    -- the same of blocks of four bytes in two rows, 4097 and one more; and n − r parties and one fewer, where that is not 2 z
    × (lent_refusal six_with_two_over (1 ∷ 2 ∷ 3 ∷ 4 ∷ []) 32776 5 8194 8194 ≡ 0)
    × (lent_refusal six_with_two_over (1 ∷ 2 ∷ 3 ∷ 4 ∷ []) 32784 5 0 8196 ≡ 9)
    × (lent_refusal default_parameters (1 ∷ 2 ∷ 3 ∷ []) 18 4 0 6 ≡ 0)
    × (lent_refusal default_parameters (1 ∷ 2 ∷ []) 12 4 0 6 ≡ 17)
    -- no blocks
    × (rebuild_answer scheme_a (1 ∷ 3 ∷ []) [] 2 [] 0 ≡ accepted (0 ∷ []))
    -- the share of party 3 from those of the others, with no held copy, and one with a wrong byte
    × (rebuild_output scheme_a (1 ∷ 2 ∷ []) (11 ∷ 3 ∷ 31 ∷ 10 ∷ []) 3 0 (0 ∷ 0 ∷ []) ≡ 29 ∷ 13 ∷ [])
    × (rebuild_answer scheme_a (1 ∷ 2 ∷ []) (11 ∷ 3 ∷ 31 ∷ 10 ∷ []) 3 [] 2 ≡ accepted (0 ∷ []))
    × (rebuild_answer scheme_a (1 ∷ 2 ∷ []) (11 ∷ 3 ∷ 31 ∷ 10 ∷ []) 3 (29 ∷ 12 ∷ []) 2 ≡ accepted (1 ∷ []))
    -- that of a party of the list
    × (rebuild_answer scheme_a (1 ∷ 2 ∷ 3 ∷ []) (11 ∷ 3 ∷ 31 ∷ 10 ∷ 29 ∷ 13 ∷ []) 2 (0 ∷ 0 ∷ []) 2 ≡ accepted (2 ∷ []))
    -- 10 before 18; 18 with one more than are enough, which names nobody, and with two more, where the output stays
    × (rebuild_answer scheme_a (1 ∷ 2 ∷ 3 ∷ []) (11 ∷ 2 ∷ 31 ∷ 10 ∷ 29 ∷ 13 ∷ []) 2 [] 3 ≡ refused 10)
    × (rebuild_answer scheme_a (1 ∷ 2 ∷ 3 ∷ []) (11 ∷ 2 ∷ 31 ∷ 10 ∷ 29 ∷ 13 ∷ []) 2 [] 2 ≡ record { number = 18; values = 0 ∷ [] })
    × (rebuild_answer four (1 ∷ 2 ∷ 3 ∷ 4 ∷ []) (11 ∷ 2 ∷ 31 ∷ 10 ∷ 29 ∷ 13 ∷ 109 ∷ 24 ∷ []) 3 [] 2 ≡ record { number = 18; values = 1 ∷ [] })
    × (rebuild_output four (1 ∷ 2 ∷ 3 ∷ 4 ∷ []) (11 ∷ 2 ∷ 31 ∷ 10 ∷ 29 ∷ 13 ∷ 109 ∷ 24 ∷ []) 3 0 (7 ∷ 8 ∷ []) ≡ 7 ∷ 8 ∷ [])
unfolding ◌⊕◌ ◌⊗◌ byte.product reduce cut squares_product ◌⊘◌ next eval plus scale linear above vanishing through fitted divides first_from common_multiple block_length falls parties_refused thresholds_refused counts_refused block_refused first_of refusal rows_of_count rows_of_block rises within readers_refused padded_count blocks_held tabulate joined piece pieces flat differing share_of_blocks readings opened_blocks point row_of keyed copied with_groups rows_of staircase group_of count_of origin_in origin upper_part lower_part placed opened_from opened_block opened_lower opened_keys opened_string found_blocks found_keys rebuilt without without_piece agrees named blocks_lent wanted_refused held_refused lent_refusal rebuild_answer rebuild_output
rebuild_examples =
    (refl, refl, refl, refl, refl, refl, refl, refl, refl, refl, refl, refl, refl, refl, refl, refl, refl, refl, refl, refl, refl, refl, refl, refl, refl, refl)
