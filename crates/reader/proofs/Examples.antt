-- Worked examples of the basis and the openers, by computing: the order of their refusals, by two faults at once; a basis, with its zeros; the longest
-- message on both sides; an opening whose padding is not zero, which is dropped as any other; ranges; and padded messages, with and without an end.
-- Assumes nothing.
use mathlib.Core.Path.{◌≡◌, refl}
use mathlib.Core.List.{[], ◌∷◌}
use lib.ListN.{replicate}
use Rattle.lists.specs.Each.{occurs, all_in, distinct}
use Rattle.lists.specs.FirstFrom.{first_from}
use Rattle.lists.specs.Table.{tabulate, joined, piece}
use Rattle.gf256.specs.Byte as byte
use Rattle.gf256.specs.Byte.{◌⊕◌, ◌⊗◌, cut, reduce, squares_product, ◌⊘◌}
use Rattle.interpolation.specs.Polynomial.{next, eval, plus, scale, linear, above, vanishing}
use Rattle.interpolation.specs.Interpolation.{through, fitted, unit, basis, weight, basis_table}
use Rattle.scheme.specs.Outcome.{accepted, refused, first_of, answer}
use Rattle.scheme.specs.BlockLength.{divides, common_multiple, block_length}
use Rattle.scheme.specs.Check.{falls, parties_refused, thresholds_refused, counts_refused, block_refused, refusal, rows_of_count, rows_of_block, block_count}
use Rattle.scheme.specs.Readers.{rises, within, readers_refused}
use Rattle.scheme.specs.Padding.{padded_count, blocks_held}
use Rattle.family.specs.Padding.{last_nonzero, end_place, end_missing, end_refused}
use Rattle.family.specs.Exactness.{readings, opened_blocks}
use Rattle.staircase.specs.Parameters.{parameters, scheme_a, point}
use Rattle.staircase.specs.Coefficients.{group_of, count_of, origin_in, origin}
use Rattle.staircase.specs.Opening.{upper_part, lower_part, placed, opened_from, opened_block}
use Rattle.staircase.specs.Exactness.{prefix_bytes, opened_string}
use Rattle.order.specs.ReadingOrder.{group_number, rows_before, group_rows, groups_down, reading_order}
use Rattle.order.specs.RowsTaken.{wanted_places, places_of, places_by, rows_taken}
use Rattle.reader.specs.Basis.{basis_refusal, basis_answer, basis_of}
use Rattle.reader.specs.Range.{range_refusal, range_answer, range_output}
use Rattle.reader.specs.Reconstruct.{reconstruct_refusal, reconstruct_answer, reconstruct_output}
use Rattle.reader.specs.ReconstructPadded.{blocks_sent, opened_padded, reconstruct_padded_refusal, reconstruct_padded_answer, reconstruct_padded_output}

pub examples :
    -- the basis: the scheme before 6, 6 before 7
    (basis_refusal (parameters 3 1 1 (3 ∷ [])) (1 ∷ []) ≡ 3)
    × (basis_refusal scheme_a (4 ∷ []) ≡ 6)
    -- of parties 2 and 3: x + 3 is 1 at 2 and 0 at 3, x + 2 is 0 at 2 and 1 at 3
    × (basis_answer scheme_a (2 ∷ 3 ∷ []) ≡ accepted (2 ∷ []))
    × (basis_of scheme_a (2 ∷ 3 ∷ []) ≡ (3 ∷ 1 ∷ replicate 14 0) ∷ (2 ∷ 1 ∷ replicate 14 0) ∷ replicate 14 (replicate 16 0))
    -- the opener: the scheme before 5, 5 before 6, 6 before 7, 7 before 9, 9 before 10
    × (reconstruct_refusal (parameters 3 1 1 (3 ∷ [])) 16385 (1 ∷ 2 ∷ 3 ∷ []) 24579 16385 ≡ 3)
    × (reconstruct_refusal scheme_a 16385 (1 ∷ []) 16386 16385 ≡ 5)
    × (reconstruct_refusal scheme_a 2 (4 ∷ []) 2 2 ≡ 6)
    × (reconstruct_refusal scheme_a 2 (2 ∷ 2 ∷ []) 3 2 ≡ 7)
    × (reconstruct_refusal scheme_a 2 (1 ∷ 3 ∷ []) 3 1 ≡ 9)
    -- the longest message, and one that is longer
    × (reconstruct_answer scheme_a 16384 (1 ∷ 2 ∷ 3 ∷ []) 24576 16384 ≡ accepted (24576 ∷ []))
    × (reconstruct_refusal scheme_a 16385 (1 ∷ 2 ∷ 3 ∷ []) 24579 16385 ≡ 5)
    -- prefixes that open to 5 7, lent for a message of 1 byte: the padding is 7
    × (opened_string scheme_a (1 ∷ 2 ∷ 3 ∷ []) 1 (11 ∷ 31 ∷ 29 ∷ []) ≡ 5 ∷ 7 ∷ [])
    × (reconstruct_answer scheme_a 1 (1 ∷ 2 ∷ 3 ∷ []) 3 1 ≡ accepted (3 ∷ []))
    × (reconstruct_output scheme_a 1 (1 ∷ 2 ∷ 3 ∷ []) (11 ∷ 31 ∷ 29 ∷ []) (0 ∷ []) ≡ 5 ∷ [])
unfolding ◌⊕◌ ◌⊗◌ byte.product reduce cut squares_product ◌⊘◌ next eval plus scale linear above vanishing through fitted unit basis weight basis_table divides first_from common_multiple block_length falls parties_refused thresholds_refused counts_refused block_refused first_of answer refusal rows_of_count rows_of_block block_count rises within readers_refused occurs distinct tabulate joined readings opened_blocks point group_of count_of origin_in origin upper_part lower_part placed opened_from opened_block prefix_bytes opened_string basis_refusal basis_answer basis_of reconstruct_refusal reconstruct_answer reconstruct_output
examples = (refl, refl, refl, refl, refl, refl, refl, refl, refl, refl, refl, refl, refl, refl)

pub range_examples :
    -- the opener for a range: the scheme before 5, 5 before 6, 6 before 7, 7 before 15, 15 before 9, 9 before 10
    (range_refusal (parameters 3 1 1 (3 ∷ [])) 16385 0 1 (1 ∷ 2 ∷ 3 ∷ []) 24579 1 ≡ 3)
    × (range_refusal scheme_a 16385 0 1 (1 ∷ []) 16386 1 ≡ 5)
    × (range_refusal scheme_a 2 0 1 (4 ∷ []) 2 1 ≡ 6)
    × (range_refusal scheme_a 2 1 2 (2 ∷ 2 ∷ []) 4 2 ≡ 7)
    × (range_refusal scheme_a 2 1 2 (1 ∷ 3 ∷ []) 3 2 ≡ 15)
    × (range_refusal scheme_a 2 1 1 (1 ∷ 3 ∷ []) 3 2 ≡ 9)
    × (range_refusal scheme_a 2 1 1 (1 ∷ 3 ∷ []) 4 2 ≡ 10)
    -- an empty range at the message's end, and after it; numbers whose sum passes 2^64
    × (range_answer scheme_a 2 2 0 (1 ∷ 2 ∷ 3 ∷ []) 3 0 ≡ accepted (0 ∷ []))
    × (range_refusal scheme_a 2 3 0 (1 ∷ 2 ∷ 3 ∷ []) 3 0 ≡ 15)
    × (range_refusal scheme_a 2 18446744073709551615 1 (1 ∷ 2 ∷ 3 ∷ []) 3 1 ≡ 15)
    -- two parties send 4 + 7x in their second row, which is taken first: what stands in the other one does not matter
    × (range_answer scheme_a 2 1 1 (1 ∷ 3 ∷ []) 4 1 ≡ accepted (2 ∷ []))
    × (range_output scheme_a 2 1 1 (1 ∷ 3 ∷ []) (0 ∷ 3 ∷ 0 ∷ 13 ∷ []) (9 ∷ []) ≡ 7 ∷ [])
    × (range_answer scheme_a 2 0 1 (1 ∷ 3 ∷ []) 4 1 ≡ accepted (4 ∷ []))
    × (range_output scheme_a 2 0 1 (1 ∷ 3 ∷ []) (11 ∷ 3 ∷ 29 ∷ 13 ∷ []) (9 ∷ []) ≡ 5 ∷ [])
    -- of two blocks a row is taken whole
    × (range_answer scheme_a 4 3 1 (1 ∷ 3 ∷ []) 8 1 ≡ accepted (4 ∷ []))
    × (range_answer scheme_a 4 1 2 (1 ∷ 3 ∷ []) 8 2 ≡ accepted (8 ∷ []))
unfolding ◌⊕◌ ◌⊗◌ byte.product reduce cut squares_product ◌⊘◌ next eval plus scale linear above vanishing through fitted unit basis weight divides first_from common_multiple block_length falls parties_refused thresholds_refused counts_refused block_refused first_of answer refusal rows_of_count rows_of_block block_count rises within readers_refused occurs all_in distinct tabulate joined readings opened_blocks point group_of count_of origin_in origin upper_part lower_part placed opened_from opened_block prefix_bytes opened_string group_number rows_before group_rows groups_down reading_order wanted_places places_of places_by rows_taken range_refusal range_answer range_output
range_examples = (refl, refl, refl, refl, refl, refl, refl, refl, refl, refl, refl, refl, refl, refl, refl, refl)

pub padded_examples :
    -- the opener of padded messages: the scheme before 6, 6 before 7, 7 before 9, 9 before 10, 10 before 11
    (reconstruct_padded_refusal (parameters 3 1 1 (3 ∷ [])) (1 ∷ []) (9 ∷ 9 ∷ 9 ∷ []) 2 ≡ 3)
    × (reconstruct_padded_refusal scheme_a (4 ∷ []) (9 ∷ 9 ∷ 9 ∷ []) 2 ≡ 6)
    × (reconstruct_padded_refusal scheme_a (2 ∷ 2 ∷ []) (9 ∷ 9 ∷ 9 ∷ []) 2 ≡ 7)
    × (reconstruct_padded_refusal scheme_a (1 ∷ 3 ∷ []) (9 ∷ 9 ∷ 9 ∷ []) 1 ≡ 9)
    × (reconstruct_padded_refusal scheme_a (1 ∷ 2 ∷ 3 ∷ []) (11 ∷ 31 ∷ 29 ∷ []) 1 ≡ 10)
    -- no prefixes at all; a length that is no multiple
    × (reconstruct_padded_refusal scheme_a (1 ∷ 2 ∷ 3 ∷ []) [] 0 ≡ 9)
    × (reconstruct_padded_refusal scheme_a (1 ∷ 2 ∷ 3 ∷ []) (140 ∷ 53 ∷ 176 ∷ 0 ∷ []) 2 ≡ 9)
    -- the most blocks, 8193, and one more
    × (blocks_sent scheme_a 3 24579 ≡ 8193)
    × (reconstruct_padded_refusal scheme_a (1 ∷ 2 ∷ 3 ∷ []) (replicate 24579 0) 16387 ≡ 10)
    × (reconstruct_padded_refusal scheme_a (1 ∷ 2 ∷ 3 ∷ []) (replicate 24582 0) 16388 ≡ 9)
    -- one block: 5 and the marker, of three parties and of two; no message; no end, where the output stays
    × (reconstruct_padded_answer scheme_a (1 ∷ 2 ∷ 3 ∷ []) (140 ∷ 53 ∷ 176 ∷ []) 2 ≡ accepted (3 ∷ 1 ∷ []))
    × (reconstruct_padded_output scheme_a (1 ∷ 2 ∷ 3 ∷ []) (140 ∷ 53 ∷ 176 ∷ []) (0 ∷ 0 ∷ []) ≡ 5 ∷ 128 ∷ [])
    × (reconstruct_padded_answer scheme_a (1 ∷ 3 ∷ []) (140 ∷ 132 ∷ 176 ∷ 159 ∷ []) 2 ≡ accepted (4 ∷ 1 ∷ []))
    × (reconstruct_padded_answer scheme_a (1 ∷ 2 ∷ 3 ∷ []) (137 ∷ 18 ∷ 146 ∷ []) 2 ≡ accepted (3 ∷ 0 ∷ []))
    × (reconstruct_padded_answer scheme_a (1 ∷ 2 ∷ 3 ∷ []) (11 ∷ 31 ∷ 29 ∷ []) 2 ≡ refused 11)
    × (reconstruct_padded_output scheme_a (1 ∷ 2 ∷ 3 ∷ []) (11 ∷ 31 ∷ 29 ∷ []) (1 ∷ 2 ∷ []) ≡ 1 ∷ 2 ∷ [])
    -- two blocks: 5 7 and then the marker; the marker in the first of them alone
    × (reconstruct_padded_answer scheme_a (1 ∷ 2 ∷ 3 ∷ []) (11 ∷ 132 ∷ 31 ∷ 31 ∷ 29 ∷ 159 ∷ []) 4 ≡ accepted (6 ∷ 2 ∷ []))
    × (reconstruct_padded_answer scheme_a (1 ∷ 2 ∷ 3 ∷ []) (140 ∷ 4 ∷ 53 ∷ 4 ∷ 176 ∷ 4 ∷ []) 4 ≡ refused 11)
    -- with two keys a row
    × (reconstruct_padded_answer (parameters 4 1 2 (4 ∷ 3 ∷ [])) (1 ∷ 2 ∷ 3 ∷ 4 ∷ []) (136 ∷ 121 ∷ 213 ∷ 4 ∷ []) 2 ≡ accepted (4 ∷ 1 ∷ []))
unfolding ◌⊕◌ ◌⊗◌ byte.product reduce cut squares_product ◌⊘◌ next eval plus scale linear above vanishing through fitted unit basis weight divides first_from common_multiple block_length falls parties_refused thresholds_refused counts_refused block_refused first_of answer refusal rows_of_count rows_of_block block_count rises within readers_refused occurs distinct tabulate joined readings opened_blocks point group_of count_of origin_in origin upper_part lower_part placed opened_from opened_block prefix_bytes opened_string piece padded_count blocks_held last_nonzero end_place end_missing end_refused blocks_sent opened_padded reconstruct_padded_refusal reconstruct_padded_answer reconstruct_padded_output
padded_examples = (refl, refl, refl, refl, refl, refl, refl, refl, refl, refl, refl, refl, refl, refl, refl, refl, refl, refl, refl)
