-- Worked examples of agreement, by computing, against what another program found by solving the equations of the rows: what is found and rebuilt, the
-- test, and whom a disagreement names, also where the wrong share is one of those that all others are rebuilt from.
-- Assumes nothing.
use mathlib.Core.Path.{◌≡◌, refl}
use mathlib.Core.Bool.{true, false}
use mathlib.Core.List.{List, [], ◌∷◌}
use Prim.Native.Nat.{ℕ}
use Rattle.lists.specs.FirstFrom.{first_from}
use Rattle.lists.specs.Table.{tabulate, joined, piece, pieces, flat}
use Rattle.lists.specs.Without.{without, without_piece}
use Rattle.lists.specs.Differing.{differing}
use Rattle.gf256.specs.Byte as byte
use Rattle.gf256.specs.Byte.{◌⊕◌, ◌⊗◌, cut, reduce, squares_product, ◌⊘◌}
use Rattle.interpolation.specs.Polynomial.{next, eval, plus, scale, linear, above, vanishing}
use Rattle.interpolation.specs.Interpolation.{through, fitted}
use Rattle.scheme.specs.Outcome.{first_of}
use Rattle.scheme.specs.BlockLength.{divides, common_multiple, block_length}
use Rattle.scheme.specs.Check.{falls, parties_refused, thresholds_refused, counts_refused, block_refused, refusal, rows_of_count, rows_of_block}
use Rattle.family.specs.Family.{share_of_blocks}
use Rattle.family.specs.Exactness.{readings, opened_blocks}
use Rattle.staircase.specs.Parameters.{Parameters, AcceptedScheme, parameters, scheme_a, point}
use Rattle.staircase.specs.Rows.{row_of, keyed, copied, with_groups, rows_of}
use Rattle.staircase.specs.Shares.{staircase}
use Rattle.staircase.specs.Coefficients.{group_of, count_of, origin_in, origin}
use Rattle.staircase.specs.Opening.{upper_part, lower_part, placed, opened_from, opened_block, opened_lower, opened_keys}
use Rattle.staircase.specs.Exactness.{opened_string}
use Rattle.agreement.specs.Agreement.{found_blocks, found_keys, rebuilt, agrees, named}

-- four parties of which two are enough, so that four can name one
abbrev pub four : Parameters
four = parameters 4 2 1 (3 ∷ 2 ∷ [])

-- the same with one row a block: sharing in its plainest form
abbrev four_of_one_row : Parameters
four_of_one_row = parameters 4 2 1 (2 ∷ [])

-- two keys a row: three are enough, of four parties, and of five, which can name one
abbrev four_with_two_keys : Parameters
four_with_two_keys = parameters 4 1 2 (4 ∷ 3 ∷ [])

abbrev five_with_two_keys : Parameters
five_with_two_keys = parameters 5 2 2 (5 ∷ 3 ∷ [])

-- four are enough, two more than may collude, so that a block has fewer rows than bytes: 4 bytes in 2 rows
abbrev pub six_with_two_over : Parameters
six_with_two_over = parameters 6 2 2 (6 ∷ 4 ∷ [])

-- the schemes of the examples are accepted
pub schemes :
    AcceptedScheme scheme_a
    × AcceptedScheme four
    × AcceptedScheme four_of_one_row
    × AcceptedScheme four_with_two_keys
    × AcceptedScheme five_with_two_keys
    × AcceptedScheme six_with_two_over
unfolding first_of divides first_from common_multiple block_length falls parties_refused thresholds_refused counts_refused block_refused refusal
schemes = (refl, refl, refl, refl, refl, refl)

pub examples :
    -- only places where both have a byte count
    (differing (7 ∷ 1 ∷ 9 ∷ []) (7 ∷ 2 ∷ 8 ∷ 4 ∷ []) ≡ 2)
    × (differing (7 ∷ 1 ∷ 9 ∷ []) (7 ∷ []) ≡ 0)
    × (differing [] (7 ∷ []) ≡ 0)
    -- the block 5 7 under the keys 9 4: it is found from the shares of two parties, in any order, and so is the share of the third one
    × (found_blocks scheme_a (1 ∷ 2 ∷ []) 1 (11 ∷ 3 ∷ 31 ∷ 10 ∷ []) ≡ 5 ∷ 7 ∷ [])
    × (found_keys scheme_a (1 ∷ 2 ∷ []) 1 (11 ∷ 3 ∷ 31 ∷ 10 ∷ []) ≡ 9 ∷ 4 ∷ [])
    × (rebuilt scheme_a (1 ∷ 2 ∷ []) 1 (11 ∷ 3 ∷ 31 ∷ 10 ∷ []) 3 ≡ 29 ∷ 13 ∷ [])
    × (rebuilt scheme_a (3 ∷ 1 ∷ []) 1 (29 ∷ 13 ∷ 11 ∷ 3 ∷ []) 2 ≡ 31 ∷ 10 ∷ [])
    -- two blocks
    × (rebuilt scheme_a (1 ∷ 2 ∷ []) 2 (11 ∷ 3 ∷ 3 ∷ 6 ∷ 31 ∷ 0 ∷ 10 ∷ 6 ∷ []) 3 ≡ 29 ∷ 1 ∷ 13 ∷ 6 ∷ [])
    -- all three agree; not where a byte of the last, or of the first one, is another
    × (agrees scheme_a (1 ∷ 2 ∷ 3 ∷ []) 1 (11 ∷ 3 ∷ 31 ∷ 10 ∷ 29 ∷ 13 ∷ []) ≡ true)
    × (agrees scheme_a (1 ∷ 2 ∷ 3 ∷ []) 1 (11 ∷ 3 ∷ 31 ∷ 10 ∷ 29 ∷ 12 ∷ []) ≡ false)
    × (agrees scheme_a (1 ∷ 2 ∷ 3 ∷ []) 1 (10 ∷ 3 ∷ 31 ∷ 10 ∷ 29 ∷ 13 ∷ []) ≡ false)
    -- any two agree, and all where there is no block
    × (agrees scheme_a (1 ∷ 2 ∷ []) 1 (10 ∷ 3 ∷ 31 ∷ 10 ∷ []) ≡ true)
    × (agrees scheme_a (1 ∷ 2 ∷ 3 ∷ []) 0 [] ≡ true)
    -- of one more than are enough nobody is named: without any one of them the others agree
    × (named scheme_a (1 ∷ 2 ∷ 3 ∷ []) 1 (11 ∷ 2 ∷ 31 ∷ 10 ∷ 29 ∷ 13 ∷ []) ≡ 0)
unfolding ◌⊕◌ ◌⊗◌ byte.product reduce cut squares_product ◌⊘◌ next eval plus scale linear above vanishing through fitted divides first_from common_multiple block_length rows_of_count rows_of_block tabulate joined piece pieces flat differing share_of_blocks readings opened_blocks point row_of keyed copied with_groups rows_of staircase group_of count_of origin_in origin upper_part lower_part placed opened_from opened_block opened_lower opened_keys opened_string found_blocks found_keys rebuilt without without_piece agrees named
examples = (refl, refl, refl, refl, refl, refl, refl, refl, refl, refl, refl, refl, refl, refl)

pub naming_examples :
    -- the values of 9 + 5x, and 13 for the 12 of party 1: what parties 1 and 2 have gives party 3 another value, so that is the first that differs
    (agrees four_of_one_row (1 ∷ 2 ∷ 3 ∷ 4 ∷ []) 1 (12 ∷ 3 ∷ 6 ∷ 29 ∷ []) ≡ true)
    × (named four_of_one_row (1 ∷ 2 ∷ 3 ∷ 4 ∷ []) 1 (13 ∷ 3 ∷ 6 ∷ 29 ∷ []) ≡ 1)
    -- one wrong share, at each place
    × (named four (1 ∷ 2 ∷ 3 ∷ 4 ∷ []) 1 (11 ∷ 2 ∷ 31 ∷ 10 ∷ 29 ∷ 13 ∷ 109 ∷ 24 ∷ []) ≡ 1)
    × (named four (1 ∷ 2 ∷ 3 ∷ 4 ∷ []) 1 (11 ∷ 3 ∷ 31 ∷ 11 ∷ 29 ∷ 13 ∷ 109 ∷ 24 ∷ []) ≡ 2)
    × (named four (1 ∷ 2 ∷ 3 ∷ 4 ∷ []) 1 (11 ∷ 3 ∷ 31 ∷ 10 ∷ 29 ∷ 12 ∷ 109 ∷ 24 ∷ []) ≡ 3)
    × (named four (1 ∷ 2 ∷ 3 ∷ 4 ∷ []) 1 (11 ∷ 3 ∷ 31 ∷ 10 ∷ 29 ∷ 13 ∷ 109 ∷ 25 ∷ []) ≡ 4)
    -- the first of these is no share that differs: it is one of those that the others are rebuilt from, and the first that differs is that of party 3
    × (rebuilt four (1 ∷ 2 ∷ 3 ∷ 4 ∷ []) 1 (11 ∷ 2 ∷ 31 ∷ 10 ∷ 29 ∷ 13 ∷ 109 ∷ 24 ∷ []) 1 ≡ 11 ∷ 2 ∷ [])
    × (rebuilt four (1 ∷ 2 ∷ 3 ∷ 4 ∷ []) 1 (11 ∷ 2 ∷ 31 ∷ 10 ∷ 29 ∷ 13 ∷ 109 ∷ 24 ∷ []) 2 ≡ 31 ∷ 10 ∷ [])
    × (rebuilt four (1 ∷ 2 ∷ 3 ∷ 4 ∷ []) 1 (11 ∷ 2 ∷ 31 ∷ 10 ∷ 29 ∷ 13 ∷ 109 ∷ 24 ∷ []) 3 ≡ 234 ∷ 251 ∷ [])
    -- the party is named, not its place
    × (named four (4 ∷ 3 ∷ 2 ∷ 1 ∷ []) 1 (109 ∷ 25 ∷ 29 ∷ 13 ∷ 31 ∷ 10 ∷ 11 ∷ 3 ∷ []) ≡ 4)
    -- two wrong shares; three parties
    × (named four (1 ∷ 2 ∷ 3 ∷ 4 ∷ []) 1 (11 ∷ 2 ∷ 31 ∷ 10 ∷ 29 ∷ 12 ∷ 109 ∷ 24 ∷ []) ≡ 0)
    × (named four (1 ∷ 2 ∷ 4 ∷ []) 1 (11 ∷ 2 ∷ 31 ∷ 10 ∷ 109 ∷ 24 ∷ []) ≡ 0)
unfolding ◌⊕◌ ◌⊗◌ byte.product reduce cut squares_product ◌⊘◌ next eval plus scale linear above vanishing through fitted divides first_from common_multiple block_length rows_of_count rows_of_block tabulate joined piece pieces flat differing share_of_blocks readings opened_blocks point row_of keyed copied with_groups rows_of staircase group_of count_of origin_in origin upper_part lower_part placed opened_from opened_block opened_lower opened_keys opened_string found_blocks found_keys rebuilt without without_piece agrees named
naming_examples = (refl, refl, refl, refl, refl, refl, refl, refl, refl, refl, refl, refl)

pub two_key_examples :
    -- the block 5 7 under the keys 9 4 and 2 6
    (found_keys four_with_two_keys (4 ∷ 1 ∷ 2 ∷ []) 1 (146 ∷ 106 ∷ 15 ∷ 3 ∷ 45 ∷ 18 ∷ []) ≡ 9 ∷ 4 ∷ 2 ∷ 6 ∷ [])
    × (rebuilt four_with_two_keys (4 ∷ 1 ∷ 2 ∷ []) 1 (146 ∷ 106 ∷ 15 ∷ 3 ∷ 45 ∷ 18 ∷ []) 3 ≡ 57 ∷ 19 ∷ [])
    × (agrees four_with_two_keys (1 ∷ 2 ∷ 3 ∷ 4 ∷ []) 1 (15 ∷ 3 ∷ 45 ∷ 18 ∷ 57 ∷ 19 ∷ 146 ∷ 106 ∷ []) ≡ true)
    × (agrees four_with_two_keys (1 ∷ 2 ∷ 3 ∷ 4 ∷ []) 1 (15 ∷ 2 ∷ 45 ∷ 18 ∷ 57 ∷ 19 ∷ 146 ∷ 106 ∷ []) ≡ false)
    × (named four_with_two_keys (1 ∷ 2 ∷ 3 ∷ 4 ∷ []) 1 (15 ∷ 2 ∷ 45 ∷ 18 ∷ 57 ∷ 19 ∷ 146 ∷ 106 ∷ []) ≡ 0)
    -- the block 5 7 1 under the keys 9 4, 2 6 and 8 10, with a wrong byte in the share of party 1
    × (agrees five_with_two_keys (1 ∷ 2 ∷ 3 ∷ 4 ∷ 5 ∷ []) 1 (14 ∷ 3 ∷ 3 ∷ 61 ∷ 18 ∷ 24 ∷ 40 ∷ 19 ∷ 19 ∷ 137 ∷ 106 ∷ 48 ∷ 226 ∷ 107 ∷ 59 ∷ []) ≡ true)
    × (named five_with_two_keys (1 ∷ 2 ∷ 3 ∷ 4 ∷ 5 ∷ []) 1 (14 ∷ 3 ∷ 2 ∷ 61 ∷ 18 ∷ 24 ∷ 40 ∷ 19 ∷ 19 ∷ 137 ∷ 106 ∷ 48 ∷ 226 ∷ 107 ∷ 59 ∷ []) ≡ 1)
unfolding ◌⊕◌ ◌⊗◌ byte.product reduce cut squares_product ◌⊘◌ next eval plus scale linear above vanishing through fitted divides first_from common_multiple block_length rows_of_count rows_of_block tabulate joined piece pieces flat differing share_of_blocks readings opened_blocks point row_of keyed copied with_groups rows_of staircase group_of count_of origin_in origin upper_part lower_part placed opened_from opened_block opened_lower opened_keys opened_string found_blocks found_keys rebuilt without without_piece agrees named
two_key_examples = (refl, refl, refl, refl, refl, refl, refl)

-- the blocks 5 7 1 3 and 2 8 6 128 under the keys 9 4 and 2 6, and 8 10 and 13 11: the shares of parties 2 3 5 6
abbrev four_shares : List ℕ
four_shares = 93 ∷ 159 ∷ 18 ∷ 111 ∷ 125 ∷ 234 ∷ 28 ∷ 207 ∷ 116 ∷ 239 ∷ 242 ∷ 111 ∷ 99 ∷ 207 ∷ 138 ∷ 29 ∷ []

-- of parties 1 2 3 5 6, and of all, with a wrong byte in that of party 3, 206 for 207
abbrev five_shares : List ℕ
five_shares = 13 ∷ 142 ∷ 6 ∷ 128 ∷ 93 ∷ 159 ∷ 18 ∷ 111 ∷ 125 ∷ 234 ∷ 28 ∷ 206 ∷ 116 ∷ 239 ∷ 242 ∷ 111 ∷ 99 ∷ 207 ∷ 138 ∷ 29 ∷ []

abbrev six_shares : List ℕ
six_shares =
    13 ∷ 142 ∷ 6 ∷ 128 ∷ 93 ∷ 159 ∷ 18 ∷ 111 ∷ 125 ∷ 234 ∷ 28 ∷ 206 ∷ 61 ∷ 208 ∷ 202 ∷ 12 ∷ 116 ∷ 239 ∷ 242 ∷ 111 ∷ 99 ∷ 207 ∷ 138 ∷ 29 ∷ []

pub two_over_examples :
    -- two blocks and their keys are found from four parties, and with them the share of party 4
    (found_blocks six_with_two_over (2 ∷ 3 ∷ 5 ∷ 6 ∷ []) 2 four_shares ≡ 5 ∷ 7 ∷ 1 ∷ 3 ∷ 2 ∷ 8 ∷ 6 ∷ 128 ∷ [])
    × (found_keys six_with_two_over (2 ∷ 3 ∷ 5 ∷ 6 ∷ []) 2 four_shares ≡ 9 ∷ 4 ∷ 2 ∷ 6 ∷ 8 ∷ 10 ∷ 13 ∷ 11 ∷ [])
    × (rebuilt six_with_two_over (2 ∷ 3 ∷ 5 ∷ 6 ∷ []) 2 four_shares 4 ≡ 61 ∷ 208 ∷ 202 ∷ 12 ∷ [])
    -- the wrong share, one of the first four: of six parties it is named, of five nobody is
    × (named six_with_two_over (1 ∷ 2 ∷ 3 ∷ 4 ∷ 5 ∷ 6 ∷ []) 2 six_shares ≡ 3)
    × (agrees six_with_two_over (1 ∷ 2 ∷ 3 ∷ 5 ∷ 6 ∷ []) 2 five_shares ≡ false)
    × (named six_with_two_over (1 ∷ 2 ∷ 3 ∷ 5 ∷ 6 ∷ []) 2 five_shares ≡ 0)
unfolding ◌⊕◌ ◌⊗◌ byte.product reduce cut squares_product ◌⊘◌ next eval plus scale linear above vanishing through fitted divides first_from common_multiple block_length rows_of_count rows_of_block tabulate joined piece pieces flat differing share_of_blocks readings opened_blocks point row_of keyed copied with_groups rows_of staircase group_of count_of origin_in origin upper_part lower_part placed opened_from opened_block opened_lower opened_keys opened_string found_blocks found_keys rebuilt without without_piece agrees named
two_over_examples = (refl, refl, refl, refl, refl, refl)
