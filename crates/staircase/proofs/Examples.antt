-- Worked examples, computed from the very definitions and compared with what other means gave: the rows in the scheme of the paper's Figure 2b; the
-- shares of two blocks, the second one padded; those in a scheme with two keys a row, two rows in its first group and copies of three coefficients
-- a row; the same of padded messages; and those of 16 parties, of one row with one key.
-- Assumes nothing.
use mathlib.Core.Path.{◌≡◌, refl}
use mathlib.Core.List.{[], ◌∷◌}
use Rattle.lists.specs.Table.{tabulate, joined, piece, pieces, flat}
use Rattle.gf256.specs.Byte as byte
use Rattle.gf256.specs.Byte.{◌⊕◌, ◌⊗◌, cut, reduce}
use Rattle.interpolation.specs.Polynomial.{next, eval}
use Rattle.lists.specs.FirstFrom.{first_from}
use Rattle.scheme.specs.BlockLength.{divides, common_multiple, block_length}
use Rattle.scheme.specs.Check.{rows_of_count, rows_of_block, block_count}
use Rattle.scheme.specs.Padding.{padded_count}
use Rattle.family.specs.Message.{padded}
use Rattle.family.specs.Padding.{marked}
use Rattle.family.specs.Family.{share_of_blocks, shares_of_blocks}
use Rattle.staircase.specs.Parameters.{parameters, point}
use Rattle.staircase.specs.Rows.{row_of, keyed, copied, with_groups, rows_of}
use Rattle.staircase.specs.Shares.{staircase, shares, padded_shares}

pub examples :
    (rows_of 6 1 (7 ∷ 4 ∷ 3 ∷ []) (1 ∷ 2 ∷ 3 ∷ 4 ∷ 5 ∷ 6 ∷ []) (10 ∷ 20 ∷ 30 ∷ [])
    ≡ (10 ∷ 1 ∷ 2 ∷ 3 ∷ 4 ∷ 5 ∷ 6 ∷ []) ∷ (20 ∷ 4 ∷ 5 ∷ 6 ∷ []) ∷ (30 ∷ 3 ∷ 6 ∷ []) ∷ [])
    × (shares (parameters 3 1 1 (3 ∷ 2 ∷ [])) (5 ∷ 7 ∷ 1 ∷ []) (9 ∷ 4 ∷ 2 ∷ 6 ∷ [])
    ≡ 11 ∷ 3 ∷ 3 ∷ 6 ∷ 31 ∷ 0 ∷ 10 ∷ 6 ∷ 29 ∷ 1 ∷ 13 ∷ 6 ∷ [])
    × (shares (parameters 7 3 2 (7 ∷ 4 ∷ [])) (1 ∷ 2 ∷ 3 ∷ 4 ∷ 5 ∷ 6 ∷ 7 ∷ 8 ∷ 9 ∷ 10 ∷ []) (21 ∷ 22 ∷ 23 ∷ 24 ∷ 25 ∷ 26 ∷ 27 ∷ 28 ∷ 29 ∷ 30 ∷ [])
    ≡ 2 ∷ 5 ∷ 4 ∷ 10 ∷ 0
    ∷ 198 ∷ 10 ∷ 1 ∷ 119 ∷ 85
    ∷ 209 ∷ 0 ∷ 4 ∷ 86 ∷ 116
    ∷ 106 ∷ 87 ∷ 90 ∷ 13 ∷ 67
    ∷ 14 ∷ 128 ∷ 23 ∷ 188 ∷ 214
    ∷ 170 ∷ 74 ∷ 130 ∷ 250 ∷ 240
    ∷ 206 ∷ 133 ∷ 215 ∷ 123 ∷ 89 ∷ [])
    -- padded: within a block; a whole block, with the marker in the next; and in the scheme with two keys a row
    × (padded_shares (parameters 3 1 1 (3 ∷ 2 ∷ [])) (5 ∷ []) (9 ∷ 4 ∷ []) ≡ 140 ∷ 132 ∷ 53 ∷ 31 ∷ 176 ∷ 159 ∷ [])
    × (padded_shares (parameters 3 1 1 (3 ∷ 2 ∷ [])) (5 ∷ 7 ∷ []) (9 ∷ 4 ∷ 2 ∷ 6 ∷ [])
    ≡ 11 ∷ 130 ∷ 3 ∷ 6 ∷ 31 ∷ 25 ∷ 10 ∷ 6 ∷ 29 ∷ 153 ∷ 13 ∷ 6 ∷ [])
    × (padded_shares (parameters 7 3 2 (7 ∷ 4 ∷ [])) (1 ∷ 2 ∷ 3 ∷ 4 ∷ 5 ∷ 6 ∷ 7 ∷ 8 ∷ 9 ∷ 10 ∷ []) (21 ∷ 22 ∷ 23 ∷ 24 ∷ 25 ∷ 26 ∷ 27 ∷ 28 ∷ 29 ∷ 30 ∷ 31 ∷ 32 ∷ 33 ∷ 34 ∷ 35 ∷ 36 ∷ 37 ∷ 38 ∷ 39 ∷ 40 ∷ [])
    ≡ 2 ∷ 191 ∷ 5 ∷ 3 ∷ 4 ∷ 7 ∷ 10 ∷ 3 ∷ 0 ∷ 15
    ∷ 198 ∷ 105 ∷ 10 ∷ 101 ∷ 1 ∷ 107 ∷ 119 ∷ 105 ∷ 85 ∷ 119
    ∷ 209 ∷ 201 ∷ 0 ∷ 71 ∷ 4 ∷ 79 ∷ 86 ∷ 79 ∷ 116 ∷ 95
    ∷ 106 ∷ 71 ∷ 87 ∷ 169 ∷ 90 ∷ 179 ∷ 13 ∷ 189 ∷ 67 ∷ 135
    ∷ 14 ∷ 231 ∷ 128 ∷ 139 ∷ 23 ∷ 151 ∷ 188 ∷ 155 ∷ 214 ∷ 175
    ∷ 170 ∷ 49 ∷ 74 ∷ 237 ∷ 130 ∷ 251 ∷ 250 ∷ 241 ∷ 240 ∷ 215
    ∷ 206 ∷ 145 ∷ 133 ∷ 207 ∷ 215 ∷ 223 ∷ 123 ∷ 215 ∷ 89 ∷ 255 ∷ [])
    × (shares (parameters 16 14 1 (2 ∷ [])) (5 ∷ []) (9 ∷ [])
    ≡ 12 ∷ 3 ∷ 6 ∷ 29 ∷ 24 ∷ 23 ∷ 18 ∷ 33 ∷ 36 ∷ 43 ∷ 46 ∷ 53 ∷ 48 ∷ 63 ∷ 58 ∷ 89 ∷ [])
unfolding shares padded_shares shares_of_blocks share_of_blocks staircase padded marked block_count padded_count block_length first_from common_multiple divides rows_of_block rows_of_count rows_of with_groups keyed row_of copied pieces flat piece tabulate joined point eval next ◌⊕◌ ◌⊗◌ byte.product reduce cut
examples = (refl, refl, refl, refl, refl, refl, refl)
