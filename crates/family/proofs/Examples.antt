-- Worked examples, by computing. The layout: two blocks of one byte and one key, of which a party s has s times the byte in row 0 and s times the key in
-- row 1. In a share all blocks of row 0 come first; the share of party 2 follows that of party 1. And padding with a marked end.
-- Assumes nothing.
use mathlib.Core.Path.{◌≡◌, refl}
use mathlib.Core.Bool.{true, false}
use mathlib.Core.List.{[], ◌∷◌, ◌++◌, map}
use Prim.Native.Nat.{◌*◌}
use lib.ListN.{replicate}
use Rattle.lists.specs.Table.{tabulate, joined, piece}
use Rattle.scheme.specs.Padding.{padded_count}
use Rattle.family.specs.Family.{Family, share_of_blocks, shares_of_blocks}
use Rattle.family.specs.Padding.{marked, last_nonzero, end_place, end_missing, end_refused}

abbrev pub two_rows : Family
two_rows = record { block = 1; rows = 2; keys = 1; column = λ bytes keys s. map (◌*◌ s) (bytes ++ keys) }

pub examples : shares_of_blocks two_rows 2 2 (5 ∷ 6 ∷ []) (7 ∷ 8 ∷ []) ≡ 5 ∷ 6 ∷ 7 ∷ 8 ∷ 10 ∷ 12 ∷ 14 ∷ 16 ∷ []
unfolding shares_of_blocks share_of_blocks tabulate joined piece
examples = refl

pub padding :
    -- no bytes, a block with room for the marker alone, a whole block
    (marked 2 [] ≡ 128 ∷ 0 ∷ [])
    × (marked 3 (1 ∷ 2 ∷ []) ≡ 1 ∷ 2 ∷ 128 ∷ [])
    × (marked 2 (1 ∷ 2 ∷ []) ≡ 1 ∷ 2 ∷ 128 ∷ 0 ∷ [])
    -- the end at the beginning and at the end of the last block, after a byte 128 of the message
    × (end_missing 2 2 (1 ∷ 2 ∷ 128 ∷ 0 ∷ []) ≡ false)
    × (end_place 2 2 (1 ∷ 2 ∷ 128 ∷ 0 ∷ []) ≡ 2)
    × (end_missing 2 2 (1 ∷ 2 ∷ 128 ∷ 128 ∷ []) ≡ false)
    × (end_place 2 2 (1 ∷ 2 ∷ 128 ∷ 128 ∷ []) ≡ 3)
    -- none: a last block of zeros after one with a marker; a last byte other than 128
    × (end_missing 2 2 (1 ∷ 128 ∷ 0 ∷ 0 ∷ []) ≡ true)
    × (end_missing 2 2 (1 ∷ 2 ∷ 128 ∷ 127 ∷ []) ≡ true)
    -- the longest message, and one that is longer
    × (end_refused 2 8193 (replicate 16384 7 ++ 128 ∷ 0 ∷ []) ≡ false)
    × (end_refused 2 8193 (replicate 16384 7 ++ 7 ∷ 128 ∷ []) ≡ true)
unfolding padded_count marked last_nonzero piece end_place end_missing end_refused
padding = (refl, refl, refl, refl, refl, refl, refl, refl, refl, refl, refl)
