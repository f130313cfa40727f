-- Worked examples of the sheet, by computing: whole texts.
-- Assumes nothing.
use mathlib.Core.Path.{◌≡◌, refl}
use mathlib.Core.List.{List, [], ◌∷◌}
use Prim.Native.Nat.{ℕ}
use Prim.Native.Char.{code}
use Prim.Native.String.{String, [] as no_text, ◌∷◌ as ◌then◌}
use Rattle.scheme.specs.Outcome.{first_of}
use Rattle.lists.specs.FirstFrom.{first_from}
use Rattle.scheme.specs.BlockLength.{divides, common_multiple, block_length}
use Rattle.scheme.specs.Check.{falls, parties_refused, thresholds_refused, counts_refused, block_refused, refusal, rows_of_count, rows_of_block}
use Rattle.sheet.specs.Sheet.{digits, decimal, line, count_line, count_lines, scheme_text, sheet_text}

-- the bytes of a text in ASCII
abbrev ascii : String → List ℕ
ascii no_text = []
ascii (c then text) = code c ∷ ascii text

pub examples :
    -- the sheet of a scheme, of one that is refused as r and z are absent, and of the default, which no input means
    (sheet_text (7 ∷ 4 ∷ 1 ∷ 7 ∷ 4 ∷ 3 ∷ []) ≡ ascii "block 6 rows 3\n7 1 7\n4 2 8\n3 3 9\n")
    × (sheet_text (3 ∷ []) ≡ ascii "refused 2\n")
    × (sheet_text [] ≡ ascii "block 6 rows 6\n5 2 10\n4 3 12\n3 6 18\n")
unfolding divides first_from common_multiple block_length falls parties_refused thresholds_refused counts_refused block_refused first_of refusal rows_of_count rows_of_block digits decimal line count_line count_lines scheme_text sheet_text
examples = (refl, refl, refl)
