-- The scheme sheet (document 01's plan sheet): the text that is printed for the bytes of the input.
-- Assumes nothing.
use Rattle.std.specs.Prelude.{cond, List, [], ◌∷◌, ◌++◌, ℕ, zero, suc, ◌+◌, ◌*◌, ◌/◌, ◌%◌, ltb, eqb, get_or, take, drop}
use Rattle.scheme.specs.Limits.{default_n, default_r, default_z, default_counts}
use Rattle.scheme.specs.BlockLength.{block_length}
use Rattle.scheme.specs.Check.{refusal, rows_of_count, rows_of_block}

-- the decimal digits of x, at most `most` of them, as ASCII
unfoldable pub digits : ℕ → ℕ → List ℕ
digits zero x = []
digits (suc most) x =
    let higher : List ℕ = digits most (x / 10) in
    cond (ltb x 10) ((48 + x) ∷ []) (higher ++ ((48 + x % 10) ∷ []))

-- a number in decimal; x has at most x + 1 digits
unfoldable pub decimal : ℕ → List ℕ
decimal x = digits (suc x) x

-- a line: one space between two items, the byte 10 at the end
unfoldable pub line : List (List ℕ) → List ℕ
line [] = 10 ∷ []
line (w ∷ []) = w ++ (10 ∷ [])
line (w ∷ v ∷ ws) = w ++ (32 ∷ line (v ∷ ws))

-- `block`, `rows` and `refused` in ASCII
abbrev pub word_block : List ℕ
word_block = 98 ∷ 108 ∷ 111 ∷ 99 ∷ 107 ∷ []

abbrev pub word_rows : List ℕ
word_rows = 114 ∷ 111 ∷ 119 ∷ 115 ∷ []

abbrev pub word_refused : List ℕ
word_refused = 114 ∷ 101 ∷ 102 ∷ 117 ∷ 115 ∷ 101 ∷ 100 ∷ []

-- a count's line: d, its P, and the bytes read for a block, d × P
unfoldable pub count_line : ℕ → ℕ → ℕ → List ℕ
count_line m z d = line (decimal d ∷ decimal (rows_of_count m z d) ∷ decimal (d * rows_of_count m z d) ∷ [])

-- one line a count, in the list's order
unfoldable pub count_lines : ℕ → ℕ → List ℕ → List ℕ
count_lines m z [] = []
count_lines m z (d ∷ ds) = count_line m z d ++ count_lines m z ds

-- the text for a scheme
unfoldable pub scheme_text : ℕ → ℕ → ℕ → List ℕ → List ℕ
scheme_text n r z ds =
    let m : ℕ = block_length z ds in
    cond (eqb (refusal n r z ds) 0)
    (line (word_block ∷ decimal m ∷ word_rows ∷ decimal (rows_of_block n r z m) ∷ []) ++ count_lines m z ds)
    (line (word_refused ∷ decimal (refusal n r z ds) ∷ []))

-- how many bytes of the input count
abbrev pub max_input : ℕ
max_input = 12

-- the text for the input bytes: n, r, z and the counts; an absent one of the first three is 0, and empty input means the default scheme
unfoldable pub sheet_text : List ℕ → List ℕ
sheet_text [] = scheme_text default_n default_r default_z default_counts
sheet_text (n ∷ more) = scheme_text n (get_or more 0 0) (get_or more 1 0) (drop 3 (take max_input (n ∷ more)))
