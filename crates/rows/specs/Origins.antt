-- The places that the search for the origins of a row's coefficients finds, for all numbers, of a scheme or not.
-- Assumes nothing.
use Rattle.std.specs.Prelude.{cond, ◌&&◌, List, ℕ, zero, suc, ◌+◌, ◌-◌, ◌*◌, ◌/◌, ◌%◌, ltb, leb, eqb, length, get_or}
use Rattle.lists.specs.Table.{tabulate}
use Rattle.scheme.specs.Check.{rows_of_count}
use Rattle.staircase.specs.Coefficients.{group_of, count_of}

-- the place in the block's message of the coefficient of degree e of row j: `origin_in` of staircase/specs/Coefficients.antt, and 0 where there is
-- nothing to find, namely at a key's degree, past the row's end, and where a copy would come from counts that do not fall or from no earlier
-- row. None of these is so at the degrees of a scheme's rows from z up (`found-origin` in proofs/Laws.antt).
unfoldable pub found_in : ℕ → ℕ → List ℕ → ℕ → ℕ → ℕ → ℕ
found_in m z ds zero j e = 0
found_in m z ds (suc bound) j e =
    let i : ℕ = group_of m z ds j in
    let d : ℕ = get_or ds i 0 in
    let above : ℕ = get_or ds (i - 1) 0 in
    let q : ℕ = (j - rows_of_count m z above) * (d - z) + (e - z) in
    let home : ℕ = found_in m z ds bound (q / (above - d)) (d + q % (above - d)) in
    let copied : ℕ = cond (ltb d above && ltb (q / (above - d)) j) home 0 in
    let place : ℕ = cond (eqb i 0) (j * (d - z) + (e - z)) copied in
    cond (leb z e && ltb e d) place 0

-- each step is in an earlier row, so j + 1 bounds the number of rows on the way
unfoldable pub found : ℕ → ℕ → List ℕ → ℕ → ℕ → ℕ
found m z ds j e = found_in m z ds (suc j) j e

-- what stands at place e once the places of row j are written over these, each at its degree
unfoldable pub place_over : ℕ → ℕ → List ℕ → ℕ → List ℕ → ℕ → ℕ
place_over m z ds j places e = cond (leb z e && ltb e (count_of m z ds j)) (found m z ds j e) (get_or places e 0)

-- all of them: as many as there were
unfoldable pub origins_over : ℕ → ℕ → List ℕ → ℕ → List ℕ → List ℕ
origins_over m z ds j places = tabulate (length places) (place_over m z ds j places)
