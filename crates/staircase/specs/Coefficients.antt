-- The same coefficients one by one, by following copies home: what the code works out, and what a reader can hold against the paper.
-- Assumes nothing.
use Rattle.std.specs.Prelude.{cond, List, [], ◌∷◌, ℕ, zero, suc, ◌+◌, ◌-◌, ◌*◌, ◌/◌, ◌%◌, ltb, eqb, get_or}
use Rattle.lists.specs.Table.{tabulate}
use Rattle.interpolation.specs.Polynomial.{eval}
use Rattle.scheme.specs.Check.{rows_of_count}

-- the group of row j, counted from 0: the place of the first count d with j below P of d
unfoldable pub group_of : ℕ → ℕ → List ℕ → ℕ → ℕ
group_of m z [] j = 0
group_of m z (d ∷ ds) j =
    let later : ℕ = suc (group_of m z ds j) in
    cond (ltb j (rows_of_count m z d)) 0 later

-- the number of coefficients of row j: the count of its group
unfoldable pub count_of : ℕ → ℕ → List ℕ → ℕ → ℕ
count_of m z ds j = get_or ds (group_of m z ds j) 0

-- the place in the block of the message byte that is the coefficient of degree e, z or more, of row j. In the first group it stands there
-- itself. In a later group, of count d after the count `above`, it is entry q of the copied list, which is the coefficient of degree
-- d + q mod (above − d) of the row q ÷ (above − d), an earlier one. So j + 1 bounds the number of rows on the way.
unfoldable pub origin_in : ℕ → ℕ → List ℕ → ℕ → ℕ → ℕ → ℕ
origin_in m z ds zero j e = 0
origin_in m z ds (suc bound) j e =
    let i : ℕ = group_of m z ds j in
    let d : ℕ = get_or ds i 0 in
    let above : ℕ = get_or ds (i - 1) 0 in
    let q : ℕ = (j - rows_of_count m z above) * (d - z) + (e - z) in
    let home : ℕ = origin_in m z ds bound (q / (above - d)) (d + q % (above - d)) in
    cond (eqb i 0) (j * (d - z) + (e - z)) home

unfoldable pub origin : ℕ → ℕ → List ℕ → ℕ → ℕ → ℕ
origin m z ds j e = origin_in m z ds (suc j) j e

-- the coefficient of degree e of row j, of a block and its keys: below z the row's own key, else the message byte at its origin
unfoldable pub coefficient : ℕ → ℕ → List ℕ → List ℕ → List ℕ → ℕ → ℕ → ℕ
coefficient m z ds block keys j e = cond (ltb e z) (get_or keys (j * z + e) 0) (get_or block (origin m z ds j e) 0)

-- the place of the key of degree e, below z, of row j of block t, where a block has b rows
abbrev pub key_place : ℕ → ℕ → ℕ → ℕ → ℕ → ℕ
key_place b z t j e = (t * b + j) * z + e

-- the coefficient of degree e of row j of block t, of blocks and their keys one after another
unfoldable pub coefficient_at : ℕ → ℕ → ℕ → List ℕ → List ℕ → List ℕ → ℕ → ℕ → ℕ → ℕ
coefficient_at m b z ds blocks keys t j e = cond (ltb e z) (get_or keys (key_place b z t j e) 0) (get_or blocks (t * m + origin m z ds j e) 0)

-- byte i of the share of N blocks at the point x: the value there of row i ÷ N of block i mod N
unfoldable pub share_byte : ℕ → ℕ → ℕ → List ℕ → List ℕ → List ℕ → ℕ → ℕ → ℕ → ℕ
share_byte m b z ds message keys N x i =
    eval x (tabulate (count_of m z ds (i / N)) (coefficient_at m b z ds message keys (i % N) (i / N)))
