-- One block opened from the values of its first P rows at d points, the last row first. The points are xs, d is their number, a count of
-- the scheme, and P is `rows_of_count m z d`.
-- Assumes nothing.
use Rattle.std.specs.Prelude.{◌≡◌, cond, List, ℕ, zero, suc, ◌+◌, ◌-◌, ◌*◌, ◌/◌, ◌%◌, ◌<◌, ltb, length, get_or, set, replicate}
use Rattle.lists.specs.Each.{Byte}
use Rattle.lists.specs.Table.{tabulate}
use Rattle.gf256.specs.Byte.{◌⊕◌}
use Rattle.interpolation.specs.Polynomial.{eval, above}
use Rattle.interpolation.specs.Interpolation.{fitted}
use Rattle.scheme.specs.Check.{rows_of_count}
use Rattle.family.specs.Message.{Bytes}
use Rattle.staircase.specs.Coefficients.{count_of, origin, coefficient}

-- row j of a block with its keys
unfoldable pub block_row : ℕ → ℕ → List ℕ → List ℕ → List ℕ → ℕ → List ℕ
block_row m z ds block keys j = tabulate (count_of m z ds j) (coefficient m z ds block keys j)

-- its coefficients of degree d and more, message bytes all, with zeros at the degrees below
unfoldable pub upper_part : ℕ → ℕ → List ℕ → ℕ → List ℕ → ℕ → List ℕ
upper_part m z ds d block j = above d (tabulate (count_of m z ds j) (λ e. get_or block (origin m z ds j e) 0))

-- its coefficients below degree d, from its values v j a at the d points, where the block holds the upper ones: what the upper ones add to
-- the values is taken away, and the polynomial through the points found
unfoldable pub lower_part : ℕ → ℕ → List ℕ → List ℕ → (ℕ → ℕ → ℕ) → List ℕ → ℕ → List ℕ
lower_part m z ds xs v block j =
    fitted (length xs) xs (tabulate (length xs) (λ a. v j a ⊕ eval (get_or xs a 0) (upper_part m z ds (length xs) block j)))

-- the block with the coefficients of row j of the degrees z to z + many − 1 written to their origins
unfoldable pub placed : ℕ → ℕ → List ℕ → ℕ → List ℕ → ℕ → List ℕ → List ℕ
placed m z ds j lower zero block = block
placed m z ds j lower (suc many) block = set (placed m z ds j lower many block) (origin m z ds j (z + many)) (get_or lower (z + many) 0)

-- what is known of the block from the rows j to j + many − 1, the last one first; zeros elsewhere. The upper coefficients of a row stand
-- again in later rows, so they are known when the row's turn comes.
unfoldable pub opened_from : ℕ → ℕ → List ℕ → List ℕ → (ℕ → ℕ → ℕ) → ℕ → ℕ → List ℕ
opened_from m z ds xs v j zero = replicate m 0
opened_from m z ds xs v j (suc many) =
    let later : List ℕ = opened_from m z ds xs v (suc j) many in
    placed m z ds j (lower_part m z ds xs v later j) (length xs - z) later

-- the block, from all P rows
unfoldable pub opened_block : ℕ → ℕ → List ℕ → List ℕ → (ℕ → ℕ → ℕ) → List ℕ
opened_block m z ds xs v = opened_from m z ds xs v 0 (rows_of_count m z (length xs))

-- the coefficients below degree d of row j, as they are found at its turn
unfoldable pub opened_lower : ℕ → ℕ → List ℕ → List ℕ → (ℕ → ℕ → ℕ) → ℕ → List ℕ
opened_lower m z ds xs v j = lower_part m z ds xs v (opened_from m z ds xs v (suc j) (rows_of_count m z (length xs) - suc j)) j

-- the keys of the P rows, and zeros for the rows after them, of which nothing is asked
unfoldable pub opened_keys : ℕ → ℕ → ℕ → List ℕ → List ℕ → (ℕ → ℕ → ℕ) → List ℕ
opened_keys m b z ds xs v = tabulate (b * z) (λ i. cond (ltb (i / z) (rows_of_count m z (length xs))) (get_or (opened_lower m z ds xs v (i / z)) (i % z) 0) 0)

-- the P rows have the values v j a at the points
abbrev pub HasValues : ℕ → ℕ → List ℕ → List ℕ → (ℕ → ℕ → ℕ) → List ℕ → List ℕ → Type 0
HasValues m z ds xs v block keys =
    (j a : ℕ) → j < rows_of_count m z (length xs) → a < length xs → eval (get_or xs a 0) (block_row m z ds block keys j) ≡ v j a

-- any bytes are the values at the points of the P rows of the opened block, and such values fix the block and the keys of these rows
pub record RowsExact (m b z : ℕ) (ds xs : List ℕ) : Type 0 where
  pub exists : (v : ℕ → ℕ → ℕ) → ((j a : ℕ) → j < rows_of_count m z (length xs) → a < length xs → Byte (v j a))
      → HasValues m z ds xs v (opened_block m z ds xs v) (opened_keys m b z ds xs v)
  pub block-bytes : (v : ℕ → ℕ → ℕ) → Bytes m (opened_block m z ds xs v)
  pub keys-bytes : (v : ℕ → ℕ → ℕ) → Bytes (b * z) (opened_keys m b z ds xs v)
  -- the values of a block's rows open to the block, and to the keys of these rows
  pub returns : (v : ℕ → ℕ → ℕ) (block keys : List ℕ) → Bytes m block → Bytes (b * z) keys → HasValues m z ds xs v block keys
      → opened_block m z ds xs v ≡ block
  pub keys_return : (v : ℕ → ℕ → ℕ) (block keys : List ℕ) → Bytes m block → Bytes (b * z) keys → HasValues m z ds xs v block keys
      → (j e : ℕ) → j < rows_of_count m z (length xs) → e < z → get_or (opened_keys m b z ds xs v) (j * z + e) 0 ≡ get_or keys (j * z + e) 0
