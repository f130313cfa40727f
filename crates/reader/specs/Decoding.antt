-- What the reader's loops do (document 01's opener). B is a string of whole blocks whose prefixes, under some keys, are those that are read.
-- The contracts speak of every such B, and say of a write only that it is a byte of B: what was one stays one.
-- Assumes nothing.
use Rattle.std.specs.Prelude.{◌≡◌, true, List, [], ℕ, ◌+◌, ◌-◌, ◌*◌, ◌≤◌, ◌<◌, length, get_or}
use Rattle.lists.specs.Each.{Each, Distinct, Byte, occurs}
use Rattle.lists.specs.Table.{tabulate}
use Rattle.lists.specs.Without.{without_piece}
use Rattle.gf256.specs.Byte.{◌⊗◌}
use Rattle.gf256.specs.Lanes.{lanes}
use Rattle.interpolation.specs.Polynomial.{eval, sum_to}
use Rattle.interpolation.specs.Interpolation.{side, basis}
use Rattle.interpolation.specs.Opening.{remainder}
use Rattle.scheme.specs.declared.accepted.Scheme.{Scheme}
use Rattle.scheme.specs.Facts.{SchemeIs}
use Rattle.scheme.specs.Limits.{max_block, max_blocks}
use Rattle.scheme.specs.Check.{rows_of_count}
use Rattle.family.specs.Message.{Bytes}
use Rattle.staircase.specs.Coefficients.{count_of, origin, coefficient_at}
use Rattle.order.specs.ReadingOrder.{row_in_turn}
use Rattle.reader.specs.declared.decoding.Sizes.{Sizes}

-- the largest number that places are counted in
abbrev pub max_usize : ℕ
max_usize = 18446744073709551615

-- ---- 64 blocks side by side

-- the coefficients of degree e: the sum, over the first n of the columns, which stand one after another, of the column's weight at that degree
-- times its bytes
unfoldable pub combined : List ℕ → List (List ℕ) → ℕ → ℕ → List ℕ
combined columns weights e n = tabulate lanes (λ k. sum_to n (λ i. get_or (get_or weights i []) e 0 ⊗ get_or columns (i * lanes + k) 0))

-- the columns from degree d up: a row's known coefficients, those of degrees d to top − 1, as they stand in the work buffer
pub record KnownColumns (work places : List ℕ) (d top t m : ℕ) (columns : List ℕ) : Type 0 where
  pub long : length columns ≡ side * lanes
  pub known : (e k : ℕ) → d ≤ e → e < top → k < lanes → get_or columns (e * lanes + k) 0 ≡ get_or work (t * m + get_or places e 0 + k * m) 0

-- the first n columns: as many parties' bytes from place q of their prefixes on, `many` of them; the others as they were
pub record SentColumns (prefixes : List ℕ) (prefix q many n : ℕ) (before columns : List ℕ) : Type 0 where
  pub long : length columns ≡ side * lanes
  pub sent : (a k : ℕ) → a < n → k < many → get_or columns (a * lanes + k) 0 ≡ get_or prefixes (a * prefix + q + k) 0
  pub still : (i : ℕ) → n * lanes ≤ i → get_or columns i 0 ≡ get_or before i 0

-- w became w' by writes of bytes of B alone, among them those at the first n of these places
pub record WroteFrom (B w w' : List ℕ) (n : ℕ) (place : ℕ → ℕ) : Type 0 where
  pub long : length w' ≡ length w
  pub still : (i : ℕ) → get_or w i 0 ≡ get_or B i 0 → get_or w' i 0 ≡ get_or B i 0
  pub new : (k : ℕ) → k < n → get_or w' (place k) 0 ≡ get_or B (place k) 0

-- the first n of the column's bytes were written, `step` apart from place `at` on: said for every B that has the first `many` of them there
abbrev pub Scattered : List ℕ → ℕ → ℕ → ℕ → ℕ → List ℕ → List ℕ → Type 0
Scattered column at step many n w w' =
    (B : List ℕ) → ((k : ℕ) → k < many → get_or column k 0 ≡ get_or B (at + k * step) 0) → WroteFrom B w w' n (λ k. at + k * step)

-- ---- one row, of what is read in these sizes

-- the prefixes that are read: all that are lent but the one that is passed over
abbrev pub read_by : Sizes → List ℕ → List ℕ
read_by sizes prefixes = without_piece sizes.prefix sizes.skip prefixes

-- the sizes are within their limits, and those of the prefixes
pub record SizesFit (sizes : Sizes) (prefixes : List ℕ) : Type 0 where
  pub z_low : sizes.z ≤ sizes.d
  pub d_high : sizes.d ≤ side
  pub block_high : sizes.block ≤ max_block
  pub blocks_high : sizes.blocks ≤ max_blocks
  pub prefixes_long : length prefixes ≡ sizes.d * sizes.prefix

-- the places of degrees z to top − 1 are places in a block of m bytes
abbrev pub PlacesBelow : ℕ → ℕ → ℕ → List ℕ → Type 0
PlacesBelow z top m places = (e : ℕ) → z ≤ e → e < top → get_or places e 0 < m

-- a row of `top` coefficients, with their places in the block by degree, whose bytes stand from place q on in each prefix
pub record RowFits (sizes : Sizes) (top q : ℕ) (places : List ℕ) : Type 0 where
  pub top_low : sizes.d ≤ top
  pub top_high : top ≤ side
  pub inside : q + sizes.blocks ≤ sizes.prefix
  pub places_low : PlacesBelow sizes.z top sizes.block places

-- the weights are those of an opening at d points, which are distinct bytes, for rows of up to `top` coefficients
pub record WeightsOf (points : List ℕ) (d top : ℕ) (weights : List (List ℕ)) : Type 0 where
  pub long : length points ≡ d
  pub bytes : Each Byte points
  pub distinct : Distinct points
  pub parties : (a e : ℕ) → a < d → e < d → get_or (get_or weights a []) e 0 ≡ get_or (basis points a) e 0
  pub known : (i e : ℕ) → d ≤ i → i < top → e < d → get_or (get_or weights i []) e 0 ≡ get_or (remainder points (i - d)) e 0

-- the row in each block of B: its coefficients from degree z up are B's bytes at their places, and the prefixes have its values
pub record RowOf (sizes : Sizes) (top q : ℕ) (places points prefixes B : List ℕ) : Type 0 where
  pub row : ℕ → List ℕ
  pub long : (t : ℕ) → t < sizes.blocks → length (row t) ≡ top
  pub bytes : (t : ℕ) → t < sizes.blocks → Each Byte (row t)
  pub message : (t e : ℕ) → t < sizes.blocks → sizes.z ≤ e → e < top → get_or (row t) e 0 ≡ get_or B (t * sizes.block + get_or places e 0) 0
  pub sent : (t a : ℕ) → t < sizes.blocks → a < sizes.d
      → get_or prefixes (a * sizes.prefix + (q + t)) 0 ≡ eval (get_or points a 0) (row t)

-- the buffer has B's bytes at the places of degrees `low` to `high` − 1, in the blocks from s to n − 1
abbrev pub HasPlaces : ℕ → ℕ → ℕ → ℕ → ℕ → List ℕ → List ℕ → List ℕ → Type 0
HasPlaces s n m low high places B w =
    (t e : ℕ) → s ≤ t → t < n → low ≤ e → e < high → get_or w (t * m + get_or places e 0) 0 ≡ get_or B (t * m + get_or places e 0) 0

-- w became w' by writes of bytes of B alone, among them those at the places of degrees z to d − 1, in the blocks from s to n − 1
pub record Solved (s n m z d : ℕ) (places B w w' : List ℕ) : Type 0 where
  pub long : length w' ≡ length w
  pub still : (i : ℕ) → get_or w i 0 ≡ get_or B i 0 → get_or w' i 0 ≡ get_or B i 0
  pub new : HasPlaces s n m z d places B w'

-- what the loop over the degrees z to d − 1 does: said for every B that has the sums at their places in the blocks from t on, `many` of them
abbrev pub SolvesBatch : List ℕ → List (List ℕ) → List ℕ → ℕ → ℕ → ℕ → ℕ → ℕ → ℕ → List ℕ → List ℕ → Type 0
SolvesBatch columns weights places z d top t m many w w' =
    (B : List ℕ) → ((e k : ℕ) → z ≤ e → e < d → k < many → get_or (combined columns weights e top) k 0 ≡ get_or B (t * m + get_or places e 0 + k * m) 0)
    → Solved t (t + many) m z d places B w w'

-- what a row's loop over the blocks from s to n − 1 does: said for every B that has these prefixes at points with these weights, and is known from
-- degree d up
abbrev pub Solves : Sizes → ℕ → ℕ → List ℕ → List (List ℕ) → List ℕ → ℕ → ℕ → List ℕ → List ℕ → Type 0
Solves sizes top q places weights prefixes s n w w' =
    (B points : List ℕ) → WeightsOf points sizes.d top weights → RowOf sizes top q places points prefixes B
    → HasPlaces s n sizes.block sizes.d top places B w → Solved s n sizes.block sizes.z sizes.d places B w w'

-- ---- row after row in the reader's order, in the scheme s with the counts ds

-- P, the rows of a prefix for the count d
abbrev pub sent_rows : Scheme → ℕ → ℕ
sent_rows s d = rows_of_count s.block s.z d

-- the bytes of d prefixes
abbrev pub sent_bytes : Scheme → ℕ → ℕ → ℕ
sent_bytes s d blocks = d * (sent_rows s d * blocks)

-- the sizes of d prefixes where the one at place `skip` is passed over
abbrev pub sizes_of : Scheme → ℕ → ℕ → ℕ → Sizes
sizes_of s d skip blocks = record { z = s.z; d = d; block = s.block; blocks = blocks; prefix = sent_rows s d * blocks; skip = skip }

-- the prefixes that are read, without the one at place `skip`
abbrev pub read_from : Scheme → ℕ → ℕ → ℕ → List ℕ → List ℕ
read_from s d blocks skip prefixes = without_piece (sent_rows s d * blocks) skip prefixes

-- the scheme is accepted, and d is one of its counts
pub record Counted (s : Scheme) (ds : List ℕ) (d : ℕ) : Type 0 where
  pub scheme : SchemeIs s s.n s.r s.z ds
  pub count : occurs d ds ≡ true

-- what is read: the blocks are not too many, and there are d prefixes
pub record Input (s : Scheme) (ds : List ℕ) (d blocks : ℕ) (prefixes : List ℕ) : Type 0 where
  pub counted : Counted s ds d
  pub blocks_high : blocks ≤ max_blocks
  pub prefixes_long : length prefixes ≡ sent_bytes s d blocks

-- B are whole blocks and K their keys, of which these are the prefixes at these points
pub record Sent (s : Scheme) (ds : List ℕ) (d blocks : ℕ) (points prefixes B K : List ℕ) : Type 0 where
  pub blocks_are : Bytes (blocks * s.block) B
  pub keys_are : Bytes (blocks * (s.rows * s.z)) K
  pub rows : (j t a : ℕ) → j < sent_rows s d → t < blocks → a < d
      → get_or prefixes (a * (sent_rows s d * blocks) + (j * blocks + t)) 0
      ≡ eval (get_or points a 0) (tabulate (count_of s.block s.z ds j) (coefficient_at s.block s.rows s.z ds B K t j))

-- said of every B that has these prefixes at points with these weights, which are for the largest count
abbrev pub EachSent : Scheme → List ℕ → ℕ → ℕ → List (List ℕ) → List ℕ → (List ℕ → Type 0) → Type 0
EachSent s ds d blocks weights prefixes Says =
    (B K points : List ℕ) → WeightsOf points d (get_or ds 0 0) weights → Sent s ds d blocks points prefixes B K → Says B

-- the buffer has B's bytes at all origins of the rows of the first turns, `many` of them
abbrev pub Found : Scheme → List ℕ → ℕ → ℕ → ℕ → List ℕ → List ℕ → Type 0
Found s ds d blocks many B w =
    (u e t : ℕ) → u < many → t < blocks → s.z ≤ e → e < count_of s.block s.z ds (row_in_turn s.block s.z ds d u)
    → let place : ℕ = t * s.block + origin s.block s.z ds (row_in_turn s.block s.z ds d u) e in
    get_or w place 0 ≡ get_or B place 0
