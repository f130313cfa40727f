-- What the splitter's inner functions make, on 64 blocks side by side.
-- Assumes nothing.
use Rattle.std.specs.Prelude.{◌≡◌, cond, List, [], ◌∷◌, ◌++◌, ◌⊎◌, ℕ, ◌+◌, ◌*◌, ◌≤◌, ◌<◌, ltb, length, get_or}
use Rattle.interpolation.specs.RowValue.{values_of}
use Rattle.scheme.specs.declared.accepted.Scheme.{Scheme}
use Rattle.columns.specs.Columns.{strided, flat_columns}
use Rattle.staircase.specs.Coefficients.{origin, key_place}
use Rattle.dealer.specs.declared.follower.Follower.{Follower}

-- the coefficient of degree e of row j in 64 blocks from t on: key bytes, or the message bytes at its origin, 0 past their ends
unfoldable pub column : ℕ → ℕ → ℕ → List ℕ → List ℕ → List ℕ → ℕ → ℕ → ℕ → List ℕ
column m b z ds message keys t j e =
    cond (ltb e z) (strided keys (key_place b z t j e) (b * z)) (strided message (t * m + origin m z ds j e) m)

-- o became w: in each of the first `parts` of the parts of m bytes, the bytes from q on, `many` of them, are by the rule g, and nothing else changed
pub record Filled (m q many : ℕ) (g : ℕ → ℕ → ℕ) (parts : ℕ) (o w : List ℕ) : Type 0 where
  pub long : length w ≡ length o
  pub inside : (a k : ℕ) → a < parts → k < many → get_or w (a * m + (q + k)) 0 ≡ g a k
  pub outside : (a i : ℕ) → i < m → (parts ≤ a) ⊎ ((i < q) ⊎ (q + many ≤ i)) → get_or w (a * m + i) 0 ≡ get_or o (a * m + i) 0

-- the message of the scheme s ends where it is said: its length is so many whole blocks and a place
pub record EndsThere (s : Scheme) (end : Follower) (message : List ℕ) : Type 0 where
  pub length_is : length message ≡ end.block * s.block + end.place
  pub inside : end.place < s.block

-- a column of a place in 64 blocks from t on, of bytes that end at place `rest` of block `last`, became that of the bytes and one more: in blocks of any
-- length m
abbrev pub Followed : ℕ → ℕ → ℕ → ℕ → ℕ → List ℕ → List ℕ → Type 0
Followed last rest byte t place before after =
    (bytes : List ℕ) (m : ℕ) → length bytes ≡ last * m + rest → rest < m → place < m
    → before ≡ strided bytes (t * m + place) m → after ≡ strided (bytes ++ byte ∷ []) (t * m + place) m

-- in each party's share the row's values at its point were written, `many` of them from place q on
abbrev pub RowFilled : ℕ → ℕ → ℕ → List ℕ → ℕ → List ℕ → List ℕ → List ℕ → Type 0
RowFilled share q many bytes d points o w =
    Filled share q many (λ a k. get_or (values_of (get_or points a 0) (flat_columns d bytes)) k 0) (length points) o w
