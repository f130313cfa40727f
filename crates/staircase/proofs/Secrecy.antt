-- Secrecy of one block: of a row only the keys depend on the key string, so z bytes that take, at the chosen points, the difference of two
-- blocks' other coefficients can be added to the keys of the row unseen.
-- Assumes nothing.
use mathlib.Core.Path.{◌≡◌, sym, ap, ◌∙◌}
use mathlib.Core.List.{List, map}
use Prim.Native.Nat.{ℕ, ◌+◌, ◌-◌, ◌*◌, ◌≤◌, ◌<◌}
use native.Mathlib.Nat.{zero-lt-suc}
use native.Mathlib.Omega.{arith}
use lib.ListN.{length, get_or, length-map}
use lib.Seq.{ext_get_or}
use Rattle.lists.specs.Each.{Each, Distinct, Byte}
use Rattle.lists.specs.Table.{piece}
use Rattle.lists.proofs.Each.{each_get_d, each_of, each_imp, each_map, each_mapped, map_each, each_joined, each_tabulate, each_at, get_or-map}
use Rattle.lists.proofs.Table.{length-tabulate, get_or-tabulate, tabulate-same, map-tabulate}
use Rattle.lists.proofs.Joined.{length-joined, piece-joined}
use Rattle.lists.proofs.Piece.{length-piece, get_or-piece}
use Rattle.gf256.specs.Byte.{◌⊕◌}
use Rattle.gf256.proofs.Laws.{⊕_assoc, ⊕_self, ⊕-zero, ⊕-byte, ⊗-byte}
use Rattle.interpolation.specs.Polynomial.{eval, plus}
use Rattle.interpolation.specs.Interpolation.{fitted}
use Rattle.interpolation.proofs.Laws.{eval-append, eval-plus, eval-byte, plus-at, plus-length, interpolation}
use Rattle.family.specs.Message.{Bytes}
use Rattle.family.specs.Secrecy.{sum, Mask}
use Rattle.family.proofs.Sum.{length-sum, get_or-sum, piece-sum}
use Rattle.scheme.specs.Facts as Facts
use Rattle.scheme.proofs.Laws.{accepted}
use Rattle.staircase.specs.Parameters.{Parameters, AcceptedScheme, Party, block, rows, point}
use Rattle.staircase.specs.Rows.{row_of}
use Rattle.staircase.specs.Coefficients.{group_of, count_of, origin, coefficient}
use Rattle.staircase.specs.Opening.{block_row}
use Rattle.staircase.proofs.Points.{points-bytes, points-distinct}
use Rattle.staircase.specs.Shares.{staircase}
use Rattle.staircase.specs.Mask.{rest_of, upper, row_mask, block_mask}
use Rattle.staircase.proofs.Groups.{group_place}
use Rattle.staircase.proofs.Rows.{row_table, rows_are, coefficient_key, coefficient-byte}
use Rattle.family.proofs.Mask.{seen}

-- the two sums of strings agree where the lengths do
sum-plus : (xs ys : List ℕ) → length xs ≡ length ys → sum xs ys ≡ plus xs ys
sum-plus xs ys e =
    ext_get_or 0 (sum xs ys) (plus xs ys) (length-sum xs ys ∙ sym (plus-length xs ys e))
    (λ i h. get_or-sum xs ys i (rw (length-sum xs ys) at h) ∙ sym (plus-at xs ys i))

-- ---- one row: its z keys, and the rest

row_value : (z x : ℕ) (keys rest : List ℕ) → length keys ≡ z → Each Byte rest → eval x (row_of keys rest) ≡ eval x keys ⊕ upper z rest x
unfolding row_of upper
row_value z x keys rest e h = rw e at (eval-append x keys rest (eval-byte x rest h))

module _ (z : ℕ) (xs : List ℕ) (bytes : Each Byte xs) (apart : Distinct xs) (few : length xs ≤ z) (rest₁ rest₂ : List ℕ) (h₁ : Each Byte rest₁) (h₂ : Each Byte rest₂) where
  row_mask-bytes : Bytes z (row_mask z xs rest₁ rest₂)
  unfolding row_mask
  row_mask-bytes = (interpolation.exists_length z xs _ few, interpolation.exists_byte z xs _)

  -- the mask's value at each point is the difference
  row_mask_value : Each (λ x. eval x (row_mask z xs rest₁ rest₂) ≡ upper z rest₁ x ⊕ upper z rest₂ x) xs
  unfolding row_mask upper
  row_mask_value =
      let f : ℕ → ℕ = λ x. upper z rest₁ x ⊕ upper z rest₂ x in
      let fb : Each Byte (map f xs) =
      each_mapped {A = ℕ} {B = ℕ} Byte f xs (each_imp {A = ℕ} Byte _ (λ x _. ⊕-byte (upper z rest₁ x) (upper z rest₂ x) (⊗-byte _ _) (⊗-byte _ _)) xs bytes) in
      map_each {A = ℕ} {B = ℕ} (λ x. eval x (fitted z xs (map f xs))) f xs (interpolation.exists z xs (map f xs) bytes apart (length-map xs f) fb)

  row_same : (keys : List ℕ) → length keys ≡ z → Each (λ x. eval x (row_of keys rest₁) ≡ eval x (row_of (sum keys (row_mask z xs rest₁ rest₂)) rest₂)) xs
  row_same keys e =
      each_imp {A = ℕ} (λ x. eval x (row_mask z xs rest₁ rest₂) ≡ upper z rest₁ x ⊕ upper z rest₂ x) _
      (λ x v.
      let δ : List ℕ = row_mask z xs rest₁ rest₂ in
      let u₁ : ℕ = upper z rest₁ x in
      let u₂ : ℕ = upper z rest₂ x in
      let changed : eval x (row_of (sum keys δ) rest₂) ≡ eval x keys ⊕ u₁ =
      row_value z x (sum keys δ) rest₂ (length-sum keys δ ∙ e) h₂
      ∙ ap (λ (w : ℕ). w ⊕ u₂) (ap (eval x) (sum-plus keys δ (e ∙ sym row_mask-bytes.0)) ∙ eval-plus x keys δ ∙ ap (λ (w : ℕ). eval x keys ⊕ w) v)
      ∙ ⊕_assoc (eval x keys) (u₁ ⊕ u₂) u₂
      ∙ ap (λ (w : ℕ). eval x keys ⊕ w) (⊕_assoc u₁ u₂ u₂ ∙ ap (λ (w : ℕ). u₁ ⊕ w) (⊕_self u₂) ∙ ⊕-zero u₁) in
      row_value z x keys rest₁ e h₁ ∙ sym changed)
      xs row_mask_value

-- ---- the rows of a block

rest-byte : (m z : ℕ) (ds block : List ℕ) (j : ℕ) → Each Byte block → Each Byte (rest_of m z ds block j)
unfolding rest_of
rest-byte m z ds block j h = each_tabulate {A = ℕ} Byte (count_of m z ds j - z) _ (λ e b. each_at {A = ℕ} Byte block (origin m z ds j (z + e)) 0 (zero-lt-suc 255) h)

row-split : (m z : ℕ) (ds block keys : List ℕ) (b j : ℕ) → length keys ≡ b * z → j < b → z ≤ count_of m z ds j
    → block_row m z ds block keys j ≡ row_of (piece z j keys) (rest_of m z ds block j)
unfolding block_row rest_of
row-split m z ds block keys b j e h low =
    let d : ℕ = count_of m z ds j in
    sym (row_table z d (piece z j keys) (rest_of m z ds block j) (coefficient m z ds block keys j) low
    (length-piece {A = ℕ} z j b keys (omega arith) h) (length-tabulate {A = ℕ} (d - z) _)
    (λ i l. get_or-piece {A = ℕ} z j keys i 0 l ∙ sym (coefficient_key m z ds block keys j i l))
    (λ i g l.
    let back : z + (i - z) ≡ i = omega arith in
    get_or-tabulate {A = ℕ} (d - z) _ (i - z) 0 (omega arith) ∙ rw back (sym (coefficient-byte m z ds block keys j i g))))

-- ---- a block, seen by some parties

module _ (p : Parameters) (A : AcceptedScheme p) (parties : List ℕ) (in-range : Each (Party p) parties) (apart : Distinct parties) (few : length parties ≤ p.z)
    (first second : List ℕ) (h₁ : Bytes (block p) first) (h₂ : Bytes (block p) second) where
  abbrev facts : Facts.SchemeFacts p.n p.r p.z p.counts (block p) (rows p)
  facts = accepted p.n p.r p.z p.counts A

  abbrev points : List ℕ
  points = map (point p) parties

  abbrev rest : List ℕ → ℕ → List ℕ
  rest bytes j = rest_of (block p) p.z p.counts bytes j

  abbrev mask_of : ℕ → List ℕ
  mask_of j = row_mask p.z points (rest first j) (rest second j)

  mask-bytes : (j : ℕ) → Bytes p.z (mask_of j)
  mask-bytes j =
      row_mask-bytes p.z points (points-bytes p A parties in-range) (points-distinct p A parties in-range apart) (rw (length-map parties (point p)) few) (rest first j) (rest second j)
      (rest-byte (block p) p.z p.counts first j h₁.1) (rest-byte (block p) p.z p.counts second j h₂.1)

  abbrev mask : List ℕ
  mask = block_mask p parties first second

  whole : Bytes (rows p * p.z) mask
  unfolding block_mask
  whole =
      (length-joined {A = ℕ} (rows p) p.z mask_of (λ j _. (mask-bytes j).0), each_joined {A = ℕ} Byte (rows p) mask_of (λ j _. (mask-bytes j).1))

  above-keys : (j : ℕ) → j < rows p → p.z ≤ count_of (block p) p.z p.counts j
  unfolding count_of
  above-keys j h =
      omega (arith, facts.sizes.room, facts.low (group_of (block p) p.z p.counts j) (group_place p.n p.r p.z p.counts (block p) (rows p) facts j h))

  abbrev row : List ℕ → List ℕ → ℕ → List ℕ
  row bytes keys j = block_row (block p) p.z p.counts bytes keys j

  -- row j, at the point of each of the parties
  at_row : (keys : List ℕ) → Bytes (rows p * p.z) keys → (j : ℕ) → j < rows p → (a : ℕ) → a < length parties
      → eval (point p (get_or parties a 0)) (row first keys j) ≡ eval (point p (get_or parties a 0)) (row second (sum keys mask) j)
  unfolding block_mask
  at_row keys K j h a l =
      let z : ℕ = p.z in
      let b : ℕ = rows p in
      let x : ℕ = point p (get_or parties a 0) in
      let lk : length (piece z j keys) ≡ z = length-piece {A = ℕ} z j b keys (omega (arith, K.0)) h in
      let e : piece z j (sum keys mask) ≡ sum (piece z j keys) (mask_of j) =
      piece-sum z j b keys mask K.0 whole.0 h ∙ ap (sum (piece z j keys)) (piece-joined {A = ℕ} b z mask_of (λ j _. (mask-bytes j).0) j h) in
      let same =
      row_same z points (points-bytes p A parties in-range) (points-distinct p A parties in-range apart) (rw (length-map parties (point p)) few) (rest first j) (rest second j)
      (rest-byte (block p) z p.counts first j h₁.1) (rest-byte (block p) z p.counts second j h₂.1) (piece z j keys) lk in
      let at_x : eval x (row_of (piece z j keys) (rest first j)) ≡ eval x (row_of (sum (piece z j keys) (mask_of j)) (rest second j)) =
      rw (get_or-map {A = ℕ} {B = ℕ} (point p) parties a 0 0 l) at
      (each_get_d {A = ℕ} (λ x. eval x (row_of (piece z j keys) (rest first j)) ≡ eval x (row_of (sum (piece z j keys) (mask_of j)) (rest second j))) points a 0 (rw (length-map parties (point p)) l) same) in
      ap (eval x) (row-split (block p) z p.counts first keys b j K.0 h (above-keys j h))
      ∙ at_x
      ∙ ap (λ (k : List ℕ). eval x (row_of k (rest second j))) (sym e)
      ∙ sym (ap (eval x) (row-split (block p) z p.counts second (sum keys mask) b j (length-sum keys mask ∙ K.0) h (above-keys j h)))

  -- what the parties have of the block is the same
  pub block-mask : Mask (staircase p).keys (seen (staircase p) parties first) (seen (staircase p) parties second)
  unfolding staircase
  block-mask =
      record {
        mask = mask;
        bytes = whole;
        same =
            λ keys K.
            each_map {A = ℕ} {B = List ℕ} _ _ parties
            (each_of {A = ℕ} _ parties 0
            (λ a l.
            let x : ℕ = point p (get_or parties a 0) in
            let are = rows_are p.n p.r p.z p.counts (block p) (rows p) facts in
            ap (map (eval x)) (are first keys h₁.0 K.0)
            ∙ map-tabulate {A = List ℕ} {B = ℕ} (eval x) (rows p) (row first keys)
            ∙ tabulate-same {A = ℕ} (rows p) _ _ (λ j h. at_row keys K j h a l)
            ∙ sym (map-tabulate {A = List ℕ} {B = ℕ} (eval x) (rows p) (row second (sum keys mask)))
            ∙ sym (ap (map (eval x)) (are second (sum keys mask) h₂.0 (length-sum keys mask ∙ K.0)))));
      }
