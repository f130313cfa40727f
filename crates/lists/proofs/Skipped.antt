-- Laws of lists without the entry, or the piece, at one place.
-- Assumes nothing.
use mathlib.Core.Path.{◌≡◌, refl, sym, ap, ap₂, ◌∙◌}
use mathlib.Core.Bool.{cond}
use mathlib.Core.Logic.{◌≢◌, ◌⊎◌, ⊎_elim}
use mathlib.Core.List.{List, [], ◌∷◌, ◌++◌, append-nil}
use Prim.Native.Nat.{ℕ, zero, suc, ◌+◌, ◌-◌, ◌*◌, ◌≤◌, ◌<◌}
use native.Mathlib.Nat.{le_of_eq, add-mul, one-mul, mul-le-mul_right, le_of_suc-le-suc, not-suc-le-zero}
use native.Mathlib.Numerals.{add-one}
use native.Mathlib.Omega.{arith}
use lib.Dec.{ltb}
use lib.ListN.{length, get_or, take, drop, length-append, length-take, length-drop, drop_of_length-le, get_or-append, get_or-eq_default}
use lib.Seq.{take_all, take-take, length-take-le, get_or-take, get_or-drop, get_or-append-add, ext_get_or, take-append-le, take-append-add}
use borrow.Author.Tests.{lt-ltb, le-ltb}
use Rattle.lists.specs.Each.{Each}
use Rattle.lists.specs.Table.{piece}
use Rattle.lists.specs.Without.{without, without_piece, skipped}
use Rattle.lists.proofs.Tests.{lt_or_le}
use Rattle.lists.proofs.Parts.{drop-take}
use Rattle.lists.proofs.Each.{each_append, each_take, each_drop}
use Rattle.lists.proofs.Joined.{row_room}
use Rattle.lists.proofs.Piece.{length-piece, get_or-piece}
use Rattle.lists.proofs.Without.{length_without}

-- ---- a list without the entry, or the piece, at place i

pub skipped-before : (i a : ℕ) → a < i → skipped i a ≡ a
unfolding skipped
skipped-before i a h = rw (lt-ltb a i h)

pub skipped-after : (i a : ℕ) → i ≤ a → skipped i a ≡ a + 1
unfolding skipped
skipped-after i a h = rw (le-ltb a i h)

pub skipped_other : (i a : ℕ) → skipped i a ≢ i
skipped_other i a e =
    ⊎_elim (λ (h : a < i). omega (arith, skipped-before i a h)) (λ (h : i ≤ a). omega (arith, skipped-after i a h)) (lt_or_le a i)

-- a place before it is passed to by no other
pub skipped-apart : (i j x : ℕ) → i < j → x ≢ i → skipped j x ≢ i
skipped-apart i j x less n e =
    ⊎_elim (λ (l : x < j). n (sym (skipped-before j x l) ∙ e)) (λ (l : j ≤ x). omega (arith, skipped-after j x l)) (lt_or_le x j)

pub skipped_below : (i a n : ℕ) → a + 1 < n → skipped i a < n
skipped_below i a n h =
    ⊎_elim (λ (l : a < i). omega (arith, skipped-before i a l)) (λ (l : i ≤ a). omega (arith, skipped-after i a l)) (lt_or_le a i)

-- every place but i is passed to
unfoldable pub unskipped : ℕ → ℕ → ℕ
unskipped i a = cond (ltb a i) a (a - 1)

past : (i a : ℕ) → i ≤ a → a ≢ i → i < a
past i a h n = ⊎_elim (λ (l : i < a). l) (λ (l : a ≤ i). absurd (n (omega arith))) (lt_or_le i a)

pub skipped-back : (i a : ℕ) → a ≢ i → skipped i (unskipped i a) ≡ a
unfolding unskipped
skipped-back i a n =
    ⊎_elim (λ (h : a < i). rw (lt-ltb a i h) (skipped-before i a h))
    (λ (h : i ≤ a).
    let more : i < a = past i a h n in
    rw (le-ltb a i h) (skipped-after i (a - 1) (omega arith) ∙ omega arith))
    (lt_or_le a i)

pub unskipped_below : (i a n : ℕ) → a ≢ i → i < n → a < n → unskipped i a + 1 < n
unfolding unskipped
unskipped_below i a n d hi h =
    ⊎_elim (λ (l : a < i). rw (lt-ltb a i l) (omega arith)) (λ (l : i ≤ a). rw (le-ltb a i l) (omega (arith, past i a l d))) (lt_or_le a i)

-- the first n without place i are among the first n, or n + 1
pub unskipped-first : (i a n m : ℕ) → ((i < n) × (m ≡ n + 1)) ⊎ ((n ≤ i) × (m ≡ n)) → a < m → a ≢ i → unskipped i a < n
unfolding unskipped
unskipped-first i a n m which h d =
    ⊎_elim (λ (l : a < i). rw (lt-ltb a i l) (⊎_elim (λ (w : (i < n) × (m ≡ n + 1)). omega arith) (λ (w : (n ≤ i) × (m ≡ n)). omega arith) which))
    (λ (l : i ≤ a).
    let more = past i a l d in
    rw (le-ltb a i l) (⊎_elim (λ (w : (i < n) × (m ≡ n + 1)). omega arith) (λ (w : (n ≤ i) × (m ≡ n)). omega arith) which))
    (lt_or_le a i)

skipped-suc : (i a : ℕ) → skipped (suc i) (suc a) ≡ suc (skipped i a)
skipped-suc i a =
    ⊎_elim (λ (h : a < i). skipped-before (suc i) (suc a) (omega arith) ∙ ap suc (sym (skipped-before i a h)))
    (λ (h : i ≤ a). skipped-after (suc i) (suc a) (omega arith) ∙ omega (arith, skipped-after i a h))
    (lt_or_le a i)

pub get_or-without : (l : List ℕ) (i a : ℕ) → get_or (without i l) a 0 ≡ get_or l (skipped i a) 0
unfolding without
get_or-without [] i a = refl
get_or-without (x ∷ l) zero a = rw (skipped-after 0 a (omega arith), add-one)
get_or-without (x ∷ l) (suc i) zero = rw (skipped-before (suc i) 0 (omega arith))
get_or-without (x ∷ l) (suc i) (suc a) = rw (skipped-suc i a) (get_or-without l i a)

-- without a piece past the end there are all
pub without_far : (w i : ℕ) (l : List ℕ) → length l ≤ i * w → without_piece w i l ≡ l
unfolding without_piece
without_far w i l h = rw (take_all (i * w) l h, drop_of_length-le l {i = i * w + w} (omega arith)) (append-nil l)

pub without_none : (w n : ℕ) (l : List ℕ) → length l ≡ n * w → without_piece w n l ≡ l
without_none w n l e = without_far w n l (le_of_eq e)

-- where the bytes of a piece stand
pub get_or-without_piece : (w i : ℕ) (l : List ℕ) (a k : ℕ) → k < w → get_or (without_piece w i l) (a * w + k) 0 ≡ get_or l (skipped i a * w + k) 0
unfolding without_piece
get_or-without_piece w i l a k b =
    ⊎_elim (λ (short : length l < i * w).
    ap (λ (x : List ℕ). get_or x (a * w + k) 0) (without_far w i l (omega arith))
    ∙ ⊎_elim (λ (c : a < i). rw (skipped-before i a c))
    (λ (c : i ≤ a).
    let far : length l ≤ a * w + k = omega (arith, mul-le-mul_right w c) in
    let further : length l ≤ (a + 1) * w + k = omega (arith, mul-le-mul_right w c, add-mul a 1 w) in
    rw (skipped-after i a c) (get_or-eq_default l 0 far ∙ sym (get_or-eq_default l 0 further)))
    (lt_or_le a i))
    (λ (long : i * w ≤ length l).
    let front : length (take (i * w) l) ≡ i * w = length-take-le (i * w) l long in
    ⊎_elim (λ (c : a < i).
    let inn : a * w + k < i * w = omega (arith, row_room a i w c) in
    rw (skipped-before i a c)
    (get_or-append (take (i * w) l) (drop (i * w + w) l) 0 (a * w + k) (rw front inn) ∙ get_or-take (i * w) l (a * w + k) 0 inn))
    (λ (c : i ≤ a).
    let e : i + (a - i) ≡ a = omega arith in
    let f : i * w + (a - i) * w ≡ a * w = sym (add-mul i (a - i) w) ∙ ap (λ (x : ℕ). x * w) e in
    let o : length (take (i * w) l) + ((a - i) * w + k) ≡ a * w + k = omega (arith, front) in
    let q : i * w + w + ((a - i) * w + k) ≡ (a + 1) * w + k = omega (arith, add-mul a 1 w, one-mul w) in
    rw (skipped-after i a c)
    (ap (λ (x : ℕ). get_or (take (i * w) l ++ drop (i * w + w) l) x 0) (sym o)
    ∙ get_or-append-add (take (i * w) l) (drop (i * w + w) l) ((a - i) * w + k) 0
    ∙ get_or-drop (i * w + w) l ((a - i) * w + k) 0
    ∙ ap (λ (x : ℕ). get_or l x 0) q))
    (lt_or_le a i))
    (lt_or_le (length l) (i * w))

-- where n pieces are left, each of them is in the list
pub without_room : (w i : ℕ) (l : List ℕ) (n a : ℕ) → length (without_piece w i l) ≡ n * w → a < n → skipped i a * w + w ≤ length l
unfolding without_piece
without_room w i l n a e h =
    let long = length-append (take (i * w) l) (drop (i * w + w) l) in
    let front = length-take (i * w) l in
    let rest = length-drop (i * w + w) l in
    let last = row_room a n w h in
    ⊎_elim (λ (c : a < i). rw (skipped-before i a c) (omega (arith, row_room a i w c)))
    (λ (c : i ≤ a). rw (skipped-after i a c) (omega (arith, mul-le-mul_right w c, add-mul a 1 w)))
    (lt_or_le a i)

module _ (w : ℕ) (l : List ℕ) (i n : ℕ) (long : length l ≡ n * w) (h : i < n) where
  front : length (take (i * w) l) ≡ i * w
  front = length-take-le (i * w) l (omega (arith, row_room i n w h))

  pub length-without_piece : length (without_piece w i l) + w ≡ length l
  unfolding without_piece
  length-without_piece =
      omega (arith, length-append (take (i * w) l) (drop (i * w + w) l), front, length-drop (i * w + w) l, row_room i n w h)

  pub piece-without : (a : ℕ) → a + 1 < n → piece w a (without_piece w i l) ≡ piece w (skipped i a) l
  piece-without a b =
      let m : ℕ = n - 1 in
      let room : m * w ≤ length (without_piece w i l) = omega (arith, row_room (n - 1) n w (omega arith), length-without_piece) in
      let l₁ : length (piece w a (without_piece w i l)) ≡ w = length-piece w a m (without_piece w i l) room (omega arith) in
      let l₂ : length (piece w (skipped i a) l) ≡ w = length-piece w (skipped i a) n l (le_of_eq (sym long)) (skipped_below i a n b) in
      ext_get_or 0 _ _ (l₁ ∙ sym l₂)
      (λ k c.
      let d : k < w = rw l₁ at c in
      get_or-piece w a (without_piece w i l) k 0 d ∙ get_or-without_piece w i l a k d ∙ sym (get_or-piece w (skipped i a) l k 0 d))

  pub each_without_piece : (P : ℕ → Type 0) → Each P l → Each P (without_piece w i l)
  unfolding without_piece
  each_without_piece P e =
      each_append P (take (i * w) l) (drop (i * w + w) l) (each_take P (i * w) l e) (each_drop P (i * w + w) l e)

-- ---- where the place left out may be past the end, which leaves nothing out

pub without_past : (l : List ℕ) (i : ℕ) → length l ≤ i → without i l ≡ l
unfolding without
without_past [] i h = refl
without_past (x ∷ l) zero h = absurd (not-suc-le-zero h)
without_past (x ∷ l) (suc i) h = ap (λ (m : List ℕ). x ∷ m) (without_past l i (le_of_suc-le-suc h))

pub left_inside : (l : List ℕ) (skip a : ℕ) → a < length (without skip l) → skipped skip a < length l
left_inside l skip a h =
    ⊎_elim (λ (b : skip < length l). skipped_below skip a (length l) (omega (arith, length_without l skip b)))
    (λ (b : length l ≤ skip).
    let m : a < length l = rw (without_past l skip b) at h in
    rw (skipped-before skip a (omega arith)) m)
    (lt_or_le skip (length l))

-- what is left of a list is as long, or one shorter
pub left_long : (l : List ℕ) (skip n : ℕ) → n ≤ length (without skip l) → (n ≤ length l) × (skip < n → n + 1 ≤ length l)
left_long l skip n h =
    ⊎_elim (λ (b : skip < length l). (omega (arith, length_without l skip b), λ _. omega (arith, length_without l skip b)))
    (λ (b : length l ≤ skip).
    let m : n ≤ length l = rw (without_past l skip b) at h in (m, λ x. absurd (omega arith)))
    (lt_or_le skip (length l))

-- the first n pieces of a list without piece i, from the beginning of the list that has them
pub take-without : (w i n m : ℕ) (l : List ℕ) → n * w ≤ length (without_piece w i l) → m * w ≤ length l → ((i < n) × (m ≡ n + 1)) ⊎ ((n ≤ i) × (m ≡ n))
    → without_piece w i (take (m * w) l) ≡ take (n * w) (without_piece w i l)
unfolding without_piece
take-without w i n m l room fits which =
    ⊎_elim (λ (h : (i < n) × (m ≡ n + 1)).
    let less = row_room i n w h.0 in
    let size : m * w ≡ n * w + w = ap (λ (x : ℕ). x * w) h.1 ∙ omega (arith, add-mul n 1 w) in
    let k : ℕ = n * w - i * w in
    let cut : i * w + w + (n * w - i * w) ≡ m * w = omega arith in
    let front : length (take (i * w) l) ≡ i * w = length-take-le (i * w) l (omega arith) in
    let whole : length (take (i * w) l) + (n * w - i * w) ≡ n * w = omega arith in
    ap₂ ◌++◌ (take-take (i * w) (m * w) l (omega arith)) (ap (λ (x : ℕ). drop (i * w + w) (take x l)) (sym cut) ∙ drop-take (i * w + w) (n * w - i * w) l)
    ∙ sym (ap (λ (x : ℕ). take x (take (i * w) l ++ drop (i * w + w) l)) (sym whole) ∙ take-append-add (take (i * w) l) (drop (i * w + w) l) (n * w - i * w)))
    (λ (h : (n ≤ i) × (m ≡ n)).
    let size : m * w ≡ n * w = ap (λ (x : ℕ). x * w) h.1 in
    let more : n * w ≤ i * w = mul-le-mul_right w h.0 in
    let short : length (take (m * w) l) ≤ i * w = omega (arith, length-take-le (m * w) l fits) in
    let inn : n * w ≤ length (take (i * w) l) = omega (arith, length-take (i * w) l) in
    without_far w i (take (m * w) l) short
    ∙ ap (λ (x : ℕ). take x l) size
    ∙ sym (take-append-le (n * w) (take (i * w) l) (drop (i * w + w) l) inn ∙ take-take (n * w) (i * w) l more))
    which
