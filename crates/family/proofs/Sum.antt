-- Laws of the sum of two strings of bytes.
-- Assumes nothing.
use mathlib.Core.Path.{◌≡◌, sym, ap, ap₂, ◌∙◌}
use mathlib.Core.List.{List}
use Prim.Native.Nat.{ℕ, ◌+◌, ◌*◌, ◌≤◌, ◌<◌}
use native.Mathlib.Omega.{arith}
use lib.ListN.{length, get_or}
use lib.Seq.{ext_get_or}
use Rattle.lists.specs.Each.{Byte}
use Rattle.lists.specs.Table.{piece}
use Rattle.lists.proofs.Each.{each_get_d, each_of}
use Rattle.lists.proofs.Table.{length-tabulate, get_or-tabulate}
use Rattle.lists.proofs.Joined.{below_product}
use Rattle.lists.proofs.Piece.{length-piece, get_or-piece}
use Rattle.gf256.specs.Byte.{◌⊕◌}
use Rattle.gf256.proofs.Laws.{⊕_assoc, ⊕_self, ⊕-zero, ⊕-byte}
use Rattle.family.specs.Message.{Bytes}
use Rattle.family.specs.Secrecy.{sum}

pub length-sum : (xs ys : List ℕ) → length (sum xs ys) ≡ length xs
unfolding sum
length-sum xs ys = length-tabulate (length xs) (λ i. get_or xs i 0 ⊕ get_or ys i 0)

pub get_or-sum : (xs ys : List ℕ) (i : ℕ) → i < length xs → get_or (sum xs ys) i 0 ≡ get_or xs i 0 ⊕ get_or ys i 0
unfolding sum
get_or-sum xs ys i h = get_or-tabulate (length xs) (λ i. get_or xs i 0 ⊕ get_or ys i 0) i 0 h

pub sum-bytes : (n : ℕ) (xs ys : List ℕ) → Bytes n xs → Bytes n ys → Bytes n (sum xs ys)
sum-bytes n xs ys hx hy = (
  length-sum xs ys ∙ hx.0,
  each_of {A = ℕ} Byte (sum xs ys) 0
      (λ i h.
      let l : i < length xs = rw (length-sum xs ys) at h in
      let l' : i < length ys = rw (hx.0 ∙ sym hy.0) at l in
      rw (get_or-sum xs ys i l) (⊕-byte (get_or xs i 0) (get_or ys i 0) (each_get_d {A = ℕ} Byte xs i 0 l hx.1) (each_get_d {A = ℕ} Byte ys i 0 l' hy.1))),
)

-- what is added twice is gone
pub sum_twice : (xs ys : List ℕ) → sum (sum xs ys) ys ≡ xs
sum_twice xs ys =
    ext_get_or 0 (sum (sum xs ys) ys) xs (length-sum (sum xs ys) ys ∙ length-sum xs ys)
    (λ i h.
    let l : i < length (sum xs ys) = rw (length-sum (sum xs ys) ys) at h in
    let l' : i < length xs = rw (length-sum xs ys) at l in
    get_or-sum (sum xs ys) ys i l
    ∙ ap (λ (x : ℕ). x ⊕ get_or ys i 0) (get_or-sum xs ys i l')
    ∙ ⊕_assoc (get_or xs i 0) (get_or ys i 0) (get_or ys i 0)
    ∙ ap (λ (x : ℕ). get_or xs i 0 ⊕ x) (⊕_self (get_or ys i 0))
    ∙ ⊕-zero (get_or xs i 0))

-- a piece of a sum is the sum of the pieces
pub piece-sum : (w t n : ℕ) (xs ys : List ℕ) → length xs ≡ n * w → length ys ≡ n * w → t < n → piece w t (sum xs ys) ≡ sum (piece w t xs) (piece w t ys)
piece-sum w t n xs ys hx hy h =
    let room : n * w ≤ length (sum xs ys) = rw (length-sum xs ys) (omega arith) in
    let lx : length (piece w t xs) ≡ w = length-piece {A = ℕ} w t n xs (omega arith) h in
    let l : length (piece w t (sum xs ys)) ≡ w = length-piece {A = ℕ} w t n (sum xs ys) room h in
    ext_get_or 0 (piece w t (sum xs ys)) (sum (piece w t xs) (piece w t ys)) (l ∙ sym (length-sum (piece w t xs) (piece w t ys) ∙ lx))
    (λ i b.
    let k : i < w = rw l at b in
    get_or-piece {A = ℕ} w t (sum xs ys) i 0 k
    ∙ get_or-sum xs ys (t * w + i) (rw hx (below_product t n i w h k))
    ∙ ap₂ ◌⊕◌ (sym (get_or-piece {A = ℕ} w t xs i 0 k)) (sym (get_or-piece {A = ℕ} w t ys i 0 k))
    ∙ sym (get_or-sum (piece w t xs) (piece w t ys) i (rw lx k)))
