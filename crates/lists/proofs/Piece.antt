-- Laws of pieces of one length, and of lists one after another.
-- Assumes nothing.
use mathlib.Core.Path.{◌≡◌, refl, sym, ap, ◌∙◌}
use mathlib.Core.List.{List, [], ◌∷◌}
use Prim.Native.Nat.{ℕ, zero, suc, ◌+◌, ◌-◌, ◌*◌, ◌/◌, ◌%◌, ◌≤◌, ◌<◌}
use native.Mathlib.Nat.{zero-mul, suc-mul, zero-add, add_comm, le_of_eq, le_of_suc-le-suc, not-suc-le-zero, div-add-mod'}
use native.Mathlib.Omega.{arith}
use lib.ListN.{length, get_or, take, drop, length-append, length-drop, get_or-append}
use lib.Seq.{drop-drop, take-take, get_or-take, get_or-drop, length-take-le, get_or-append-add, ext_get_or}
use Rattle.lists.specs.Each.{Each}
use Rattle.lists.specs.Table.{joined, piece, pieces, flat}
use Rattle.lists.proofs.Each.{each_take, each_drop}
use Rattle.lists.proofs.Parts.{drop-take}
use Rattle.lists.proofs.Joined.{row_room, in-grid, length-joined, get_or-joined}

module _ {ℓ} {A : Type ℓ} where
  pub length-piece : (w t n : ℕ) (l : List A) → n * w ≤ length l → t < n → length (piece w t l) ≡ w
  unfolding piece
  length-piece w t n l h b = length-take-le w (drop (t * w) l) (rw length-drop (omega (arith, row_room t n w b)))

  pub get_or-piece : (w t : ℕ) (l : List A) (i : ℕ) (d : A) → i < w → get_or (piece w t l) i d ≡ get_or l (t * w + i) d
  unfolding piece
  get_or-piece w t l i d h = rw (get_or-take w (drop (t * w) l) i d h, get_or-drop)

  pub each_piece : (P : A → Type 0) (w t : ℕ) (l : List A) → Each P l → Each P (piece w t l)
  unfolding piece
  each_piece P w t l h = each_take P w (drop (t * w) l) (each_drop P (t * w) l h)

  pub length-pieces : (n w : ℕ) (l : List A) → length (pieces n w l) ≡ n
  unfolding pieces
  length-pieces zero w l = refl
  length-pieces (suc n) w l = ap suc (length-pieces n w (drop w l))

  pub get_or-pieces : (n w : ℕ) (l : List A) (j : ℕ) → j < n → get_or (pieces n w l) j [] ≡ piece w j l
  unfolding pieces piece
  get_or-pieces zero w l j h = absurd (not-suc-le-zero h)
  get_or-pieces (suc n) w l zero h = rw zero-mul
  get_or-pieces (suc n) w l (suc j) h = get_or-pieces n w (drop w l) j (le_of_suc-le-suc h) ∙ rw (drop-drop, suc-mul, add_comm w (j * w))

  -- a list of n pieces, each by the rule, is the pieces joined
  pub joined_is : (l : List A) (n w : ℕ) (f : ℕ → List A) (d : A) → length l ≡ n * w
      → ((t : ℕ) → t < n → piece w t l ≡ f t) → l ≡ joined n f
  joined_is l n w f d e h =
      let long : (t : ℕ) → t < n → length (f t) ≡ w = λ t b. sym (ap length (h t b)) ∙ length-piece w t n l (le_of_eq (sym e)) b in
      ext_get_or d l (joined n f) (e ∙ sym (length-joined n w f long))
      (λ i b.
      let g = in-grid i n w (rw e at b) in
      let at : get_or l (i / w * w + i % w) d ≡ get_or (joined n f) (i / w * w + i % w) d
      = sym (get_or-piece w (i / w) l (i % w) d g.1)
      ∙ ap (λ (p : List A). get_or p (i % w) d) (h (i / w) g.0)
      ∙ sym (get_or-joined n w f long (i / w) (i % w) d g.0 g.1) in
      rw (div-add-mod' i w) at at)

  -- ---- lists one after another, each of w entries

  pub length-flat : (w : ℕ) (ls : List (List A)) → Each (λ l. length l ≡ w) ls → length (flat ls) ≡ length ls * w
  unfolding flat
  length-flat w [] h = sym (zero-mul w)
  length-flat w (l ∷ ls) h = rw (length-append, length-flat w ls h.1, h.0, suc-mul) (add_comm w (length ls * w))

  -- entry u of list i stands at i * w + u
  pub get_or-flat : (w : ℕ) (ls : List (List A)) → Each (λ l. length l ≡ w) ls
      → (i u : ℕ) (d : A) → i < length ls → u < w → get_or (flat ls) (i * w + u) d ≡ get_or (get_or ls i []) u d
  unfolding flat
  get_or-flat w [] h i u d b c = absurd (not-suc-le-zero b)
  get_or-flat w (l ∷ ls) h zero u d b c = rw (zero-mul, zero-add) (get_or-append l (flat ls) d u (omega (arith, h.0)))
  get_or-flat w (l ∷ ls) h (suc i) u d b c =
      let e : suc i * w + u ≡ length l + (i * w + u) = omega (arith, suc-mul i w, h.0) in
      rw (e, get_or-append-add) (get_or-flat w ls h.1 i u d (le_of_suc-le-suc b) c)

-- the first part of a list has its first pieces
pub piece-take : (w a n : ℕ) (l : List ℕ) → a < n → n * w ≤ length l → piece w a (take (n * w) l) ≡ piece w a l
unfolding piece
piece-take w a n l h room =
    let e : a * w + (n * w - a * w) ≡ n * w = omega (arith, row_room a n w h) in
    rw (← e) (ap (take w) (drop-take (a * w) (n * w - a * w) l) ∙ take-take w (n * w - a * w) (drop (a * w) l) (omega (arith, row_room a n w h)))

-- strings that are the same piece by piece are the same
pub by_pieces : (w N : ℕ) (k k' : List ℕ) → length k ≡ N * w → length k' ≡ N * w → ((t : ℕ) → t < N → piece w t k ≡ piece w t k') → k ≡ k'
by_pieces w N k k' n n' h = joined_is k N w (λ t. piece w t k') 0 n h ∙ sym (joined_is k' N w (λ t. piece w t k') 0 n' (λ t _. refl))
