-- Parts of a list: one that is lent and comes back, and what stands where in the list afterwards; the first entries as a table.
-- Assumes nothing.
use mathlib.Core.Path.{◌≡◌, sym, ap, ◌∙◌}
use mathlib.Core.List.{List, [], ◌∷◌, ◌++◌}
use mathlib.Core.Logic.{◌⊎◌, ⊎_elim}
use Prim.Native.Nat.{ℕ, zero, suc, ◌+◌, ◌-◌, ◌≤◌, ◌<◌}
use native.Mathlib.Nat.{zero-add, suc-add, add-sub_cancel_left, le_refl, min-le_left}
use native.Mathlib.Omega.{arith}
use lib.ListN.{length, get_or, take, drop, length-append, length-take, length-drop, get_or-append, get_or-eq_default}
use lib.Seq.{get_or-append-add, get_or-take, get_or-drop, length-take-le, take-nil}
use Rattle.lists.specs.Table.{tabulate}
use Rattle.lists.proofs.Table.{tabulate_is}

-- the list o after its m entries from place `at` on came back as y
abbrev pub back {ℓ} : {A : Type ℓ} → ℕ → ℕ → List A → List A → List A
back at m o y = take at o ++ (y ++ drop m (drop at o))

-- the part that is lent from place `at` up to at + m
pub part_length {ℓ} : {A : Type ℓ} (at m : ℕ) (o : List A) → at + m ≤ length o → length (take (at + m - at) (drop at o)) ≡ m
part_length at m o room = rw add-sub_cancel_left (length-take-le m (drop at o) (rw length-drop (omega arith)))

-- and the one up to the end
pub rest-length {ℓ} : {A : Type ℓ} (at : ℕ) (o : List A) → length (take (length o - at) (drop at o)) ≡ length o - at
rest-length at o = length-take-le (length o - at) (drop at o) (rw length-drop (le_refl _))

module _ {ℓ} {A : Type ℓ} (at m : ℕ) (o y : List A) (room : at + m ≤ length o) where
  front : length (take at o) ≡ at
  front = length-take-le at o (omega arith)

  pub mid_length : length y ≡ m → length (back at m o y) ≡ length o
  mid_length long = rw (length-append, length-append, front, long, length-drop, length-drop) (omega (arith, room))

  pub mid_before : (z : A) (i : ℕ) → i < at → get_or (back at m o y) i z ≡ get_or o i z
  mid_before z i h = get_or-append (take at o) (y ++ drop m (drop at o)) z i (rw front h) ∙ get_or-take at o i z h

  -- past the part's start
  past : (z : A) (k : ℕ) → get_or (back at m o y) (at + k) z ≡ get_or (y ++ drop m (drop at o)) k z
  past z k = ap (λ (x : ℕ). get_or (back at m o y) (x + k) z) (sym front) ∙ get_or-append-add (take at o) (y ++ drop m (drop at o)) k z

  pub mid_in : (z : A) (k : ℕ) → length y ≡ m → k < m → get_or (back at m o y) (at + k) z ≡ get_or y k z
  mid_in z k long h = past z k ∙ get_or-append y (drop m (drop at o)) z k (rw long h)

  pub mid_after : (z : A) (k : ℕ) → length y ≡ m → get_or (back at m o y) (at + (m + k)) z ≡ get_or o (at + (m + k)) z
  mid_after z k long =
      past z (m + k)
      ∙ ap (λ (x : ℕ). get_or (y ++ drop m (drop at o)) (x + k) z) (sym long)
      ∙ get_or-append-add y (drop m (drop at o)) k z
      ∙ get_or-drop m (drop at o) k z
      ∙ get_or-drop at o (m + k) z

  -- what is outside the part stays
  pub mid_outside : (z : A) (i : ℕ) → length y ≡ m → (i < at) ⊎ (at + m ≤ i) → get_or (back at m o y) i z ≡ get_or o i z
  mid_outside z i long =
      ⊎_elim (mid_before z i)
      (λ (h : at + m ≤ i).
      let e : at + (m + (i - (at + m))) ≡ i = omega arith in
      rw e at (mid_after z (i - (at + m)) long))

-- the first n entries of a list, as a table
pub take-tabulate {ℓ} : {A : Type ℓ} (n : ℕ) (l : List A) (d : A) → n ≤ length l → tabulate n (λ i. get_or l i d) ≡ take n l
take-tabulate n l d h = sym (tabulate_is (take n l) n (λ i. get_or l i d) d (length-take-le n l h) (λ i b. get_or-take n l i d b))

-- beyond the first n entries nothing stands
pub take_beyond {ℓ} : {A : Type ℓ} (n : ℕ) (l : List A) (i : ℕ) (d : A) → n ≤ i → get_or (take n l) i d ≡ d
take_beyond n l i d h = get_or-eq_default (take n l) d (rw length-take (omega (arith, min-le_left n (length l))))

-- a part of a list that is taken in two orders
module _ {ℓ} {A : Type ℓ} where
  pub drop-take : (n k : ℕ) (l : List A) → drop n (take (n + k) l) ≡ take k (drop n l)
  drop-take zero k l = rw zero-add
  drop-take (suc n) k [] = rw (suc-add, take-nil k)
  drop-take (suc n) k (x ∷ l) = rw suc-add (drop-take n k l)
