-- Laws of `tabulate`: its length, its entries, equality by entries.
-- Assumes nothing.
use mathlib.Core.Path.{◌≡◌, refl, sym, ap, ◌∙◌}
use mathlib.Core.List.{List, [], ◌∷◌, ◌++◌, map, map-append}
use mathlib.Core.Logic.{⊎_elim}
use Prim.Native.Nat.{ℕ, zero, suc, ◌<◌}
use native.Mathlib.Nat.{le_refl, le_step, eq-or-lt_of_le, le_of_suc-le-suc, not-suc-le-zero}
use native.Mathlib.Omega.{arith}
use lib.ListN.{length, get_or, length-append, get_or-append}
use lib.Seq.{ext_get_or, get_or_at}
use Rattle.lists.specs.Table.{tabulate}

module _ {ℓ} {A : Type ℓ} where
  pub length-tabulate : (n : ℕ) (f : ℕ → A) → length (tabulate n f) ≡ n
  unfolding tabulate
  length-tabulate zero f = refl
  length-tabulate (suc n) f = simp (length-append, length-tabulate n f) (omega arith)

  pub get_or-tabulate : (n : ℕ) (f : ℕ → A) (i : ℕ) (d : A) → i < n → get_or (tabulate n f) i d ≡ f i
  unfolding tabulate
  get_or-tabulate zero f i d h = absurd (not-suc-le-zero h)
  get_or-tabulate (suc n) f i d h =
      ⊎_elim (λ (e : i ≡ n). rw e (get_or_at (tabulate n f) (f n) [] d n (length-tabulate n f)))
      (λ (l : i < n). get_or-append (tabulate n f) (f n ∷ []) d i (rw (length-tabulate) l) ∙ get_or-tabulate n f i d l)
      (eq-or-lt_of_le (le_of_suc-le-suc h))

  -- two rules that agree below n make the same list
  pub tabulate-same : (n : ℕ) (f g : ℕ → A) → ((i : ℕ) → i < n → f i ≡ g i) → tabulate n f ≡ tabulate n g
  unfolding tabulate
  tabulate-same zero f g h = refl
  tabulate-same (suc n) f g h = rw (tabulate-same n f g (λ i l. h i (le_step l)), h n (le_refl (suc n)))

  -- a list with n entries, each by the rule, is the table
  pub tabulate_is : (l : List A) (n : ℕ) (f : ℕ → A) (d : A) → length l ≡ n → ((i : ℕ) → i < n → get_or l i d ≡ f i) → l ≡ tabulate n f
  tabulate_is l n f d e h =
      ext_get_or d l _ (e ∙ sym (length-tabulate n f)) (λ i b. h i (rw e at b) ∙ sym (get_or-tabulate n f i d (rw e at b)))

-- an entry of a table of rows
pub get_or-rows {ℓ} : {A : Type ℓ} (n m : ℕ) (f : ℕ → ℕ → A) (i e : ℕ) (d : A) → i < n → e < m
    → get_or (get_or (tabulate n (λ k. tabulate m (f k))) i []) e d ≡ f i e
get_or-rows n m f i e d h l = ap (λ r. get_or r e d) (get_or-tabulate n (λ k. tabulate m (f k)) i [] h) ∙ get_or-tabulate m (f i) e d l

pub map-tabulate {ℓ ℓ'} : {A : Type ℓ} {B : Type ℓ'} (f : A → B) (n : ℕ) (g : ℕ → A) → map f (tabulate n g) ≡ tabulate n (λ i. f (g i))
unfolding tabulate
map-tabulate f zero g = refl
map-tabulate f (suc n) g = map-append f (tabulate n g) (g n ∷ []) ∙ ap (λ r. r ++ (f (g n) ∷ [])) (map-tabulate f n g)
