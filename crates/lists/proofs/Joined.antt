-- Laws of `joined` and of places in a rectangle: entry k of part i, of parts of m entries, stands at i * m + k.
-- Assumes nothing.
use mathlib.Core.Path.{◌≡◌, refl, sym, ap, ◌∙◌}
use mathlib.Core.List.{List}
use mathlib.Core.Logic.{⊎_elim}
use Prim.Native.Nat.{ℕ, zero, suc, ◌+◌, ◌-◌, ◌*◌, ◌/◌, ◌%◌, ◌≤◌, ◌<◌}
use native.Mathlib.Nat.{add-mul, one-mul, mul_assoc, zero-mul, suc-mul, mul-zero, le_refl, le_step, le_of_eq, eq-or-lt_of_le, le_of_suc-le-suc, not-suc-le-zero, mul-le-mul_right, eq-zero-or-pos}
use native.Mathlib.Nat.{div-lt_iff_lt-mul, mod-lt, div-add-mod'}
use native.Mathlib.Omega.{arith}
use lib.Arith.{digits_lt, digits_div, digits_mod}
use lib.ListN.{length, get_or, drop, length-append, length-drop, get_or-append}
use lib.Seq.{get_or-append-add, drop_at, take_all, drop-append-le, take-append-le}
use Rattle.lists.specs.Table.{tabulate, joined, piece}
use Rattle.lists.proofs.Table.{tabulate_is, length-tabulate, get_or-tabulate}

-- ---- places in a rectangle of n rows of m

pub row_room : (i n m : ℕ) → i < n → i * m + m ≤ n * m
row_room i n m h = rw suc-mul at (mul-le-mul_right m h)

-- all rows but the last, and the last
pub last_row : (n m : ℕ) → 0 < n → n * m ≡ (n - 1) * m + m
last_row n m some =
    let e : n ≡ n - 1 + 1 = omega arith in
    ap (λ (x : ℕ). x * m) e ∙ omega (arith, add-mul (n - 1) 1 m, one-mul m)

pub below_product : (i n k m : ℕ) → i < n → k < m → i * m + k < n * m
below_product i n k m a b = digits_lt a b

pub factor_pos : (k n m : ℕ) → k < n * m → 0 < m
factor_pos k n m h = ⊎_elim (λ (e : m ≡ 0). absurd (not-suc-le-zero (rw (e, mul-zero) at h))) (λ (p : 0 < m). p) (eq-zero-or-pos m)

-- index i of n rows of m: its row, and its place in the row
pub in-grid : (i n m : ℕ) → i < n * m → (i / m < n) × (i % m < m)
in-grid i n m h = let pos : 0 < m = factor_pos i n m h in ((div-lt_iff_lt-mul pos).1 h, mod-lt i pos)

pub row_of : (i k m : ℕ) → k < m → (i * m + k) / m ≡ i
row_of i k m h = digits_div i h

pub place_of : (i k m : ℕ) → k < m → (i * m + k) % m ≡ k
place_of i k m h = digits_mod i h

-- a place has one row and one place in the row
pub same_place : (i k i' k' m : ℕ) → k < m → k' < m → i * m + k ≡ i' * m + k' → (i ≡ i') × (k ≡ k')
same_place i k i' k' m h h' e =
    (cc (row_of i k m h, row_of i' k' m h'), cc (place_of i k m h, place_of i' k' m h'))

-- the same place in the row, k rows on
pub place_on : (i k e m : ℕ) → i * m + e + k * m ≡ (i + k) * m + e
place_on i k e m = omega (arith, add-mul i k m)

-- a place in row i of part t, of parts of n rows
pub place_in : (t n i k m : ℕ) → t * (n * m) + (i * m + k) ≡ (t * n + i) * m + k
place_in t n i k m = omega (arith, add-mul (t * n) i m, mul_assoc t n m)

-- ---- lists one after another, each of m entries

module _ {ℓ} {A : Type ℓ} where
  pub length-joined : (n m : ℕ) (f : ℕ → List A) → ((i : ℕ) → i < n → length (f i) ≡ m) → length (joined n f) ≡ n * m
  unfolding joined
  length-joined zero m f h = sym (zero-mul m)
  length-joined (suc n) m f h =
      rw (length-append, length-joined n m f (λ i l. h i (le_step l)), h n (le_refl (suc n)), suc-mul)

  pub joined_same : (n : ℕ) (f g : ℕ → List A) → ((i : ℕ) → i < n → f i ≡ g i) → joined n f ≡ joined n g
  unfolding joined
  joined_same zero f g h = refl
  joined_same (suc n) f g h = rw (joined_same n f g (λ i l. h i (le_step l)), h n (le_refl (suc n)))

  -- entry k of the i-th part
  pub get_or-joined : (n m : ℕ) (f : ℕ → List A) → ((i : ℕ) → i < n → length (f i) ≡ m)
      → (i k : ℕ) (d : A) → i < n → k < m → get_or (joined n f) (i * m + k) d ≡ get_or (f i) k d
  unfolding joined
  get_or-joined zero m f h i k d a b = absurd (not-suc-le-zero a)
  get_or-joined (suc n) m f h i k d a b =
      let len : length (joined n f) ≡ n * m = length-joined n m f (λ i l. h i (le_step l)) in
      ⊎_elim (λ (e : i ≡ n). rw (e, ← len, get_or-append-add))
      (λ (l : i < n).
      get_or-append (joined n f) (f n) d (i * m + k) (rw len (below_product i n k m l b))
      ∙ get_or-joined n m f (λ i l. h i (le_step l)) i k d l b)
      (eq-or-lt_of_le (le_of_suc-le-suc a))

  -- the i-th part
  pub piece-joined : (n m : ℕ) (f : ℕ → List A) → ((i : ℕ) → i < n → length (f i) ≡ m) → (i : ℕ) → i < n → piece m i (joined n f) ≡ f i
  unfolding joined piece
  piece-joined zero m f h i a = absurd (not-suc-le-zero a)
  piece-joined (suc n) m f h i a =
      let len : length (joined n f) ≡ n * m = length-joined n m f (λ i l. h i (le_step l)) in
      ⊎_elim (λ (e : i ≡ n). rw (e, drop_at (joined n f) (f n) (n * m) len, take_all m (f n) (le_of_eq (h n (le_refl (suc n))))))
      (λ (l : i < n).
      let room : i * m + m ≤ n * m = row_room i n m l in
      rw (
        drop-append-le (i * m) (joined n f) (f n) (rw len (omega arith)),
        take-append-le m (drop (i * m) (joined n f)) (f n) (rw (length-drop, len) (omega arith)),
      )
      (piece-joined n m f (λ i l. h i (le_step l)) i l))
      (eq-or-lt_of_le (le_of_suc-le-suc a))

-- parts of m entries each by the rule g are one table
pub joined-tabulate {ℓ} : {A : Type ℓ} (n m : ℕ) (g : ℕ → ℕ → A) (d : A)
    → joined n (λ i. tabulate m (g i)) ≡ tabulate (n * m) (λ k. g (k / m) (k % m))
joined-tabulate n m g d =
    tabulate_is (joined n (λ i. tabulate m (g i))) (n * m) (λ k. g (k / m) (k % m)) d
    (length-joined n m (λ i. tabulate m (g i)) (λ i _. length-tabulate m (g i)))
    (λ k h.
    let i = in-grid k n m h in
    let e : k / m * m + k % m ≡ k = div-add-mod' k m in
    ap (λ (x : ℕ). get_or (joined n (λ i. tabulate m (g i))) x d) (sym e)
    ∙ get_or-joined n m (λ i. tabulate m (g i)) (λ i _. length-tabulate m (g i)) (k / m) (k % m) d i.0 i.1
    ∙ get_or-tabulate m (g (k / m)) (k % m) d i.1)
