-- Exclusive or, by binary digits: the laws that `lib.Bits` lacks, and the recursion `fold_digits` at one digit more.
-- Assumes nothing.
use mathlib.Core.Path.{◌≡◌, refl, sym, ap, ap₂, ◌∙◌}
use Prim.Native.Nat.{ℕ, zero, suc, ◌+◌, ◌*◌, ◌/◌, ◌%◌, ◌≤◌, ◌<◌}
use native.Mathlib.Nat.{not-suc-le-zero, le_of_suc-le-suc, le_refl, mod-lt, zero-lt-suc}
use native.Mathlib.Nat as N
use native.Mathlib.Decide.{le_ind}
use lib.Arith.{half_le, bin_ind}
use lib.Bits.{differ, xor_step, xor_shr, xor_mod, xor_block, xor_comm}
use Rattle.gf256.specs.Byte.{◌⊕◌, fold_digits}

pub below_two : (P : ℕ → Type 0) → P 0 → P 1 → (d : ℕ) → d < 2 → P d
below_two P p q zero h = p
below_two P p q (suc zero) h = q
below_two P p q (suc (suc d)) h = absurd (not-suc-le-zero (le_of_suc-le-suc (le_of_suc-le-suc h)))

pub odd_lt : (n : ℕ) → n % 2 < 2
odd_lt n = mod-lt n (zero-lt-suc 1)

pub half_⊕ : (a b : ℕ) → (a ⊕ b) / 2 ≡ a / 2 ⊕ b / 2
unfolding ◌⊕◌
half_⊕ a b = xor_shr a b 1

pub odd_⊕ : (a b : ℕ) → (a ⊕ b) % 2 ≡ a % 2 ⊕ b % 2
unfolding ◌⊕◌
odd_⊕ a b = xor_mod a b 1

digits_assoc : (d : ℕ) → d < 2 → (e : ℕ) → e < 2 → (f : ℕ) → f < 2 → differ (d ⊕ e) f ≡ differ d (e ⊕ f)
unfolding ◌⊕◌
digits_assoc =
    below_two (λ d. (e : ℕ) → e < 2 → (f : ℕ) → f < 2 → differ (d ⊕ e) f ≡ differ d (e ⊕ f))
    (below_two (λ e. (f : ℕ) → f < 2 → differ e f ≡ e ⊕ f) (below_two (λ f. f ≡ f) refl refl) (below_two (λ f. differ 1 f ≡ 1 ⊕ f) refl refl))
    (below_two (λ e. (f : ℕ) → f < 2 → differ (1 ⊕ e) f ≡ differ 1 (e ⊕ f)) (below_two (λ f. differ 1 f ≡ differ 1 f) refl refl)
    (below_two (λ f. differ 0 f ≡ differ 1 (1 ⊕ f)) refl refl))

pub ⊕_assoc : (a b c : ℕ) → (a ⊕ b) ⊕ c ≡ a ⊕ (b ⊕ c)
unfolding ◌⊕◌
⊕_assoc =
    bin_ind (λ a. (b c : ℕ) → (a ⊕ b) ⊕ c ≡ a ⊕ (b ⊕ c)) (λ b c. refl)
    (λ a ih b c. xor_step (a ⊕ b) c
    ∙ ap₂ (λ x y. (x ⊕ c / 2) * 2 + differ y (c % 2)) (half_⊕ a b) (odd_⊕ a b)
    ∙ ap₂ (λ x y. x * 2 + y) (ih (b / 2) (c / 2)) (digits_assoc (a % 2) (odd_lt a) (b % 2) (odd_lt b) (c % 2) (odd_lt c))
    ∙ sym (xor_step a (b ⊕ c) ∙ ap₂ (λ x y. (a / 2 ⊕ x) * 2 + differ (a % 2) y) (half_⊕ b c) (odd_⊕ b c)))

pub ⊕_left_comm : (a b c : ℕ) → a ⊕ (b ⊕ c) ≡ b ⊕ (a ⊕ c)
unfolding ◌⊕◌
⊕_left_comm a b c = sym (⊕_assoc a b c) ∙ ap (λ x. x ⊕ c) (xor_comm a b) ∙ ⊕_assoc b a c

pub interchange : (a b c d : ℕ) → (a ⊕ b) ⊕ (c ⊕ d) ≡ (a ⊕ c) ⊕ (b ⊕ d)
interchange a b c d = ⊕_assoc a b (c ⊕ d) ∙ ap (◌⊕◌ a) (⊕_left_comm b c d) ∙ sym (⊕_assoc a c (b ⊕ d))

-- digits beside one another
pub ⊕-beside : (a b d e : ℕ) → d < 2 → e < 2 → (a * 2 + d) ⊕ (b * 2 + e) ≡ (a ⊕ b) * 2 + (d ⊕ e)
unfolding ◌⊕◌
⊕-beside a b d e hd he = xor_block 1 a b d e hd he

pub ⊕_doubled : (a b : ℕ) → a * 2 ⊕ b * 2 ≡ (a ⊕ b) * 2
unfolding ◌⊕◌
⊕_doubled a b =
    ap₂ ◌⊕◌ (sym (N.add-zero (a * 2))) (sym (N.add-zero (b * 2))) ∙ ⊕-beside a b 0 0 (zero-lt-suc 1) (zero-lt-suc 1) ∙ N.add-zero ((a ⊕ b) * 2)

-- times a digit
pub times_digit : (a b d : ℕ) → d < 2 → (a ⊕ b) * d ≡ a * d ⊕ b * d
unfolding ◌⊕◌
times_digit a b =
    below_two (λ d. (a ⊕ b) * d ≡ a * d ⊕ b * d)
    (N.mul-zero (a ⊕ b) ∙ sym (ap₂ ◌⊕◌ (N.mul-zero a) (N.mul-zero b)))
    (N.mul-one (a ⊕ b) ∙ sym (ap₂ ◌⊕◌ (N.mul-one a) (N.mul-one b)))

-- the recursion through the digits, at one digit more
module _ (step : ℕ → ℕ → ℕ) (hz : step 0 0 ≡ 0) where
  more : (k n : ℕ) → n ≤ k → fold_digits step (suc k) n ≡ fold_digits step k n
  more zero zero h = refl
  more zero (suc n) h = absurd (not-suc-le-zero h)
  more (suc k) zero h = refl
  more (suc k) (suc n) h = ap (λ x. step x (suc n % 2)) (more k (suc n / 2) (half_le h))

  enough : (k n : ℕ) → n ≤ k → fold_digits step k n ≡ fold_digits step n n
  enough k n h = le_ind (λ m. fold_digits step m n ≡ fold_digits step n n) refl (λ m l e. more m n l ∙ e) k h

  pub fold_digits_step : (n : ℕ) → fold_digits step n n ≡ step (fold_digits step (n / 2) (n / 2)) (n % 2)
  fold_digits_step zero = sym hz
  fold_digits_step (suc n) = ap (λ x. step x (suc n % 2)) (enough n (suc n / 2) (half_le (le_refl (suc n))))
