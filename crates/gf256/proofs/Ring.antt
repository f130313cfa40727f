-- The laws of byte arithmetic. All but those that name a bound hold for all natural numbers.
-- Assumes nothing.
use mathlib.Core.Path.{◌≡◌, refl, sym, ap, ap₂, ◌∙◌, subst}
use Prim.Native.Nat.{ℕ, ◌+◌, ◌*◌, ◌/◌, ◌%◌, ◌<◌}
use native.Mathlib.Nat as N
use native.Mathlib.Omega.{arith}
use lib.Arith.{bin_ind}
use lib.Bits.{xor_shr, xor_comm, xor_self, xor_zero_r, xor_lt, xor_shifted}
use lib.Dec.{ltb, eqb, ltb→lt, eqb→eq, lit<}
use Rattle.gf256.specs.Byte.{◌⊕◌, modulus, product, cut, reduce, ◌⊗◌}
use Rattle.lists.proofs.Computed.{holds}
use Rattle.gf256.proofs.Digits.{⊕_assoc, below_two, odd_lt, half_⊕, odd_⊕, ⊕-beside, ⊕_doubled, times_digit, interchange, fold_digits_step}

-- ---- the sum

pub ⊕_comm : (a b : ℕ) → a ⊕ b ≡ b ⊕ a
unfolding ◌⊕◌
⊕_comm = xor_comm

pub zero-⊕ : (a : ℕ) → 0 ⊕ a ≡ a
unfolding ◌⊕◌
zero-⊕ a = refl

pub ⊕-zero : (a : ℕ) → a ⊕ 0 ≡ a
unfolding ◌⊕◌
⊕-zero = xor_zero_r

pub ⊕_self : (a : ℕ) → a ⊕ a ≡ 0
unfolding ◌⊕◌
⊕_self = xor_self

-- what is added twice is gone
pub ⊕-twice : (a b : ℕ) → a ⊕ (a ⊕ b) ≡ b
⊕-twice a b = sym (⊕_assoc a a b) ∙ ap (λ x. x ⊕ b) (⊕_self a) ∙ zero-⊕ b

-- what is added twice is not there
pub ⊕-back : (a b : ℕ) → (a ⊕ b) ⊕ b ≡ a
⊕-back a b = ⊕_assoc a b b ∙ ap (◌⊕◌ a) (⊕_self b) ∙ ⊕-zero a

-- two numbers whose sum is 0 are equal
pub ⊕_equal : (a b : ℕ) → a ⊕ b ≡ 0 → a ≡ b
⊕_equal a b e = sym (⊕-zero a) ∙ ap (◌⊕◌ a) (sym e) ∙ ⊕-twice a b

pub ⊕-byte : (a b : ℕ) → a < 256 → b < 256 → a ⊕ b < 256
unfolding ◌⊕◌
⊕-byte = xor_lt 8

-- ---- the product of polynomials

pub product_step : (a b : ℕ) → product a b ≡ product a (b / 2) * 2 ⊕ a * (b % 2)
unfolding product ◌⊕◌
product_step a b = fold_digits_step (λ r d. r * 2 ⊕ a * d) (N.mul-zero a) b

product-zero : (a : ℕ) → product a 0 ≡ 0
unfolding product
product-zero a = refl

pub product-⊕_left : (a b c : ℕ) → product (a ⊕ b) c ≡ product a c ⊕ product b c
unfolding ◌⊕◌
product-⊕_left a b =
    bin_ind (λ c. product (a ⊕ b) c ≡ product a c ⊕ product b c)
    (product-zero (a ⊕ b) ∙ sym (ap₂ ◌⊕◌ (product-zero a) (product-zero b)))
    (λ c ih. product_step (a ⊕ b) c
    ∙ ap₂ ◌⊕◌ (ap (λ x. x * 2) ih ∙ sym (⊕_doubled (product a (c / 2)) (product b (c / 2)))) (times_digit a b (c % 2) (odd_lt c))
    ∙ interchange (product a (c / 2) * 2) (product b (c / 2) * 2) (a * (c % 2)) (b * (c % 2))
    ∙ sym (ap₂ ◌⊕◌ (product_step a c) (product_step b c)))

pub product_double_left : (a b : ℕ) → product (a * 2) b ≡ product a b * 2
product_double_left a =
    bin_ind (λ b. product (a * 2) b ≡ product a b * 2) (product-zero (a * 2) ∙ ap (λ x. x * 2) (sym (product-zero a)))
    (λ b ih. product_step (a * 2) b
    ∙ ap₂ (λ x y. x * 2 ⊕ y) ih (N.mul_assoc a 2 (b % 2) ∙ ap (λ x. a * x) (N.mul_comm 2 (b % 2)) ∙ sym (N.mul_assoc a (b % 2) 2))
    ∙ ⊕_doubled (product a (b / 2) * 2) (a * (b % 2))
    ∙ ap (λ x. x * 2) (sym (product_step a b)))

product_zero_left : (b : ℕ) → product 0 b ≡ 0
unfolding ◌⊕◌
product_zero_left =
    bin_ind (λ b. product 0 b ≡ 0) (product-zero 0)
    (λ b ih. product_step 0 b ∙ ap₂ (λ x y. x * 2 ⊕ y) ih (N.zero-mul (b % 2)))

pub split : (b : ℕ) → b / 2 * 2 ⊕ b % 2 ≡ b
unfolding ◌⊕◌
split b = xor_shifted (b / 2) 1 (b % 2) (odd_lt b) ∙ N.div-add-mod' b 2

pub product_one_left : (b : ℕ) → product 1 b ≡ b
product_one_left =
    bin_ind (λ b. product 1 b ≡ b) (product-zero 1)
    (λ b ih. product_step 1 b ∙ ap₂ (λ x y. x * 2 ⊕ y) ih (N.one-mul (b % 2)) ∙ split b)

product_digit_left : (b d : ℕ) → d < 2 → product d b ≡ b * d
product_digit_left b =
    below_two (λ d. product d b ≡ b * d) (product_zero_left b ∙ sym (N.mul-zero b)) (product_one_left b ∙ sym (N.mul-one b))

pub product_comm : (a b : ℕ) → product a b ≡ product b a
product_comm =
    bin_ind (λ a. (b : ℕ) → product a b ≡ product b a) (λ b. product_zero_left b ∙ sym (product-zero b))
    (λ a ih b. ap (λ x. product x b) (sym (split a))
    ∙ product-⊕_left (a / 2 * 2) (a % 2) b
    ∙ ap₂ ◌⊕◌ (product_double_left (a / 2) b ∙ ap (λ x. x * 2) (ih b)) (product_digit_left b (a % 2) (odd_lt a))
    ∙ sym (product_step b a))

pub product-⊕ : (a b c : ℕ) → product a (b ⊕ c) ≡ product a b ⊕ product a c
product-⊕ a b c = product_comm a (b ⊕ c) ∙ product-⊕_left b c a ∙ ap₂ ◌⊕◌ (product_comm b a) (product_comm c a)

product-double : (a b : ℕ) → product a (b * 2) ≡ product a b * 2
product-double a b = product_comm a (b * 2) ∙ product_double_left b a ∙ ap (λ x. x * 2) (product_comm b a)

product_digit : (a b d : ℕ) → d < 2 → product a (b * d) ≡ product a b * d
product_digit a b =
    below_two (λ d. product a (b * d) ≡ product a b * d)
    (ap (product a) (N.mul-zero b) ∙ product-zero a ∙ sym (N.mul-zero (product a b)))
    (ap (product a) (N.mul-one b) ∙ sym (N.mul-one (product a b)))

pub product_assoc : (a b c : ℕ) → product (product a b) c ≡ product a (product b c)
product_assoc a b =
    bin_ind (λ c. product (product a b) c ≡ product a (product b c))
    (product-zero (product a b) ∙ sym (ap (product a) (product-zero b) ∙ product-zero a))
    (λ c ih. product_step (product a b) c
    ∙ ap₂ ◌⊕◌ (ap (λ x. x * 2) ih ∙ sym (product-double a (product b (c / 2)))) (sym (product_digit a b (c % 2) (odd_lt c)))
    ∙ sym (product-⊕ a (product b (c / 2) * 2) (b * (c % 2)))
    ∙ ap (product a) (sym (product_step b c)))

-- ---- the remainder

pub reduce_step : (p : ℕ) → reduce p ≡ cut (reduce (p / 2) * 2 + p % 2)
unfolding reduce ◌⊕◌ cut
reduce_step p = fold_digits_step (λ r d. cut (r * 2 + d)) refl p

reduce-zero : reduce 0 ≡ 0
unfolding reduce
reduce-zero = refl

cut_lt : (n : ℕ) → n < 512 → cut n < 256
unfolding ◌⊕◌ cut
cut_lt n h = ltb→lt (cut n) 256 (holds 512 (λ n. ltb (cut n) 256) tt n h)

next_lt : (r d : ℕ) → r < 256 → d < 2 → r * 2 + d < 512
next_lt r d hr hd = omega arith

pub reduce_below : (p : ℕ) → reduce p < 256
reduce_below =
    bin_ind (λ p. reduce p < 256) (subst (λ x. x < 256) (sym reduce-zero) (lit< tt))
    (λ p ih. subst (λ x. x < 256) (sym (reduce_step p)) (cut_lt (reduce (p / 2) * 2 + p % 2) (next_lt (reduce (p / 2)) (p % 2) ih (odd_lt p))))

-- a byte is its own remainder
pub reduce-byte : (a : ℕ) → a < 256 → reduce a ≡ a
unfolding reduce ◌⊕◌ cut
reduce-byte a h = eqb→eq (reduce a) a (holds 256 (λ a. eqb (reduce a) a) tt a h)

digits_times : (d : ℕ) → d < 2 → (e : ℕ) → e < 2 → (d ⊕ e) * modulus ≡ d * modulus ⊕ e * modulus
unfolding ◌⊕◌
digits_times =
    below_two (λ d. (e : ℕ) → e < 2 → (d ⊕ e) * modulus ≡ d * modulus ⊕ e * modulus)
    (below_two (λ e. e * modulus ≡ e * modulus) refl refl) (below_two (λ e. (1 ⊕ e) * modulus ≡ modulus ⊕ e * modulus) refl refl)

cut-⊕ : (m n : ℕ) → m < 512 → n < 512 → cut (m ⊕ n) ≡ cut m ⊕ cut n
unfolding ◌⊕◌ cut
cut-⊕ m n hm hn =
    ap (◌⊕◌ (m ⊕ n)) (ap (λ x. x * modulus) (xor_shr m n 8) ∙ digits_times (m / 256) (omega arith) (n / 256) (omega arith))
    ∙ interchange m n (m / 256 * modulus) (n / 256 * modulus)

pub reduce-⊕ : (p q : ℕ) → reduce (p ⊕ q) ≡ reduce p ⊕ reduce q
unfolding ◌⊕◌
reduce-⊕ =
    bin_ind (λ p. (q : ℕ) → reduce (p ⊕ q) ≡ reduce p ⊕ reduce q) (λ q. ap (λ x. x ⊕ reduce q) (sym reduce-zero))
    (λ p ih q. reduce_step (p ⊕ q)
    ∙ ap₂ (λ x y. cut (x * 2 + y)) (ap reduce (half_⊕ p q) ∙ ih (q / 2)) (odd_⊕ p q)
    ∙ ap cut (sym (⊕-beside (reduce (p / 2)) (reduce (q / 2)) (p % 2) (q % 2) (odd_lt p) (odd_lt q)))
    ∙ cut-⊕ (reduce (p / 2) * 2 + p % 2) (reduce (q / 2) * 2 + q % 2)
    (next_lt (reduce (p / 2)) (p % 2) (reduce_below (p / 2)) (odd_lt p)) (next_lt (reduce (q / 2)) (q % 2) (reduce_below (q / 2)) (odd_lt q))
    ∙ sym (ap₂ ◌⊕◌ (reduce_step p) (reduce_step q)))

reduce-double : (p : ℕ) → reduce (p * 2) ≡ cut (reduce p * 2)
reduce-double p =
    reduce_step (p * 2)
    ∙ ap cut (ap₂ (λ x y. reduce x * 2 + y) (N.mul-div_cancel p (N.zero-lt-suc 1)) (N.mul-mod_left p 2) ∙ N.add-zero (reduce p * 2))

reduce_digit : (p d : ℕ) → d < 2 → reduce (reduce p * d) ≡ reduce (p * d)
reduce_digit p =
    below_two (λ d. reduce (reduce p * d) ≡ reduce (p * d)) (ap reduce (N.mul-zero (reduce p) ∙ sym (N.mul-zero p)))
    (ap reduce (N.mul-one (reduce p)) ∙ reduce-byte (reduce p) (reduce_below p) ∙ ap reduce (sym (N.mul-one p)))

-- a product's remainder is that of the remainder's product
pub reduce-product : (p c : ℕ) → reduce (product (reduce p) c) ≡ reduce (product p c)
reduce-product p =
    bin_ind (λ c. reduce (product (reduce p) c) ≡ reduce (product p c)) (ap reduce (product-zero (reduce p) ∙ sym (product-zero p)))
    (λ c ih. parts (reduce p) c ∙ ap₂ (λ x y. cut (x * 2) ⊕ y) ih (reduce_digit p (c % 2) (odd_lt c)) ∙ sym (parts p c))
  where
    parts : (a b : ℕ) → reduce (product a b) ≡ cut (reduce (product a (b / 2)) * 2) ⊕ reduce (a * (b % 2))
    parts a b =
        ap reduce (product_step a b) ∙ reduce-⊕ (product a (b / 2) * 2) (a * (b % 2))
        ∙ ap (λ x. x ⊕ reduce (a * (b % 2))) (reduce-double (product a (b / 2)))

-- ---- the product of bytes

pub ⊗-byte : (a b : ℕ) → a ⊗ b < 256
unfolding ◌⊗◌
⊗-byte a b = reduce_below (product a b)

pub ⊗_comm : (a b : ℕ) → a ⊗ b ≡ b ⊗ a
unfolding ◌⊗◌
⊗_comm a b = ap reduce (product_comm a b)

pub ⊗_assoc : (a b c : ℕ) → (a ⊗ b) ⊗ c ≡ a ⊗ (b ⊗ c)
unfolding ◌⊗◌
⊗_assoc a b c =
    reduce-product (product a b) c
    ∙ ap reduce (product_assoc a b c ∙ product_comm a (product b c))
    ∙ sym (reduce-product (product b c) a)
    ∙ ap reduce (product_comm (reduce (product b c)) a)

pub ⊗_left_comm : (a b c : ℕ) → a ⊗ (b ⊗ c) ≡ b ⊗ (a ⊗ c)
⊗_left_comm a b c = sym (⊗_assoc a b c) ∙ ap (λ x. x ⊗ c) (⊗_comm a b) ∙ ⊗_assoc b a c

pub ⊗-⊕ : (a b c : ℕ) → a ⊗ (b ⊕ c) ≡ (a ⊗ b) ⊕ (a ⊗ c)
unfolding ◌⊗◌
⊗-⊕ a b c = ap reduce (product-⊕ a b c) ∙ reduce-⊕ (product a b) (product a c)

pub ⊕-⊗ : (a b c : ℕ) → (a ⊕ b) ⊗ c ≡ (a ⊗ c) ⊕ (b ⊗ c)
unfolding ◌⊗◌
⊕-⊗ a b c = ap reduce (product-⊕_left a b c) ∙ reduce-⊕ (product a c) (product b c)

pub ⊗-zero : (a : ℕ) → a ⊗ 0 ≡ 0
unfolding ◌⊗◌
⊗-zero a = ap reduce (product-zero a) ∙ reduce-zero

pub zero-⊗ : (a : ℕ) → 0 ⊗ a ≡ 0
zero-⊗ a = ⊗_comm 0 a ∙ ⊗-zero a

pub one_⊗ : (a : ℕ) → a < 256 → 1 ⊗ a ≡ a
unfolding ◌⊗◌
one_⊗ a h = ap reduce (product_one_left a) ∙ reduce-byte a h

pub ⊗_one : (a : ℕ) → a < 256 → a ⊗ 1 ≡ a
⊗_one a h = ⊗_comm a 1 ∙ one_⊗ a h

-- the product by shifting: one digit of the second factor, and the first factor times 2 for the others
product-two : (a : ℕ) → product a 2 ≡ a * 2
product-two a = product-double a 1 ∙ ap (λ x. x * 2) (product_comm a 1 ∙ product_one_left a)

pub ⊗_by_digit : (a b : ℕ) → a < 256 → a ⊗ b ≡ a * (b % 2) ⊕ ((a ⊗ 2) ⊗ (b / 2))
unfolding ◌⊗◌
⊗_by_digit a b h =
    ap reduce (product_step a b)
    ∙ reduce-⊕ (product a (b / 2) * 2) (a * (b % 2))
    ∙ ⊕_comm (reduce (product a (b / 2) * 2)) (reduce (a * (b % 2)))
    ∙ ap₂ ◌⊕◌ (digit (b % 2) (odd_lt b))
    (ap reduce (sym (product_double_left a (b / 2)) ∙ ap (λ x. product x (b / 2)) (sym (product-two a))) ∙ sym (reduce-product (product a 2) (b / 2)))
  where
    digit : (d : ℕ) → d < 2 → reduce (a * d) ≡ a * d
    digit =
        below_two (λ d. reduce (a * d) ≡ a * d) (ap reduce (N.mul-zero a) ∙ reduce-zero ∙ sym (N.mul-zero a))
        (ap reduce (N.mul-one a) ∙ reduce-byte a h ∙ sym (N.mul-one a))
