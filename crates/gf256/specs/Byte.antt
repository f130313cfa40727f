-- Byte arithmetic, FIPS 197 section 4. A number stands for a polynomial over {0, 1}: its binary digit of place i is the coefficient of x^i.
-- All definitions are total on the natural numbers; a byte is a number below 256.
-- Assumes nothing.
use Rattle.std.specs.Prelude.{cond, ℕ, zero, suc, ◌+◌, ◌*◌, ◌/◌, ◌%◌, eqb, Option, Some, None}
use Rattle.std.specs.Int.Bits.{bit_xor}

infixl 65 ◌⊕◌
infixl 70 ◌⊗◌
infixl 70 ◌⊘◌
-- 4.1: the sum, and the difference, is exclusive or
unfoldable pub ◌⊕◌ : ℕ → ℕ → ℕ
a ⊕ b = bit_xor a b

-- 4.2: the polynomial by which products are reduced, x^8 + x^4 + x^3 + x + 1
abbrev pub modulus : ℕ
modulus = 0x11b

-- through the binary digits of n, the highest first: `step` takes what is made so far, from 0, and the next digit. k bounds the number of digits
abbrev pub fold_digits : (ℕ → ℕ → ℕ) → ℕ → ℕ → ℕ
fold_digits step zero n = 0
fold_digits step (suc k) zero = 0
fold_digits step (suc k) (suc n) = step (fold_digits step k (suc n / 2)) (suc n % 2)

-- the product of two polynomials: for each digit of b, what is made so far times x, and a besides where the digit is 1
unfoldable pub product : ℕ → ℕ → ℕ
product a b = fold_digits (λ made digit. made * 2 ⊕ a * digit) b b

-- a number below 512, less the modulus where it is 256 or more
unfoldable pub cut : ℕ → ℕ
cut n = n ⊕ n / 256 * modulus

-- the remainder by the modulus, by long division
unfoldable pub reduce : ℕ → ℕ
reduce p = fold_digits (λ made digit. cut (made * 2 + digit)) p p

-- 4.2: the product of two bytes
unfoldable pub ◌⊗◌ : ℕ → ℕ → ℕ
a ⊗ b = reduce (product a b)

unfoldable pub power : ℕ → ℕ → ℕ
power a zero = 1
power a (suc n) = a ⊗ power a n

-- the largest number below n whose product with a is 1, or that there is none
unfoldable pub inverse_below : ℕ → ℕ → Option ℕ
inverse_below zero a = None
inverse_below (suc n) a =
    let rest : Option ℕ = inverse_below n a in
    cond (eqb (a ⊗ n) 1) (Some n) rest

-- the inverse of a byte, found by trial; 0 has none
unfoldable pub inverse : ℕ → Option ℕ
inverse a = inverse_below 256 a

-- the product of n squares, of b², b⁴, b⁸ and so on
unfoldable pub squares_product : ℕ → ℕ → ℕ
squares_product zero b = 1
squares_product (suc n) b =
    let square : ℕ = b ⊗ b in
    square ⊗ squares_product n square

-- the quotient of two bytes: a times b to the power 254, which is 2 + 4 + .. + 128. To the power 255 every byte but 0 is 1, so this times b is a.
-- Its laws, `⊘-⊗` and `⊘_only` of Field.antt, ask for a divisor b that is not 0; no statement says what a division by 0 gives
unfoldable pub ◌⊘◌ : ℕ → ℕ → ℕ
a ⊘ b = a ⊗ squares_product 7 b
