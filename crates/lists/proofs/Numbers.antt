-- Laws of numbers: one number as a product in two ways, a rule that falls or rises at each step, and division rounded up.
-- Assumes nothing.
use mathlib.Core.Path.{◌≡◌, sym, ap, ◌∙◌}
use Prim.Native.Nat.{ℕ, zero, suc, ◌+◌, ◌-◌, ◌*◌, ◌/◌, ◌%◌, ◌≤◌, ◌<◌}
use native.Mathlib.Nat.{zero-mul, mul_comm, mul-one, mul-sub, mul-le-mul_left, mul-lt-mul_of_pos_left, lt_of_mul-lt-mul_right, div-add-mod', mod-lt, mul-add-div_right, div-eq_of_lt, add-div_left, suc-mul, div-lt_iff_lt-mul, le_refl, le_trans, le_of_lt}
use native.Mathlib.Omega.{arith}

-- the smaller the one factor, the greater the other
pub other_factor : (m p q a b : ℕ) → 0 < m → p * a ≡ m → q * b ≡ m → b < a → p < q
other_factor m zero q a b h e f l = omega (arith, zero-mul a)
other_factor m (suc p) q a b h e f l =
    let less : suc p * b < suc p * a = mul-lt-mul_of_pos_left l (omega arith) in
    let same : suc p * a ≡ q * b = e ∙ sym f in
    lt_of_mul-lt-mul_right b (rw same at less)

-- a factor of a positive number is positive
pub positive_factor : (p a m : ℕ) → 0 < m → p * a ≡ m → 0 < p
positive_factor zero a m h e = omega (arith, zero-mul a)
positive_factor (suc p) a m h e = omega arith

-- what p and q differ by, times b, is p times what a and b differ by
pub factors_differ : (p q a b : ℕ) → p * a ≡ q * b → (q - p) * b ≡ p * (a - b)
factors_differ p q a b e = cc (mul_comm (q - p) b, mul-sub b q p, mul-sub p a b, mul_comm b q, mul_comm b p)

-- a rule that takes each step below `many` in order takes any number of steps in order
steps_over : (R : ℕ → ℕ → Type 0) → ((a : ℕ) → R a a) → ((a b c : ℕ) → R a b → R b c → R a c)
    → (f : ℕ → ℕ) (many : ℕ) → ((i : ℕ) → i + 1 < many → R (f i) (f (i + 1))) → (i k : ℕ) → i + k < many → R (f i) (f (i + k))
steps_over R same then f many h i zero l =
    let e : i + zero ≡ i = omega arith in
    rw e (same (f i))
steps_over R same then f many h i (suc k) l =
    let e : i + suc k ≡ i + k + 1 = omega arith in
    rw e (then (f i) (f (i + k)) (f (i + k + 1)) (steps_over R same then f many h i k (omega arith)) (h (i + k) (omega arith)))

pub falls_over : (f : ℕ → ℕ) (many : ℕ) → ((i : ℕ) → i + 1 < many → f (i + 1) < f i) → (i k : ℕ) → i + k < many → f (i + k) ≤ f i
falls_over f many h = steps_over (λ a b. b ≤ a) le_refl (λ a b c p q. le_trans q p) f many (λ i l. le_of_lt (h i l))

pub rises_over : (f : ℕ → ℕ) (many : ℕ) → ((i : ℕ) → i + 1 < many → f i < f (i + 1)) → (i k : ℕ) → i + k < many → f i ≤ f (i + k)
rises_over f many h = steps_over (λ a b. a ≤ b) le_refl (λ a b c p q. le_trans p q) f many (λ i l. le_of_lt (h i l))

-- x / m rounded up, where m divides x and where it does not
module _ (x m : ℕ) (positive : 0 < m) where
  pub round_up_whole : x % m ≡ 0 → (x + (m - 1)) / m ≡ x / m
  round_up_whole e =
      let parts : x + (m - 1) ≡ x / m * m + (m - 1) = omega (arith, div-add-mod' x m) in
      let none : (m - 1) / m ≡ 0 = div-eq_of_lt (omega arith) in
      ap (λ (y : ℕ). y / m) parts ∙ omega (arith, mul-add-div_right positive (x / m) (m - 1))

  pub round_up_part : (x % m ≡ 0 → ⊥) → (x + (m - 1)) / m ≡ x / m + 1
  round_up_part e =
      let parts : x + (m - 1) ≡ x / m * m + (m + (x % m - 1)) = omega (arith, div-add-mod' x m) in
      let none : (x % m - 1) / m ≡ 0 = div-eq_of_lt (omega (arith, mod-lt x positive)) in
      let one : (m + (x % m - 1)) / m ≡ (x % m - 1) / m + 1 = add-div_left (x % m - 1) positive in
      ap (λ (y : ℕ). y / m) parts ∙ omega (arith, mul-add-div_right positive (x / m) (m + (x % m - 1)))

  -- the quotient is smaller than x
  pub part_below : (x % m ≡ 0 → ⊥) → x / m < x
  part_below e = omega (arith, div-add-mod' x m, mul-one (x / m), mul-le-mul_left (x / m) positive)

  -- rounded up, it covers x
  pub round_up_covers : x ≤ (x + (m - 1)) / m * m
  round_up_covers = omega (arith, div-add-mod' (x + (m - 1)) m, mod-lt (x + (m - 1)) positive)

  -- and no smaller number does
  pub round_up_least : (k : ℕ) → x ≤ k * m → (x + (m - 1)) / m ≤ k
  round_up_least k h =
      let below : (x + (m - 1)) / m < suc k = (div-lt_iff_lt-mul positive).1 (omega (arith, suc-mul k m)) in
      omega arith
