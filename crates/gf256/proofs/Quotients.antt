-- The quotient by a byte that is not 0. Every such byte is a power of 3, whose power 255 is 1; so its own power 255 is 1 too, and its power 254, which
-- the definition makes of seven squares, is its inverse.
-- Assumes nothing.
use mathlib.Core.Path.{◌≡◌, refl, sym, ap, ◌∙◌}
use mathlib.Core.Logic.{◌≢◌}
use Prim.Native.Nat.{ℕ, zero, suc, ◌+◌, ◌*◌, ◌<◌}
use native.Mathlib.Nat.{mul-zero, mul-suc, mul_comm, add_comm}
use native.Mathlib.Omega.{arith}
use lib.Dec.{lit<}
use lib.ListN.{get_or}
use Rattle.gf256.specs.Byte.{◌⊗◌, power, squares_product, ◌⊘◌}
use Rattle.gf256.proofs.Ring.{⊗-byte, ⊗_comm, ⊗_assoc, ⊗_one, one_⊗}
use Rattle.gf256.proofs.Inverses.{⊗_cancel}
use Rattle.gf256.proofs.Powers.{powers, logarithms, power-byte, power-add, power-entry, power_of_logarithm}

-- ---- powers of powers

power_one : (n : ℕ) → power 1 n ≡ 1
unfolding power
power_one zero = refl
power_one (suc n) = one_⊗ (power 1 n) (power-byte 1 n) ∙ power_one n

power_times : (a m n : ℕ) → power (power a m) n ≡ power a (m * n)
unfolding power
power_times a m zero = ap (power a) (sym (mul-zero m))
power_times a m (suc n) =
    ap (◌⊗◌ (power a m)) (power_times a m n) ∙ sym (power-add a m (m * n)) ∙ ap (power a) (add_comm m (m * n) ∙ sym (mul-suc m n))

-- the power 255 of every byte but 0
power_255 : (b : ℕ) → b ≢ 0 → b < 256 → power b 255 ≡ 1
unfolding powers
power_255 b n h =
    let k : ℕ = get_or logarithms b 0 in
    let is : power 3 k ≡ b = power_of_logarithm b (omega arith) h in
    let whole : power 3 255 ≡ 1 = sym (power-entry 255 (lit< tt)) in
    ap (λ (x : ℕ). power x 255) (sym is) ∙ power_times 3 k 255 ∙ ap (power 3) (mul_comm k 255) ∙ sym (power_times 3 255 k)
    ∙ ap (λ (x : ℕ). power x k) whole ∙ power_one k

-- ---- the product of squares is a power

-- 2 + 4 + .., n of them
twos : ℕ → ℕ
twos zero = 0
twos (suc n) = 2 + 2 * twos n

power-two : (b : ℕ) → b < 256 → b ⊗ b ≡ power b 2
unfolding power
power-two b h = ap (◌⊗◌ b) (sym (⊗_one b h))

squares_power : (n b : ℕ) → b < 256 → squares_product n b ≡ power b (twos n)
unfolding squares_product power twos
squares_power zero b h = refl
squares_power (suc n) b h =
    ap (◌⊗◌ (b ⊗ b)) (squares_power n (b ⊗ b) (⊗-byte b b))
    ∙ ap (λ (x : ℕ). x ⊗ power x (twos n)) (power-two b h)
    ∙ ap (◌⊗◌ (power b 2)) (power_times b 2 (twos n)) ∙ sym (power-add b 2 (2 * twos n))

-- ---- the laws

pub ⊘-⊗ : (a b : ℕ) → b ≢ 0 → a < 256 → b < 256 → (a ⊘ b < 256) × (a ⊘ b ⊗ b ≡ a)
unfolding ◌⊘◌ twos power
⊘-⊗ a b n ha hb = (
  ⊗-byte a (squares_product 7 b),
  ⊗_assoc a (squares_product 7 b) b
      ∙ ap (◌⊗◌ a) (⊗_comm (squares_product 7 b) b ∙ ap (◌⊗◌ b) (squares_power 7 b hb) ∙ power_255 b n hb)
      ∙ ⊗_one a ha,
)

pub ⊘_only : (a b x : ℕ) → b ≢ 0 → a < 256 → b < 256 → x < 256 → x ⊗ b ≡ a → x ≡ a ⊘ b
⊘_only a b x n ha hb hx e =
    let q = ⊘-⊗ a b n ha hb in
    ⊗_cancel b x (a ⊘ b) n hb hx q.0 (⊗_comm b x ∙ e ∙ sym (⊗_comm b (a ⊘ b) ∙ q.1))
