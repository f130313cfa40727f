-- The product and the remainder of the definitions are those of polynomials over {0, 1}.
-- Assumes nothing.
use mathlib.Core.Path.{◌≡◌, refl, sym, ap, ap₂, ◌∙◌}
use Prim.Native.Nat.{ℕ, zero, suc, ◌+◌, ◌*◌, ◌/◌, ◌%◌, ◌^◌, ◌<◌}
use native.Mathlib.Nat as N
use native.Mathlib.Omega.{arith}
use lib.Arith.{bin_ind, digits_div, digits_mod}
use lib.Bits.{xor_shifted}
use Rattle.gf256.specs.Byte.{◌⊕◌, modulus, product, cut, reduce}
use Rattle.gf256.specs.Polynomials.{Polynomials}
use Rattle.gf256.proofs.Digits.{⊕_assoc, odd_lt, ⊕_doubled, interchange}
use Rattle.gf256.proofs.Ring.{⊕_self, ⊕-zero, product_step, product-⊕_left, product-⊕, product_double_left, product_one_left, split, reduce_step, reduce_below}

powers : (i j : ℕ) → product (2 ^ i) (2 ^ j) ≡ 2 ^ (i + j)
powers zero j = product_one_left (2 ^ j) ∙ ap (λ (k : ℕ). 2 ^ k) (sym (N.zero-add j))
powers (suc i) j =
    ap (λ (x : ℕ). product x (2 ^ j)) (N.pow-suc 2 i)
    ∙ product_double_left (2 ^ i) (2 ^ j)
    ∙ ap (λ (x : ℕ). x * 2) (powers i j)
    ∙ sym (ap (λ (k : ℕ). 2 ^ k) (N.suc-add i j) ∙ N.pow-suc 2 (i + j))

sums : (a b c d : ℕ) → product (a ⊕ b) (c ⊕ d) ≡ (product a c ⊕ product a d) ⊕ (product b c ⊕ product b d)
sums a b c d = product-⊕_left a b (c ⊕ d) ∙ ap₂ ◌⊕◌ (product-⊕ a c d) (product-⊕ b c d)

-- the digit d of p after its half h, where h is a multiple of the modulus by q and a rest r: the rest with the digit, x, is cut by the modulus t times
next : (h q r d t : ℕ) → d < 2 → t < 2 → h ≡ product modulus q ⊕ r
    → h * 2 ⊕ d ≡ product modulus (q * 2 + t) ⊕ ((r * 2 + d) ⊕ t * modulus)
unfolding ◌⊕◌
next h q r d t hd ht e =
    let x : ℕ = r * 2 + d in
    let beside : r * 2 ⊕ d ≡ r * 2 + d = xor_shifted r 1 d hd in
    let left : h * 2 ⊕ d ≡ product modulus q * 2 ⊕ (r * 2 + d) =
    ap (λ (y : ℕ). y * 2 ⊕ d) e
    ∙ ap (λ (y : ℕ). y ⊕ d) (sym (⊕_doubled (product modulus q) r))
    ∙ ⊕_assoc (product modulus q * 2) (r * 2) d
    ∙ ap (◌⊕◌ (product modulus q * 2)) beside in
    let more : product modulus (q * 2 + t) ≡ product modulus q * 2 ⊕ t * modulus =
    product_step modulus (q * 2 + t)
    ∙ ap₂ (λ (y z : ℕ). product modulus y * 2 ⊕ modulus * z) (digits_div q ht) (digits_mod q ht)
    ∙ ap (◌⊕◌ (product modulus q * 2)) (N.mul_comm modulus t) in
    let right : product modulus (q * 2 + t) ⊕ (x ⊕ t * modulus) ≡ product modulus q * 2 ⊕ x =
    ap (λ (y : ℕ). y ⊕ (x ⊕ t * modulus)) more
    ∙ interchange (product modulus q * 2) (t * modulus) x (t * modulus)
    ∙ ap (◌⊕◌ (product modulus q * 2 ⊕ x)) (⊕_self (t * modulus))
    ∙ ⊕-zero (product modulus q * 2 ⊕ x) in
    left ∙ sym right

multiple : (p : ℕ) → (q : ℕ) × (p ≡ product modulus q ⊕ reduce p)
unfolding ◌⊕◌ cut product reduce
multiple =
    bin_ind (λ p. (q : ℕ) × (p ≡ product modulus q ⊕ reduce p)) (0, refl)
    (λ p ih.
    let r : ℕ = reduce (p / 2) in
    let x : ℕ = r * 2 + p % 2 in
    let t : ℕ = x / 256 in
    let few : t < 2 = omega (arith, reduce_below (p / 2), odd_lt p) in
    (ih.0 * 2 + t, sym (split p) ∙ next (p / 2) ih.0 r (p % 2) t (odd_lt p) few ih.1 ∙ ap (◌⊕◌ (product modulus (ih.0 * 2 + t))) (sym (reduce_step p))))

pub polynomials : Polynomials
polynomials = record { product-powers = powers; product-sums = sums; remainder_degree = reduce_below; remainder_multiple = multiple }
