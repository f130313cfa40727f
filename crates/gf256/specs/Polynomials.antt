-- What the product and the remainder are as polynomials over {0, 1}, in FIPS 197's own terms; `polynomials` of proofs/Polynomials.antt proves it.
-- Assumes nothing.
use Rattle.std.specs.Prelude.{◌≡◌, ℕ, ◌+◌, ◌^◌, ◌<◌}
use Rattle.gf256.specs.Byte.{◌⊕◌, modulus, product, reduce}

pub record Polynomials : Type 0 where
  -- the product: that of x^i and x^j is x^(i + j), and it is taken digit by digit of both
  pub product-powers : (i j : ℕ) → product (2 ^ i) (2 ^ j) ≡ 2 ^ (i + j)
  pub product-sums : (a b c d : ℕ) → product (a ⊕ b) (c ⊕ d) ≡ (product a c ⊕ product a d) ⊕ (product b c ⊕ product b d)
  -- the remainder: of degree below 8, and what is missing is a multiple of the modulus
  pub remainder_degree : (p : ℕ) → reduce p < 256
  pub remainder_multiple : (p : ℕ) → (q : ℕ) × (p ≡ product modulus q ⊕ reduce p)
