-- The laws of byte arithmetic, each as a statement; `field` of proofs/Laws.antt proves them all. Those that name no bound hold of all numbers.
-- Assumes nothing.
use Rattle.std.specs.Prelude.{◌≡◌, ◌⊎◌, ◌≢◌, ℕ, Some, None}
use Rattle.lists.specs.Each.{Byte}
use Rattle.gf256.specs.Byte.{◌⊕◌, ◌⊗◌, inverse, ◌⊘◌}

pub record Field : Type 0 where
  pub ⊕_assoc : (a b c : ℕ) → (a ⊕ b) ⊕ c ≡ a ⊕ (b ⊕ c)
  pub ⊕_comm : (a b : ℕ) → a ⊕ b ≡ b ⊕ a
  pub ⊕-zero : (a : ℕ) → a ⊕ 0 ≡ a
  -- each byte is its own negative
  pub ⊕_self : (a : ℕ) → a ⊕ a ≡ 0
  pub ⊗_assoc : (a b c : ℕ) → (a ⊗ b) ⊗ c ≡ a ⊗ (b ⊗ c)
  pub ⊗_comm : (a b : ℕ) → a ⊗ b ≡ b ⊗ a
  pub ⊗-⊕ : (a b c : ℕ) → a ⊗ (b ⊕ c) ≡ a ⊗ b ⊕ a ⊗ c
  pub ⊗-zero : (a : ℕ) → a ⊗ 0 ≡ 0
  pub ⊗_one : (a : ℕ) → Byte a → a ⊗ 1 ≡ a
  -- 0 has no inverse, and it is the only byte that has none
  pub inverse-zero : inverse 0 ≡ None
  pub no_inverse : (a : ℕ) → Byte a → inverse a ≡ None → a ≡ 0
  -- an inverse that is answered is a byte whose product with a is 1, and a byte whose product with a is 1 is answered
  pub ⊗-inverse : (a x : ℕ) → inverse a ≡ Some x → Byte x × (a ⊗ x ≡ 1)
  pub inverse_only : (a x : ℕ) → Byte a → Byte x → a ⊗ x ≡ 1 → inverse a ≡ Some x
  -- times the divisor, which is not 0, the quotient is the dividend, and no other byte is
  pub ⊘-⊗ : (a b : ℕ) → b ≢ 0 → Byte a → Byte b → Byte (a ⊘ b) × (a ⊘ b ⊗ b ≡ a)
  pub ⊘_only : (a b x : ℕ) → b ≢ 0 → Byte a → Byte b → Byte x → x ⊗ b ≡ a → x ≡ a ⊘ b
  pub no_zero_divisors : (a b : ℕ) → Byte a → Byte b → a ⊗ b ≡ 0 → (a ≡ 0) ⊎ (b ≡ 0)
  -- sums and products are bytes
  pub ⊕-byte : (a b : ℕ) → Byte a → Byte b → Byte (a ⊕ b)
  pub ⊗-byte : (a b : ℕ) → Byte (a ⊗ b)
