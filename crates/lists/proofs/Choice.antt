-- What is given at each number below n, made a function of all numbers.
-- Assumes nothing.
use mathlib.Core.Logic.{◌⊎◌, inl, inr}
use Prim.Native.Nat.{ℕ, ◌≤◌, ◌<◌}
use native.Mathlib.Nat.{lt_irrefl, lt_of_lt_of_le}
use Rattle.lists.proofs.Tests.{lt_or_le}

module _ {A : Type 0} (other : A) (n : ℕ) (P : ℕ → A → Type 0) (given : (t : ℕ) → t < n → (a : A) × P t a) where
  pick : (t : ℕ) → (t < n) ⊎ (n ≤ t) → A
  pick t (inl h) = (given t h).0
  pick t (inr h) = other

  pick_is : (t : ℕ) (x : (t < n) ⊎ (n ≤ t)) → t < n → P t (pick t x)
  unfolding pick
  pick_is t (inl h) l = (given t h).1
  pick_is t (inr h) l = absurd (lt_irrefl t (lt_of_lt_of_le l h))

  pub chosen : (f : ℕ → A) × ((t : ℕ) → t < n → P t (f t))
  chosen = (λ t. pick t (lt_or_le t n), λ t h. pick_is t (lt_or_le t n) h)
