-- The invariant of a loop that writes entries of a list in any order, over entries that may be right from the start.
-- Assumes nothing.
use mathlib.Core.Path.{◌≡◌, ◌∙◌}
use mathlib.Core.Logic.{◌≢◌}
use mathlib.Core.List.{List}
use Prim.Native.Nat.{ℕ, ◌+◌, ◌≤◌, ◌<◌}
use native.Mathlib.Decide.{ℕ_discrete}
use native.Mathlib.Omega.{arith}
use lib.ListN.{length, get_or, set, length-set}
use lib.Seq.{get_or-set_same, get_or-set_other}
use Rattle.lists.specs.Table.{tabulate}
use Rattle.lists.proofs.Table.{tabulate_is}

-- of o's n entries, those at the places P are by the rule f
pub record Known {ℓ} {A : Type ℓ} (other : A) (f : ℕ → A) (n : ℕ) (P : ℕ → Type 0) (o : List A) : Type ℓ where
  pub long : length o ≡ n
  pub is : (k : ℕ) → k < n → P k → get_or o k other ≡ f k

module _ {ℓ} {A : Type ℓ} {other : A} {f : ℕ → A} {n : ℕ} {P : ℕ → Type 0} {o : List A} where
  -- after one more write all places of Q are known, where they were but for this one
  pub known_more : {Q : ℕ → Type 0} {i : ℕ} {v : A} → Known other f n P o → i < n → v ≡ f i → ((k : ℕ) → Q k → k ≢ i → P k) → Known other f n Q (set o i v)
  known_more {Q} {i} {v} K h e before = record { long = length-set o i v ∙ K.long; is = λ k l q. at k l q (ℕ_discrete k i) }
    where
      at : (k : ℕ) → k < n → Q k → Dec (k ≡ i) → get_or (set o i v) k other ≡ f k
      at k l q (yes s) = rw s (get_or-set_same o i v other (rw K.long h) ∙ e)
      at k l q (no s) = get_or-set_other o i k v other s ∙ K.is k l (before k q s)

  pub known-all : Known other f n P o → ((k : ℕ) → k < n → P k) → o ≡ tabulate n f
  known-all K all = tabulate_is o n f other K.long (λ k l. K.is k l (all k l))

-- ---- from one place up to an end

-- what is left to write stands from place e up, below the end
abbrev pub Written {ℓ} : {A : Type ℓ} (other : A) → (ℕ → A) → ℕ → ℕ → ℕ → List A → Type ℓ
Written other f n end e o = Known other f n (λ k. e ≤ k → end ≤ k) o

module _ {ℓ} {A : Type ℓ} {other : A} {f : ℕ → A} {n end e : ℕ} {o : List A} (W : Written other f n end e o) where
  pub written_more : {v : A} → e < end → end ≤ n → v ≡ f e → Written other f n end (e + 1) (set o e v)
  written_more h inside is = known_more W (omega arith) is (λ k next skipped l. next (omega arith))

  pub written_all : end ≤ e → o ≡ tabulate n f
  written_all h = known-all W (λ k l p. omega arith)
