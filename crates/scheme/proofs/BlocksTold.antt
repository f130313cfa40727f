-- The blocks of a message in either form: the two cases of their answer, and that they are few.
-- Assumes nothing.
use mathlib.Core.Path.{◌≡◌, refl}
use mathlib.Core.Bool.{Bool, true, false, cond}
use Prim.Native.Nat.{ℕ, ◌≤◌, ◌<◌}
use lib.Dec.{ltb}
use borrow.Author.Tests.{ltb-false, ltb-true}
use Rattle.std.specs.Prelude.{Ok, Err}
use Rattle.scheme.specs.declared.refusal.Refusal.{Refusal}
use Rattle.scheme.specs.declared.refusal.Refusal.TheVariants.{MessageLength}
use Rattle.scheme.specs.declared.forms.Form.{Form}
use Rattle.scheme.specs.Forms.{blocks_of_length, blocks_answer}
use Rattle.scheme.specs.Limits.{max_message}

module _ (form : Form) (m message : ℕ) where
  pub blocks_told : (N : ℕ) → Ok N ≡ blocks_answer form m message → (N ≡ blocks_of_length form m message) × (message ≤ max_message)
  unfolding blocks_answer
  blocks_told N = go (ltb max_message message) refl
    where
      go : (t : Bool) → ltb max_message message ≡ t → Ok N ≡ cond t (Err MessageLength) (Ok (blocks_of_length form m message))
          → (N ≡ blocks_of_length form m message) × (message ≤ max_message)
      go true f e = absurd (cc e)
      go false f e = (cc e, ltb-false _ _ f)

  pub blocks_refused : (q : Refusal) → Err q ≡ blocks_answer form m message → (q ≡ MessageLength) × (max_message < message)
  unfolding blocks_answer
  blocks_refused q = go (ltb max_message message) refl
    where
      go : (t : Bool) → ltb max_message message ≡ t → Err q ≡ cond t (Err MessageLength) (Ok (blocks_of_length form m message))
          → (q ≡ MessageLength) × (max_message < message)
      go true f e = (cc e, ltb-true _ _ f)
      go false f e = absurd (cc e)
