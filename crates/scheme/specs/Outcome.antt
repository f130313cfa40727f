-- What a call answers, in document 01's terms: the number of its refusal, 0 when it is accepted, and its values, none on a refusal.
-- Assumes nothing.
use Rattle.std.specs.Prelude.{Bool, cond, List, [], ◌∷◌, ℕ, eqb, Result, Ok, Err}
use Rattle.scheme.specs.declared.refusal.Refusal.{Refusal}
use Rattle.scheme.specs.Refusals.{number}

pub record Outcome : Type 0 where
  pub number : ℕ
  pub values : List ℕ

abbrev pub accepted : List ℕ → Outcome
accepted vs = record { number = 0; values = vs }

abbrev pub refused : ℕ → Outcome
refused q = record { number = q; values = [] }

-- the cases of the answer of a call that answers one number
abbrev pub outcome : Result ℕ Refusal → Outcome
outcome (Ok value) = accepted (value ∷ [])
outcome (Err q) = refused (number q)

-- ---- the first refusal that applies

-- a refusal's number where its condition holds, else 0
abbrev pub number_if : ℕ → Bool → ℕ
number_if number holds = cond holds number 0

-- the first of these numbers that is not 0
unfoldable pub first_of : List ℕ → ℕ
first_of [] = 0
first_of (number ∷ numbers) = cond (eqb number 0) (first_of numbers) number

-- accepted with these values, unless there is a refusal
unfoldable pub answer : ℕ → List ℕ → Outcome
answer refusal values = cond (eqb refusal 0) (accepted values) (refused refusal)
