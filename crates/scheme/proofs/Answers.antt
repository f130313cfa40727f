-- What a call answers at each way out: the refusals that do not apply are passed, the first that does is answered, and where none applies the
-- values are. The other way: where no refusal is answered, each condition fails.
-- Assumes nothing.
use mathlib.Core.Path.{◌≡◌, refl, sym, ap, ◌∙◌}
use mathlib.Core.Bool.{Bool, true, false, cond, not}
use mathlib.Core.List.{List, [], ◌∷◌}
use Prim.Native.Nat.{ℕ, zero, suc, ◌≤◌, ◌<◌}
use native.Mathlib.Omega.{arith}
use lib.Dec.{ltb, eqb}
use borrow.Author.Tests.{lt-ltb, le-ltb, eq-eqb, ne_eqb}
use Rattle.std.specs.Prelude.{Result, Ok, Err}
use Rattle.scheme.specs.declared.refusal.Refusal.{Refusal}
use Rattle.scheme.specs.Refusals as refusals
use Rattle.scheme.specs.Outcome.{Outcome, accepted, refused, outcome, number_if, first_of, answer}
use Rattle.scheme.specs.Check.{refusal, checked}

-- ---- the ways through a list of refusals, for a call with these values

pub data Way (vs : List ℕ) : List ℕ → Outcome → Type 0 where
  done : Way vs [] (accepted vs)
  stop : {q : ℕ} {qs : List ℕ} → 0 < q → Way vs (q ∷ qs) (refused q)
  pass : {q : ℕ} {qs : List ℕ} {o : Outcome} → q ≡ 0 → Way vs qs o → Way vs (q ∷ qs) o

-- a step for each kind of condition: that a test is true, that b is above a, and that a and b differ
module _ {vs qs : List ℕ} where
  pub stop_true : {t : Bool} {q : ℕ} → t ≡ true → Way vs (number_if (suc q) t ∷ qs) (refused (suc q))
  stop_true {q} e = rw e (stop {q = suc q} (omega arith))

  pub pass_false : {t : Bool} {o : Outcome} (q : ℕ) → t ≡ false → Way vs qs o → Way vs (number_if q t ∷ qs) o
  pass_false {t} q e w = pass {q = number_if q t} (rw e) w

  pub stop_over : {a b q : ℕ} → a < b → Way vs (number_if (suc q) (ltb a b) ∷ qs) (refused (suc q))
  stop_over h = stop_true (lt-ltb _ _ h)

  pub pass_within : {a b : ℕ} {o : Outcome} (q : ℕ) → b ≤ a → Way vs qs o → Way vs (number_if q (ltb a b) ∷ qs) o
  pass_within q h w = pass_false q (le-ltb _ _ h) w

  pub stop_other : {a b q : ℕ} → (a ≡ b → ⊥) → Way vs (number_if (suc q) (not (eqb a b)) ∷ qs) (refused (suc q))
  stop_other h = stop_true (ap not (ne_eqb _ _ h))

  pub pass_same : {a b : ℕ} {o : Outcome} (q : ℕ) → a ≡ b → Way vs qs o → Way vs (number_if q (not (eqb a b)) ∷ qs) o
  pass_same q e w = pass_false q (ap not (eq-eqb _ _ e)) w

-- ---- the answer

pub answer_none : (q : ℕ) (vs : List ℕ) → q ≡ 0 → answer q vs ≡ accepted vs
unfolding answer
answer_none q vs e = rw (eq-eqb q 0 e)

answer_some : (q : ℕ) (vs : List ℕ) → 0 < q → answer q vs ≡ refused q
unfolding answer
answer_some q vs h = rw (ne_eqb q 0 (λ e. omega arith))

pub answer-number : (q : ℕ) (vs : List ℕ) → (answer q vs).number ≡ q
answer-number zero vs = ap (λ (o : Outcome). o.number) (answer_none 0 vs refl)
answer-number (suc q) vs = ap (λ (o : Outcome). o.number) (answer_some (suc q) vs (omega arith))

-- at a way out
pub answers : {vs qs : List ℕ} {o : Outcome} → Way vs qs o → o ≡ answer (first_of qs) vs
unfolding first_of answer
answers done = refl
answers (stop {q} h) = simp (ne_eqb q 0 (λ e. omega arith))
answers (pass {q} e w) = rw (eq-eqb q 0 e) (answers w)

-- the number of the first refusal, whatever the values; 0 at the end
pub numbered : {qs : List ℕ} {q : ℕ} → Way [] qs (refused q) → first_of qs ≡ q
numbered {qs} w = sym (ap (λ (o : Outcome). o.number) (answers w) ∙ answer-number (first_of qs) [])

-- values are answered only where no refusal applies
pub answered_none : (k : ℕ) (vs ws : List ℕ) → accepted vs ≡ answer k ws → (k ≡ 0) × (vs ≡ ws)
answered_none k vs ws e =
    let none : k ≡ 0 = sym (ap (λ (o : Outcome). o.number) e ∙ answer-number k ws) in
    (none, ap (λ (o : Outcome). o.values) (e ∙ answer_none k ws none))

-- a refusal that is answered where there are values is one that applies
pub answered_some : (k q v : ℕ) (vs : List ℕ) → refused q ≡ answer k (v ∷ vs) → (k ≡ q) × (0 < k)
answered_some zero q v vs e =
    let values : [] ≡ v ∷ vs = ap (λ (o : Outcome). o.values) (e ∙ answer_none 0 (v ∷ vs) refl) in
    absurd (let z : ◌≡◌ {A = ℕ} 0 1 = cc in let no : ⊥ = omega arith in no)
answered_some (suc k) q v vs e = (sym (ap (λ (o : Outcome). o.number) (e ∙ answer_some (suc k) (v ∷ vs) (omega arith))), omega arith)

-- ---- what a call gives besides: the new where no refusal applies, else the old

pub kept : {A : Type 0} {k : ℕ} {old : A} (new : A) → 0 < k → old ≡ cond (eqb k 0) new old
kept {k} new h = rw (ne_eqb k 0 (λ e. omega arith))

pub refuses : {A : Type 0} {v q : ℕ} {vs qs : List ℕ} {old : A} (new : A) → Way (v ∷ vs) qs (refused q)
    → (refused q ≡ answer (first_of qs) (v ∷ vs)) × (old ≡ cond (eqb (first_of qs) 0) new old)
refuses new w = (answers w, kept new (answered_some _ _ _ _ (answers w)).1)

-- for whoever takes the answer a apart
module _ (a : Result ℕ Refusal) (k v : ℕ) (e : outcome a ≡ answer k (v ∷ [])) where
  pub told-refused : {q : Refusal} → a ≡ Err q → 0 < k
  told-refused {q} told = (answered_some k (refusals.number q) v [] (sym (ap outcome told) ∙ e)).1

  pub told-accepted : {d : ℕ} → a ≡ Ok d → (k ≡ 0) × (d ≡ v)
  told-accepted {d} told =
      let none = answered_none k (d ∷ []) (v ∷ []) (sym (ap outcome told) ∙ e) in
      (none.0, cc none.1)

-- ---- the scheme's refusals come first

module _ (n r z : ℕ) (ds : List ℕ) (q : Refusal) (e : refused (refusals.number q) ≡ checked n r z ds) where
  pub scheme-told : (refusal n r z ds ≡ refusals.number q) × (0 < refusal n r z ds)
  unfolding checked
  scheme-told = answered_some (refusal n r z ds) (refusals.number q) n _ e

  -- the code passes the check's refusal on
  pub stop_scheme : {vs qs : List ℕ} → Way vs (refusal n r z ds ∷ qs) (refused (refusals.number q))
  stop_scheme = rw (sym scheme-told.0) (stop scheme-told.1)

-- ---- none applies: the first does not, nor any after it

pub first_none : (q : ℕ) (qs : List ℕ) → first_of (q ∷ qs) ≡ 0 → (q ≡ 0) × (first_of qs ≡ 0)
unfolding first_of
first_none zero qs e = (refl, e)
first_none (suc q) qs e = absurd (let no : ⊥ = omega (arith, numbered (stop {q = suc q} {qs = qs} (omega arith))) in no)

-- one that does not apply is passed over
pub first-passed : (q : ℕ) (qs : List ℕ) → q ≡ 0 → first_of (q ∷ qs) ≡ first_of qs
unfolding first_of
first-passed q qs e = rw (eq-eqb q 0 e)

pub first_if : (q : ℕ) (t : Bool) (qs : List ℕ) → first_of (number_if (suc q) t ∷ qs) ≡ 0 → (t ≡ false) × (first_of qs ≡ 0)
first_if q true qs e = absurd (let no : ⊥ = omega (arith, (first_none (suc q) qs e).0) in no)
first_if q false qs e = (refl, (first_none 0 qs e).1)
