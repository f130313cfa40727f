-- Runs on one pool: the accounting of its bytes, and that no byte is used twice.
-- Assumes nothing.
use mathlib.Core.Path.{◌≡◌, refl, sym, ap, ◌∙◌}
use mathlib.Core.Bool.{Bool, true, false}
use mathlib.Core.List.{List, [], ◌∷◌, map}
use mathlib.Core.Logic.{◌⊎◌, inl, inr}
use Prim.Native.Nat.{ℕ, ◌+◌, ◌≤◌}
use native.Mathlib.Nat.{add-zero, zero-add, add_assoc}
use native.Mathlib.Omega.{arith}
use lib.ListN.{length}
use borrow.Author.Tests.{eq-eqb, ne_eqb}
use Rattle.lists.specs.Each.{Each}
use Rattle.lists.proofs.Each.{each_imp}
use Rattle.std.specs.Prelude.{Result, Ok, Err}
use Rattle.scheme.specs.declared.refusal.Refusal.{Refusal}
use Rattle.scheme.specs.declared.refusal.Refusal.TheVariants.{Parties, AbsentOrColluding, Counts, BlockLength, MessageLength, OutputLength, Pool}
use Rattle.scheme.specs.Refusals.{number}
use Rattle.scheme.specs.Outcome.{outcome, refused, number_if, first_of, answer}
use Rattle.scheme.specs.Check.{refusal}
use Rattle.scheme.proofs.Laws.{number_between, told-accepted, told-refused, kept}
use Rattle.staircase.specs.Parameters.{share_bytes}
use Rattle.key_pool.specs.declared.KeyPool.{KeyPool}
use Rattle.dealer.specs.Forms.{blocks_in}
use Rattle.key_pool.specs.Pool.{pool_refusal, pool_answer, pool_after, pool_output, moved_by, took_if}
use Rattle.key_pool.specs.Run.{Call, needs, Step, IsAccepted, Promised, Run, RunExists, loaded, took, total, Accounting, UsedBytesFree, Takes, UsedOnce}
use Rattle.key_pool.proofs.WaysOut.{passed}

-- ---- one call

-- its refusal
abbrev pub refusal_of : Call → ℕ → KeyPool → ℕ
refusal_of c size found = pool_refusal c.form c.scheme (length c.message) size found (length c.before)

-- what it answered
abbrev Told : Call → ℕ → KeyPool → Result ℕ Refusal → Type 0
Told c size found a = outcome a ≡ pool_answer c.form c.scheme (length c.message) size found (length c.before)

-- by its answer: no refusal applies, or one does
pub told_none : (c : Call) (size : ℕ) (found : KeyPool) (a : Result ℕ Refusal) → Told c size found a → IsAccepted a → refusal_of c size found ≡ 0
unfolding pool_answer
told_none c size found (Ok share) e ok = (told-accepted (Ok share) _ _ e refl).0
told_none c size found (Err q) e ok = absurd ok

pub none_told : (c : Call) (size : ℕ) (found : KeyPool) (a : Result ℕ Refusal) → Told c size found a → refusal_of c size found ≡ 0 → IsAccepted a
unfolding pool_answer
none_told c size found (Ok share) e none = tt
none_told c size found (Err q) e none = omega (arith, told-refused (Err q) (refusal_of c size found) _ e refl)

-- and the record moved by what it took
moved_by_lem : (c : Call) (size : ℕ) (found : KeyPool) (a : Result ℕ Refusal) → Told c size found a
    → pool_after c.form c.scheme (length c.message) size found (length c.before) ≡ moved_by found (took_if a (needs c))
unfolding pool_answer pool_after
moved_by_lem c size found (Ok share) e = rw (eq-eqb (refusal_of c size found) 0 (told-accepted (Ok share) _ _ e refl).0)
moved_by_lem c size found (Err q) e = sym (kept _ (told-refused (Err q) (refusal_of c size found) _ e refl)) ∙ rw (add-zero found.position)

-- which were there
within_by : (c : Call) (size : ℕ) (found : KeyPool) (a : Result ℕ Refusal) → Told c size found a → found.length ≡ size → found.position ≤ size
    → found.position + took_if a (needs c) ≤ size
within_by c size found (Ok share) e l h = omega (arith, l, (passed c.form c.scheme _ size found _ (told_none c size found (Ok share) e tt)).room.inside)
within_by c size found (Err q) e l h = rw (add-zero found.position) h

module _ (bytes : List ℕ) (s : Step) (P : Promised bytes s) where
  pub moved_on : s.next ≡ moved_by s.found (took s)
  moved_on = P.moved ∙ moved_by_lem s.call (length bytes) s.found s.answer P.answered

  within : s.found.length ≡ length bytes → s.found.position ≤ length bytes → s.found.position + took s ≤ length bytes
  within = within_by s.call (length bytes) s.found s.answer P.answered

-- ---- whatever is called, there is a run

-- a number that is 0 or a refusal's: that of the first refusal that applies is one
abbrev Answerable : ℕ → Type 0
Answerable k = (k ≡ 0) ⊎ ((q : Refusal) × (number q ≡ k))

first_answerable : (k : ℕ) (qs : List ℕ) → Answerable k → Answerable (first_of qs) → Answerable (first_of (k ∷ qs))
unfolding first_of
first_answerable k qs (inl none) later = rw (eq-eqb k 0 none) later
first_answerable k qs (inr (q, is)) later =
    let some : k ≡ 0 → ⊥ = λ none. omega (arith, number_between q) in
    rw (ne_eqb k 0 some) (inr (q, is))

if_answerable : (q : Refusal) (t : Bool) (qs : List ℕ) → Answerable (first_of qs) → Answerable (first_of (number_if (number q) t ∷ qs))
if_answerable q true qs later = first_answerable _ qs (inr (q, refl)) later
if_answerable q false qs later = first_answerable _ qs (inl refl) later

none_answerable : Answerable (first_of [])
unfolding first_of
none_answerable = inl refl

scheme_answerable : (n r z : ℕ) (ds : List ℕ) → Answerable (refusal n r z ds)
unfolding refusal
scheme_answerable n r z ds = if_answerable Parties _ _ (if_answerable AbsentOrColluding _ _ (if_answerable Counts _ _ (if_answerable BlockLength _ _ none_answerable)))

answerable : (c : Call) (size : ℕ) (found : KeyPool) → Answerable (refusal_of c size found)
unfolding pool_refusal
answerable c size found =
    first_answerable _ _ (scheme_answerable c.scheme.n c.scheme.r c.scheme.z c.scheme.counts)
    (if_answerable MessageLength _ _ (if_answerable Pool _ _ (if_answerable OutputLength _ _ none_answerable)))

-- by it these bytes of a share are answered, or the refusal
answer_of : (k share : ℕ) → Answerable k → Result ℕ Refusal
answer_of k share (inl none) = Ok share
answer_of k share (inr (q, is)) = Err q

told : (k share : ℕ) (a : Answerable k) → outcome (answer_of k share a) ≡ answer k (share ∷ [])
unfolding answer_of answer
told k share (inl none) = rw (eq-eqb k 0 none) refl
told k share (inr (q, is)) =
    let some : k ≡ 0 → ⊥ = λ none. omega (arith, number_between q) in
    rw (ne_eqb k 0 some) (ap refused is)

-- what a call comes to
made : List ℕ → KeyPool → Call → Step
made bytes start c =
    record {
      call = c;
      found = start;
      answer = answer_of (refusal_of c (length bytes) start) (share_bytes c.scheme (blocks_in c.form c.scheme (length c.message))) (answerable c (length bytes) start);
      after = pool_output c.form c.scheme c.message bytes start c.before;
      next = pool_after c.form c.scheme (length c.message) (length bytes) start (length c.before);
    }

made_so : (bytes : List ℕ) (start : KeyPool) (c : Call) → ((made bytes start c).found ≡ start) × ((made bytes start c).call ≡ c) × Promised bytes (made bytes start c)
unfolding made pool_answer
made_so bytes start c = (refl, refl, record { answered = told _ _ (answerable c (length bytes) start); wrote = refl; moved = refl })

pub run_exists : RunExists
run_exists bytes start [] = ([], start, refl, refl)
run_exists bytes start (c ∷ cs) =
    let s : Step = made bytes start c in
    let so = made_so bytes start c in
    let rest = run_exists bytes s.next cs in
    (s ∷ rest.0, rest.1, rw (so.1, rest.2), (so.0, so.2, rest.3))

-- ---- the accounting

abbrev position_of : KeyPool → ℕ
position_of pool = pool.position

abbrev length_of : KeyPool → ℕ
length_of pool = pool.length

ends : (bytes : List ℕ) (start : KeyPool) (ss : List Step) (end : KeyPool) → Run bytes start ss end → start.length ≡ length bytes → start.position ≤ length bytes
    → (end.position ≡ start.position + total (map took ss)) × (end.position ≤ length bytes) × (end.length ≡ length bytes)
unfolding total
ends bytes start [] end R l h = (ap position_of R ∙ sym (add-zero start.position), rw R h, rw R l)
ends bytes start (s ∷ ss) end (same, P, R) l h =
    let on = moved_on bytes s P in
    let long : s.next.length ≡ length bytes = ap length_of on ∙ ap length_of same ∙ l in
    let place : s.next.position ≡ start.position + took s = ap position_of on ∙ ap (λ (p : KeyPool). p.position + took s) same in
    let inside : s.next.position ≤ length bytes = rw (place, ← same) (within bytes s P (rw same l) (rw same h)) in
    let rest = ends bytes s.next ss end R long inside in
    (rest.0 ∙ ap (λ (x : ℕ). x + total (map took ss)) place ∙ add_assoc start.position (took s) (total (map took ss)), rest.1, rest.2)

none_taken : (a : Result ℕ Refusal) (need : ℕ) → (IsAccepted a → ⊥) → took_if a need ≡ 0
none_taken (Ok share) need refuses = absurd (refuses tt)
none_taken (Err q) need refuses = refl

left_alone : (bytes : List ℕ) (start : KeyPool) (ss : List Step) (end : KeyPool) → Run bytes start ss end → Each (λ (s : Step). (IsAccepted s.answer → ⊥) → s.next ≡ s.found) ss
left_alone bytes start [] end R = tt
left_alone bytes start (s ∷ ss) end (same, P, R) = (
  λ refuses. moved_on bytes s P ∙ simp (none_taken s.answer (needs s.call) refuses, add-zero),
  left_alone bytes s.next ss end R,
)

pub accounting : Accounting
accounting bytes steps end R =
    let e = ends bytes (loaded (length bytes)) steps end R refl (omega arith) in
    let place : end.position ≡ total (map took steps) = e.0 ∙ zero-add _ in
    record { sum = omega (arith, place, e.1); inside = e.1; long = e.2; refused = left_alone bytes (loaded (length bytes)) steps end R }

-- ---- bytes that are used

pub used_bytes_free : UsedBytesFree
unfolding pool_output
used_bytes_free bytes bytes' s long rest P =
    record { answered = P.answered ∙ rw long; wrote = P.wrote ∙ rw (long, rest); moved = P.moved ∙ rw long }

-- ---- each byte once

-- the calls of a run find the position where it starts, or past it
later : (bytes : List ℕ) (start : KeyPool) (ss : List Step) (end : KeyPool) → Run bytes start ss end → Each (λ (t : Step). start.position ≤ t.found.position) ss
later bytes start [] end R = tt
later bytes start (s ∷ ss) end (same, P, R) =
    let place : s.next.position ≡ start.position + took s = ap position_of (moved_on bytes s P) ∙ ap (λ (p : KeyPool). p.position + took s) same in
    let at : s.found.position ≡ start.position = ap position_of same in
    (omega arith, each_imp {A = Step} (λ t. s.next.position ≤ t.found.position) (λ t. start.position ≤ t.found.position) (λ t h. omega arith) ss (later bytes s.next ss end R))

pub used_once : UsedOnce
used_once bytes start [] end R = tt
used_once bytes start (s ∷ ss) end (same, P, R) =
    let place : s.next.position ≡ s.found.position + took s = ap position_of (moved_on bytes s P) in (
      each_imp {A = Step} (λ t. s.next.position ≤ t.found.position) (λ t. (i : ℕ) → Takes s i → Takes t i → ⊥) (λ t h i a b. omega arith) ss (later bytes s.next ss end R),
      used_once bytes s.next ss end R,
    )
