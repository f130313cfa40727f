-- Runs: splits one after another on one pool, of any forms and schemes, accepted or refused, with nothing else writing its record; and the accounting of the
-- pool's bytes (document 02, f). proofs/Runs.antt proves the statements. That a run gives nothing away is in crates/sharing/specs/PoolSecrecy.antt.
-- Assumes nothing.
use Rattle.std.specs.Prelude.{◌≡◌, List, [], ◌∷◌, map, ℕ, ◌+◌, ◌-◌, ◌≤◌, ◌<◌, length, drop, Result, Ok, Err}
use Rattle.lists.specs.Each.{Each}
use Rattle.scheme.specs.declared.refusal.Refusal.{Refusal}
use Rattle.scheme.specs.declared.forms.Form.{Form}
use Rattle.staircase.specs.Parameters.{Parameters}
use Rattle.key_pool.specs.declared.KeyPool.{KeyPool}
use Rattle.key_pool.specs.Pool.{needed, PoolSplitCall, took_if}

-- a call that is to be made: the form of its message, its scheme, its message, and what its output slice holds
pub record Call : Type 0 where
  pub form : Form
  pub scheme : Parameters
  pub message : List ℕ
  pub before : List ℕ

-- the key bytes that its message takes, N × z × b
abbrev pub needs : Call → ℕ
needs c = needed c.form c.scheme (length c.message)

-- a call that was made: the record that it found, its answer, and the output and the record that it left
pub record Step : Type 0 where
  pub call : Call
  pub found : KeyPool
  pub answer : Result ℕ Refusal
  pub after : List ℕ
  pub next : KeyPool

abbrev pub calls_of : List Step → List Call
calls_of steps = map (λ (s : Step). s.call) steps

abbrev pub IsAccepted : Result ℕ Refusal → Type 0
IsAccepted (Ok share) = Unit {0}
IsAccepted (Err q) = ⊥

-- it is as the contract of the split has it, on a pool of these bytes
abbrev pub Promised : List ℕ → Step → Type 0
Promised bytes s =
    PoolSplitCall s.call.form s.call.scheme s.call.message bytes s.found s.call.before s.answer s.after s.next

-- a run on a pool of these bytes from one record to another: each call finds the record as the one before it left it
abbrev pub Run : List ℕ → KeyPool → List Step → KeyPool → Type 0
Run bytes start [] end = end ≡ start
Run bytes start (s ∷ ss) end = (s.found ≡ start) × Promised bytes s × Run bytes s.next ss end

-- whatever is called, there is a run of it
abbrev pub RunExists : Type 0
RunExists =
    (bytes : List ℕ) (start : KeyPool) (calls : List Call) → (steps : List Step) × (end : KeyPool) × (calls_of steps ≡ calls) × Run bytes start steps end

-- the record of a pool of so many bytes as it is loaded
abbrev pub loaded : ℕ → KeyPool
loaded bytes = record { length = bytes; position = 0 }

-- ---- the accounting

-- the bytes that a call took: N × z × b where it was accepted, else none
abbrev pub took : Step → ℕ
took s = took_if s.answer (needs s.call)

unfoldable pub total : List ℕ → ℕ
total [] = 0
total (n ∷ ns) = n + total ns

-- what the accepted splits took and what is left are the bytes loaded, the record still is that of the pool, and a refused call left it as it found it
pub record Accounted (bytes : List ℕ) (steps : List Step) (end : KeyPool) : Type 0 where
  pub sum : total (map took steps) + (length bytes - end.position) ≡ length bytes
  pub inside : end.position ≤ length bytes
  pub long : end.length ≡ length bytes
  pub refused : Each (λ (s : Step). (IsAccepted s.answer → ⊥) → s.next ≡ s.found) steps

-- over any calls, from the loading of the pool
abbrev pub Accounting : Type 0
Accounting = (bytes : List ℕ) (steps : List Step) (end : KeyPool) → Run bytes (loaded (length bytes)) steps end → Accounted bytes steps end

-- ---- bytes that are used

-- what stands before the position changes nothing: a call on a pool is one on every pool of the same length that has the same bytes from there on. So used
-- bytes may be overwritten between the calls of a run
abbrev pub UsedBytesFree : Type 0
UsedBytesFree =
    (bytes bytes' : List ℕ) (s : Step) → length bytes ≡ length bytes' → drop s.found.position bytes ≡ drop s.found.position bytes'
    → Promised bytes s → Promised bytes' s

-- ---- each byte once

-- the pool's byte at place i is one of the bytes that the call took, from the position that it found on
abbrev pub Takes : Step → ℕ → Type 0
Takes s i = (s.found.position ≤ i) × (i < s.found.position + took s)

-- no two of the calls share a place
abbrev pub Apart : List Step → Type 0
Apart [] = Unit {0}
Apart (s ∷ ss) = Each (λ (t : Step). (i : ℕ) → Takes s i → Takes t i → ⊥) ss × Apart ss

-- in no run, whatever record it starts from
abbrev pub UsedOnce : Type 0
UsedOnce = (bytes : List ℕ) (start : KeyPool) (steps : List Step) (end : KeyPool) → Run bytes start steps end → Apart steps
