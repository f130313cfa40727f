-- A key pool (document 02's tray) and the splits that take their keys from it: the answer, the output and the record after a call. Only the form, the
-- scheme, the lengths and the record decide the answer and the record after it.
-- Assumes nothing.
use Rattle.std.specs.Prelude.{◌≡◌, Bool, cond, not, ◌&&◌, ◌||◌, List, [], ◌∷◌, ℕ, ◌+◌, ◌-◌, ltb, leb, eqb, length, take, drop, Result, Ok, Err}
use Rattle.scheme.specs.Limits.{max_message}
use Rattle.scheme.specs.declared.refusal.Refusal.{Refusal}
use Rattle.scheme.specs.declared.forms.Form.{Form}
use Rattle.scheme.specs.Outcome.{Outcome, number_if, first_of, answer, outcome}
use Rattle.scheme.specs.Check.{refusal}
use Rattle.staircase.specs.Parameters.{Parameters, key_bytes, share_bytes, output_bytes}
use Rattle.key_pool.specs.declared.KeyPool.{KeyPool}
use Rattle.dealer.specs.Forms.{blocks_in, shares_in}

-- refusal 16, for a split that takes `need` bytes from a pool of `bytes`: the record's length is another, or its position is past it, or fewer bytes are left
unfoldable pub pool_refused : KeyPool → ℕ → ℕ → Bool
pool_refused pool bytes need =
    not (eqb pool.length bytes) || (ltb pool.length pool.position || ltb (pool.length - pool.position) need)

-- the bytes that a message of so many bytes takes, N × z × b
abbrev pub needed : Form → Parameters → ℕ → ℕ
needed form p message = key_bytes p (blocks_in form p message)

-- the first refusal that applies to a message, a pool and an output of so many bytes, with this record
unfoldable pub pool_refusal : Form → Parameters → ℕ → ℕ → KeyPool → ℕ → ℕ
pool_refusal form p message bytes pool out =
    first_of
    (refusal p.n p.r p.z p.counts
    ∷ number_if 5 (ltb max_message message)
    ∷ number_if 16 (pool_refused pool bytes (needed form p message))
    ∷ number_if 10 (not (eqb out (output_bytes p (blocks_in form p message))))
    ∷ [])

-- accepted: the bytes of a share, N × b
unfoldable pub pool_answer : Form → Parameters → ℕ → ℕ → KeyPool → ℕ → Outcome
pool_answer form p message bytes pool out = answer (pool_refusal form p message bytes pool out) (share_bytes p (blocks_in form p message) ∷ [])

-- so many bytes of a pool, from the record's position on
abbrev pub next_bytes : KeyPool → ℕ → List ℕ → List ℕ
next_bytes pool need bytes = take need (drop pool.position bytes)

-- the output after the call: all shares under the pool's next bytes, or what it held before where the call is refused
unfoldable pub pool_output : Form → Parameters → List ℕ → List ℕ → KeyPool → List ℕ → List ℕ
pool_output form p message bytes pool before =
    cond (eqb (pool_refusal form p (length message) (length bytes) pool (length before)) 0)
    (shares_in form p message (next_bytes pool (needed form p (length message)) bytes))
    before

-- the record, so many bytes further
abbrev pub moved_by : KeyPool → ℕ → KeyPool
moved_by pool bytes = record { length = pool.length; position = pool.position + bytes }

-- the record after the call: past the bytes that an accepted split took, or as it was
unfoldable pub pool_after : Form → Parameters → ℕ → ℕ → KeyPool → ℕ → KeyPool
pool_after form p message bytes pool out =
    cond (eqb (pool_refusal form p message bytes pool out) 0) (moved_by pool (needed form p message)) pool

-- a call, as its contract has it: what it answers, and what an output that held `before` and the record hold after it
pub record PoolSplitCall (form : Form) (p : Parameters) (message bytes : List ℕ) (pool : KeyPool) (before : List ℕ) (a : Result ℕ Refusal) (after : List ℕ) (next : KeyPool) : Type 0 where
  pub answered : outcome a ≡ pool_answer form p (length message) (length bytes) pool (length before)
  pub wrote : after ≡ pool_output form p message bytes pool before
  pub moved : next ≡ pool_after form p (length message) (length bytes) pool (length before)

-- ---- for the functions inside

-- the record after so many bytes are taken; unchanged where they are not there
unfoldable pub taken : KeyPool → ℕ → KeyPool
taken pool bytes = cond (leb pool.position pool.length && leb bytes (pool.length - pool.position)) (moved_by pool bytes) pool

-- the bytes that a split took which was lent so many, by its answer
abbrev pub took_if : Result ℕ Refusal → ℕ → ℕ
took_if (Ok share) need = need
took_if (Err q) need = 0
