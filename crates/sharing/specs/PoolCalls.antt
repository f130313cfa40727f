-- Demand 1 of the request in words for the splits from a key pool (document 02, f), as Calls.antt has it for the others: the lines of the table that apply in
-- their order, what a call answers by them, and what it leaves, the pool's record included. proofs/PoolCalls.antt proves them.
-- Assumes nothing.
use Rattle.std.specs.Prelude.{◌≡◌, ◌⊎◌, ◌≢◌, List, [], ◌∷◌, ◌++◌, ℕ, ◌-◌, ◌*◌, ◌<◌, length, Err, Ok, Result}
use Rattle.scheme.specs.declared.refusal.Refusal.{Refusal}
use Rattle.scheme.specs.Grounds.{Ground, ground, AnsweredBy}
use Rattle.staircase.specs.Parameters.{Parameters, rows}
use Rattle.scheme.specs.declared.forms.Form.{Form}
use Rattle.key_pool.specs.declared.KeyPool.{KeyPool}
use Rattle.dealer.specs.Forms.{blocks_in, shares_in}
use Rattle.key_pool.specs.Pool.{needed, next_bytes, moved_by, PoolSplitCall}
use Rattle.sharing.specs.Calls.{scheme_lines, too_long}

-- line 16, for a split that takes so many bytes: the record's length is not the pool's, or its position is past it, or fewer bytes are left
abbrev pub not_enough : KeyPool → ℕ → ℕ → Ground
not_enough pool bytes need = ground 16 ((pool.length ≢ bytes) ⊎ (pool.length < pool.position) ⊎ (pool.length - pool.position < need))

-- a message, a pool and an output of so many bytes, with this record; 16 stands in the place of 8
abbrev pub pool_lines : Form → Parameters → ℕ → ℕ → KeyPool → ℕ → List Ground
pool_lines form p message bytes pool out =
    scheme_lines p
    ++ (too_long message
    ∷ not_enough pool bytes (blocks_in form p message * p.z * rows p)
    ∷ ground 10 (out ≢ p.n * blocks_in form p message * rows p)
    ∷ [])

-- accepted: all shares under the pool's next N × z × b bytes, and the record moved past these; refused: output and record as they were
abbrev pub PoolLeft : Form → Parameters → List ℕ → List ℕ → KeyPool → List ℕ → Result ℕ Refusal → List ℕ → KeyPool → Type 0
PoolLeft form p message bytes pool before (Ok share) after next =
    (after ≡ shares_in form p message (next_bytes pool (needed form p (length message)) bytes))
    × (length after ≡ length before)
    × (next ≡ moved_by pool (needed form p (length message)))
PoolLeft form p message bytes pool before (Err q) after next = (after ≡ before) × (next ≡ pool)

-- it answers N × b, the bytes of a share
pub record PoolSplitInWords (form : Form) (p : Parameters) (message bytes : List ℕ) (pool : KeyPool) (before : List ℕ) (a : Result ℕ Refusal) (after : List ℕ) (next : KeyPool) : Type 0 where
  pub answered : AnsweredBy (pool_lines form p (length message) (length bytes) pool (length before)) (blocks_in form p (length message) * rows p) a
  pub left : PoolLeft form p message bytes pool before a after next

abbrev pub EveryPoolSplit : Form → Parameters → Type 0
EveryPoolSplit form p =
    (message bytes : List ℕ) (pool : KeyPool) (before : List ℕ) (a : Result ℕ Refusal) (after : List ℕ) (next : KeyPool)
    → PoolSplitCall form p message bytes pool before a after next → PoolSplitInWords form p message bytes pool before a after next

-- two calls that fit the words, given the same, answered and left the same
abbrev pub PoolWordsSettle : Form → Parameters → Type 0
PoolWordsSettle form p =
    (message bytes : List ℕ) (pool : KeyPool) (before : List ℕ) (a a' : Result ℕ Refusal) (after after' : List ℕ) (next next' : KeyPool)
    → PoolSplitInWords form p message bytes pool before a after next → PoolSplitInWords form p message bytes pool before a' after' next'
    → (a ≡ a') × (after ≡ after') × (next ≡ next')
