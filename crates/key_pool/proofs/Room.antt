-- Laws of the record of a pool: what refusal 16 tests and leaves room for, and the record after bytes are taken.
-- Assumes nothing.
use mathlib.Core.Path.{◌≡◌, refl}
use mathlib.Core.Bool.{Bool, true, false, cond, ◌&&◌, ◌||◌}
use Prim.Native.Nat.{ℕ, ◌+◌, ◌-◌, ◌≤◌}
use native.Mathlib.Nat.{add-zero}
use native.Mathlib.Omega.{arith}
use lib.Dec.{ltb, leb}
use borrow.Author.Tests.{ltb-false, eqb-true, not-false, le-leb}
use Rattle.lists.proofs.Tests.{neither}
use Rattle.key_pool.specs.declared.KeyPool.{KeyPool}
use Rattle.key_pool.specs.Pool.{pool_refused, moved_by, taken}

-- where refusal 16 does not apply
pub record Room (pool : KeyPool) (bytes need : ℕ) : Type 0 where
  pub same : pool.length ≡ bytes
  pub inside : pool.position + need ≤ pool.length

pub room : (pool : KeyPool) (bytes need : ℕ) → pool_refused pool bytes need ≡ false → Room pool bytes need
unfolding pool_refused
room pool bytes need e =
    let first = neither _ (ltb pool.length pool.position || ltb (pool.length - pool.position) need) e in
    let left = neither _ (ltb (pool.length - pool.position) need) first.1 in
    let inside : pool.position ≤ pool.length = ltb-false _ _ left.0 in
    let enough : need ≤ pool.length - pool.position = ltb-false _ _ left.1 in
    record { same = eqb-true _ _ (not-false _ first.0); inside = omega arith }

-- none is taken
kept_as : (pool : KeyPool) (t : Bool) → cond t (moved_by pool 0) pool ≡ pool
kept_as pool true = rw (add-zero pool.position)
kept_as pool false = refl

pub taken_none : (pool : KeyPool) → taken pool 0 ≡ pool
unfolding taken
taken_none pool = kept_as pool (leb pool.position pool.length && leb 0 (pool.length - pool.position))

-- so many are there
pub taken_some : (pool : KeyPool) (bytes : ℕ) → pool.position + bytes ≤ pool.length → taken pool bytes ≡ moved_by pool bytes
unfolding taken
taken_some pool bytes h =
    let inside : pool.position ≤ pool.length = omega arith in
    let enough : bytes ≤ pool.length - pool.position = omega arith in
    simp (le-leb _ _ inside, le-leb _ _ enough)
