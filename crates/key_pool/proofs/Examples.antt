-- Worked examples of the splits from a pool, by computing, in the scheme A, in which two bytes of the earlier form take two key bytes: the order of the
-- refusals, by two faults at once, the record and the bytes left on both sides of what is refused, and which bytes are the keys.
-- Assumes nothing.
use mathlib.Core.Path.{◌≡◌, refl}
use mathlib.Core.List.{[], ◌∷◌}
use Prim.Native.Nat.{ℕ}
use lib.ListN.{replicate}
use Rattle.lists.specs.FirstFrom.{first_from}
use Rattle.scheme.specs.Outcome.{accepted, first_of, answer}
use Rattle.scheme.specs.BlockLength.{divides, common_multiple, block_length}
use Rattle.scheme.specs.Check.{falls, parties_refused, thresholds_refused, counts_refused, block_refused, refusal, rows_of_block, block_count}
use Rattle.scheme.specs.Padding.{padded_count}
use Rattle.staircase.specs.Parameters.{parameters, scheme_a}
use Rattle.staircase.specs.Shares.{shares, padded_shares}
use Rattle.scheme.specs.declared.forms.Form.TheVariants.{Earlier, Padded}
use Rattle.key_pool.specs.declared.KeyPool.{KeyPool}
use Rattle.key_pool.specs.Pool.{pool_refused, pool_refusal, pool_answer, pool_output, pool_after}

abbrev at : ℕ → ℕ → KeyPool
at length position = record { length = length; position = position }

pub examples :
    -- the scheme before 5, 5 before 16, 16 before 10
    (pool_refusal Earlier (parameters 3 1 1 (3 ∷ [])) 16385 4 (at 3 9) 5 ≡ 3)
    × (pool_refusal Earlier scheme_a 16385 4 (at 3 9) 5 ≡ 5)
    × (pool_refusal Earlier scheme_a 2 4 (at 4 3) 5 ≡ 16)
    × (pool_refusal Earlier scheme_a 2 4 (at 4 2) 5 ≡ 10)
    -- just enough bytes are left, and one too few
    × (pool_answer Earlier scheme_a 2 4 (at 4 2) 6 ≡ accepted (2 ∷ []))
    × (pool_after Earlier scheme_a 2 4 (at 4 2) 6 ≡ at 4 4)
    × (pool_refusal Earlier scheme_a 2 4 (at 4 3) 6 ≡ 16)
    × (pool_after Earlier scheme_a 2 4 (at 4 3) 6 ≡ at 4 3)
    -- nothing is moved where the output does not fit
    × (pool_after Earlier scheme_a 2 4 (at 4 2) 5 ≡ at 4 2)
    -- an empty message takes nothing, so the end of the pool is enough; padded it takes a block's keys
    × (pool_answer Earlier scheme_a 0 4 (at 4 4) 0 ≡ accepted (0 ∷ []))
    × (pool_after Earlier scheme_a 0 4 (at 4 4) 0 ≡ at 4 4)
    × (pool_refusal Padded scheme_a 0 4 (at 4 3) 6 ≡ 16)
    × (pool_answer Padded scheme_a 0 4 (at 4 2) 6 ≡ accepted (2 ∷ []))
    × (pool_after Padded scheme_a 2 4 (at 4 0) 12 ≡ at 4 4)
    -- a position past the end, and a record of a pool of another length, on either side
    × (pool_refusal Earlier scheme_a 0 4 (at 4 5) 0 ≡ 16)
    × (pool_refusal Earlier scheme_a 0 4 (at 3 0) 0 ≡ 16)
    × (pool_refusal Earlier scheme_a 0 4 (at 5 0) 0 ≡ 16)
    -- the keys are those from the position on, rising
    × (pool_output Earlier scheme_a (5 ∷ 7 ∷ []) (1 ∷ 2 ∷ 9 ∷ 4 ∷ []) (at 4 2) (replicate 6 0) ≡ shares scheme_a (5 ∷ 7 ∷ []) (9 ∷ 4 ∷ []))
    × (pool_output Earlier scheme_a (5 ∷ 7 ∷ []) (1 ∷ 2 ∷ 9 ∷ 4 ∷ []) (at 4 1) (replicate 6 0) ≡ shares scheme_a (5 ∷ 7 ∷ []) (2 ∷ 9 ∷ []))
    × (pool_output Padded scheme_a (5 ∷ []) (1 ∷ 2 ∷ 9 ∷ 4 ∷ []) (at 4 0) (replicate 6 0) ≡ padded_shares scheme_a (5 ∷ []) (1 ∷ 2 ∷ []))
unfolding pool_output divides first_from common_multiple block_length falls parties_refused thresholds_refused counts_refused block_refused first_of answer refusal rows_of_block block_count padded_count pool_refused pool_refusal pool_answer pool_after
examples = (refl, refl, refl, refl, refl, refl, refl, refl, refl, refl, refl, refl, refl, refl, refl, refl, refl, refl, refl, refl)
