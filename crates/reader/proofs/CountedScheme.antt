-- An accepted scheme and its count d, in the code's numbers.
-- Assumes nothing.
use mathlib.Core.Path.{◌≡◌, refl, sym}
use mathlib.Core.Bool.{true}
use mathlib.Core.List.{List, [], ◌∷◌}
use Prim.Native.Nat.{ℕ, ◌*◌, ◌≤◌}
use native.Mathlib.Nat.{mul-le-mul}
use native.Mathlib.Omega.{arith}
use Rattle.lists.specs.Each.{occurs}
use Rattle.lists.proofs.Each.{occurs-place}
use Rattle.interpolation.specs.Interpolation.{side}
use Rattle.scheme.specs.declared.accepted.Scheme.{Scheme}
use Rattle.scheme.specs.declared.parameters.Parameters.{Parameters as Given}
use Rattle.scheme.specs.Outcome.{accepted}
use Rattle.scheme.specs.Check.{checked}
use Rattle.scheme.specs.Facts.{SchemeFacts, SchemeIs}
use Rattle.scheme.specs.Limits.{max_block, max_blocks}
use Rattle.scheme.proofs.Laws.{accepted-scheme, scheme_own}
use Rattle.staircase.specs.Parameters.{given_parameters, parameters_of}
use Rattle.staircase.proofs.Sizes.{rows_few}
use Rattle.rows.proofs.Scheme.{facts_of}
use Rattle.order.proofs.ReadingOrder.{CountIn}
use Rattle.reader.specs.Decoding.{sent_rows, sent_bytes, Counted, Input}

-- the parameters that a call was given are those of the scheme that the check answered
pub given_own : (given : Given) (s : Scheme) → accepted (s.n ∷ s.r ∷ s.z ∷ s.block ∷ s.rows ∷ []) ≡ checked given.n given.r given.z given.counts.now
    → s.counts ≡ given.counts → given_parameters given ≡ parameters_of s
given_own given s e lent =
    let is : SchemeIs s given.n given.r given.z given.counts.now = accepted-scheme e in
    rw (is.n_is, is.r_is, is.z_is, lent) refl

-- d is one of its counts
pub counted_own : (s : Scheme) (d : ℕ) → occurs d s.counts.now ≡ true → Counted s s.counts.now d
counted_own s d h = record { scheme = scheme_own s; count = h }

module _ {s : Scheme} {ds : List ℕ} {d : ℕ} (C : Counted s ds d) where
  pub A : SchemeFacts s.n s.r s.z ds s.block s.rows
  A = facts_of s ds C.scheme

  -- its place among the counts
  pub count_in : CountIn s.block s.rows s.z ds d
  count_in =
      let found = occurs-place d ds C.count in
      record {
        n = s.n;
        r = s.r;
        facts = A;
        place = found.0;
        place_low = found.1;
        place_is = sym found.2;
      }

  pub count_high : d ≤ side
  count_high =
      let found = occurs-place d ds C.count in
      omega (arith, found.2, A.high found.0 found.1, A.sizes.parties_high)

  -- P is at most the block's bytes, and the bytes of a prefix are few
  pub rows_small : sent_rows s d ≤ max_block
  rows_small = rows_few s.block s.z d (sent_rows s d) A.limit refl

pub prefix_few : {s : Scheme} {ds : List ℕ} {d blocks : ℕ} {prefixes : List ℕ} → Input s ds d blocks prefixes
    → sent_rows s d * blocks ≤ max_block * max_blocks
prefix_few I = mul-le-mul (rows_small I.counted) I.blocks_high

-- and so are those of all prefixes
pub sent_few : {s : Scheme} {ds : List ℕ} {d blocks : ℕ} {prefixes : List ℕ} → Input s ds d blocks prefixes
    → sent_bytes s d blocks ≤ side * (max_block * max_blocks)
sent_few I = mul-le-mul (count_high I.counted) (prefix_few I)
