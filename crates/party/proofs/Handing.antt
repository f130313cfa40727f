-- What holds where a prefix is handed out, and that it is never cut short: P is at most b. For both forms of message.
-- Assumes nothing.
use mathlib.Core.Path.{◌≡◌, sym, ◌∙◌}
use mathlib.Core.Bool.{true, false, cond, not}
use mathlib.Core.List.{List, [], ◌∷◌}
use Prim.Native.Nat.{ℕ, ◌*◌, ◌/◌, ◌≤◌, ◌<◌}
use native.Mathlib.Nat.{mul-le-mul_right, mul_comm, le_refl}
use native.Mathlib.Omega.{arith}
use lib.Dec.{ltb, eqb}
use lib.ListN.{length, take}
use lib.Seq.{length-take-le}
use borrow.Author.Tests.{eqb-true, not-false}
use Rattle.lists.specs.Each.{occurs}
use Rattle.lists.proofs.Tests.{test_positive}
use Rattle.scheme.specs.declared.accepted.Scheme.{Scheme}
use Rattle.std.specs.Prelude.{Result, Ok, Err}
use Rattle.scheme.specs.declared.refusal.Refusal.{Refusal}
use Rattle.scheme.specs.Facts.{SchemeIs}
use Rattle.scheme.specs.Limits.{max_message, max_blocks}
use Rattle.scheme.specs.Outcome.{outcome, answer}
use Rattle.scheme.specs.Check.{rows_of_count, block_count}
use Rattle.scheme.specs.Padding.{most_padded, blocks_held}
use Rattle.staircase.specs.Parameters.{Parameters, AcceptedScheme, block, rows}
use Rattle.party.specs.Prefix.{prefix_refusal, prefix_length, prefix_answer, prefix_of}
use Rattle.party.specs.PrefixPadded.{blocks_kept, prefix_padded_refusal, prefix_padded_length, prefix_padded_answer, prefix_padded_of}
use Rattle.scheme.proofs.Laws.{first_none, first_if, kept, told-refused, told-accepted, held-told, held_quotient, padded_count_few}
use Rattle.staircase.proofs.Sizes.{rows-within, blocks_are}

-- the code's P × N: s is what the check answers, N the blocks of the message and P the rows of d
pub prefix_length_is : (p : Parameters) (s : Scheme) → SchemeIs s p.n p.r p.z p.counts → (message d N P : ℕ)
    → N ≡ block_count s.block message → P ≡ rows_of_count s.block s.z d → P * N ≡ prefix_length p message d
unfolding prefix_length
prefix_length_is p s is message d N P N_is P-is = rw (P-is, blocks_are p s is message N N_is, is.block_is, is.z_is)

-- and N of a share of a padded message, which the share's length tells; more are not accepted than a message makes
module _ (p : Parameters) (s : Scheme) (is : SchemeIs s p.n p.r p.z p.counts) (share N : ℕ) (N_is : N ≡ blocks_held (most_padded s.block) s.rows share) where
  pub kept_is : N ≡ blocks_kept p share
  unfolding blocks_kept
  kept_is = N_is ∙ rw (is.block_is, is.rows_is)

  pub kept_few : 0 < N → N ≤ max_blocks
  kept_few some =
      let told = (held-told (most_padded s.block) s.rows share (rw N_is at some)).1 in
      omega (arith, N_is, told, padded_count_few s.block max_message (le_refl max_message))

  pub padded_length_is : (d P : ℕ) → P ≡ rows_of_count s.block s.z d → P * N ≡ prefix_padded_length p d share
  unfolding prefix_padded_length
  padded_length_is d P P-is = rw (P-is, kept_is, is.block_is, is.z_is)

-- ---- what holds where no refusal applies

pub record Handed (p : Parameters) (N d share : ℕ) : Type 0 where
  pub good : AcceptedScheme p
  pub count : occurs d p.counts ≡ true
  pub long : share ≡ N * rows p

-- then the share has all bytes of the prefix
within : (p : Parameters) (N d share : ℕ) → Handed p N d share → rows_of_count (block p) p.z d * N ≤ share
within p N d share h =
    let P : ℕ = rows_of_count (block p) p.z d in
    omega (arith, h.long, mul_comm N (rows p), mul-le-mul_right N (rows-within p h.good d h.count))

pub prefix-handed : (p : Parameters) (message d share : ℕ) → prefix_refusal p message d share ≡ 0 → Handed p (block_count (block p) message) d share
unfolding prefix_refusal
prefix-handed p message d share e =
    let scheme = first_none _ _ e in
    let five = first_if 4 (ltb max_message message) _ scheme.1 in
    let six = first_if 5 (not (occurs d p.counts)) _ five.1 in
    let nine = first_if _ _ _ six.1 in
    record { good = scheme.0; count = not-false (occurs d p.counts) six.0; long = eqb-true _ _ (not-false _ nine.0) }

module _ (p : Parameters) (d share : ℕ) (e : prefix_padded_refusal p d share ≡ 0) where
  passes : AcceptedScheme p × (occurs d p.counts ≡ true) × (eqb (blocks_kept p share) 0 ≡ false)
  unfolding prefix_padded_refusal
  passes =
      let scheme = first_none _ _ e in
      let six = first_if 5 (not (occurs d p.counts)) _ scheme.1 in
      let nine = first_if 8 (eqb (blocks_kept p share) 0) [] six.1 in
      (scheme.0, not-false (occurs d p.counts) six.0, nine.0)

  -- there is a block, and the share's length tells how many there are
  pub padded_some : 0 < blocks_kept p share
  padded_some = test_positive (blocks_kept p share) passes.2

  pub padded_quotient : blocks_kept p share ≡ share / rows p
  unfolding blocks_kept
  padded_quotient = held_quotient (most_padded (block p)) (rows p) share padded_some

  pub padded-handed : Handed p (blocks_kept p share) d share
  unfolding blocks_kept
  padded-handed = record { good = passes.0; count = passes.1; long = (held-told (most_padded (block p)) (rows p) share padded_some).0 }

pub prefix-within : (p : Parameters) (message d share : ℕ) → prefix_refusal p message d share ≡ 0 → prefix_length p message d ≤ share
unfolding prefix_length
prefix-within p message d share e = within p _ d share (prefix-handed p message d share e)

pub padded-within : (p : Parameters) (d share : ℕ) → prefix_padded_refusal p d share ≡ 0 → prefix_padded_length p d share ≤ share
unfolding prefix_padded_length
padded-within p d share e = within p _ d share (padded-handed p d share e)

-- ---- the prefix itself: k is the refusal, 0 where none applies, and then the prefix has v of the share's bytes

module _ (k v : ℕ) (share : List ℕ) (whole : k ≡ 0 → v ≤ length share) where
  abbrev part : List ℕ
  part = cond (eqb k 0) (take v share) []

  -- it is as long as is answered
  part_whole : k ≡ 0 → length part ≡ v
  part_whole e = simp e (length-take-le v share (whole e))

  -- the code's two ways out, from the answer a for the length
  module _ (a : Result ℕ Refusal) (e : outcome a ≡ answer k (v ∷ [])) where
    part_none : {q : Refusal} → a ≡ Err q → [] ≡ part
    part_none told = kept _ (told-refused a k v e told)

    module _ (bytes : ℕ) (told : a ≡ Ok bytes) where
      part_long : bytes ≡ length (take bytes share)
      part_long =
          let passed = told-accepted a k v e told in
          sym (length-take-le bytes share (rw passed.1 (whole passed.0)))

      part_is : take bytes share ≡ part
      part_is = let passed = told-accepted a k v e told in rw (passed.1, passed.0)

-- of either form
module _ (p : Parameters) (message d : ℕ) (share : List ℕ) where
  pub prefix_whole : prefix_refusal p message d (length share) ≡ 0 → length (prefix_of p message d share) ≡ prefix_length p message d
  unfolding prefix_of
  prefix_whole = part_whole _ _ share (prefix-within p message d (length share))

  module _ (a : Result ℕ Refusal) (e : outcome a ≡ prefix_answer p message d (length share)) where
    pub prefix_none : {q : Refusal} → a ≡ Err q → [] ≡ prefix_of p message d share
    unfolding prefix_answer prefix_of
    prefix_none = part_none _ _ share (prefix-within p message d (length share)) a e

    pub prefix_long : (bytes : ℕ) → a ≡ Ok bytes → bytes ≡ length (take bytes share)
    unfolding prefix_answer
    prefix_long = part_long _ _ share (prefix-within p message d (length share)) a e

    pub prefix_is : (bytes : ℕ) → a ≡ Ok bytes → take bytes share ≡ prefix_of p message d share
    unfolding prefix_answer prefix_of
    prefix_is = part_is _ _ share (prefix-within p message d (length share)) a e

module _ (p : Parameters) (d : ℕ) (share : List ℕ) where
  pub padded_whole : prefix_padded_refusal p d (length share) ≡ 0 → length (prefix_padded_of p d share) ≡ prefix_padded_length p d (length share)
  unfolding prefix_padded_of
  padded_whole = part_whole _ _ share (padded-within p d (length share))

  module _ (a : Result ℕ Refusal) (e : outcome a ≡ prefix_padded_answer p d (length share)) where
    pub padded_none : {q : Refusal} → a ≡ Err q → [] ≡ prefix_padded_of p d share
    unfolding prefix_padded_answer prefix_padded_of
    padded_none = part_none _ _ share (padded-within p d (length share)) a e

    pub padded_long : (bytes : ℕ) → a ≡ Ok bytes → bytes ≡ length (take bytes share)
    unfolding prefix_padded_answer
    padded_long = part_long _ _ share (padded-within p d (length share)) a e

    pub padded_is : (bytes : ℕ) → a ≡ Ok bytes → take bytes share ≡ prefix_padded_of p d share
    unfolding prefix_padded_answer prefix_padded_of
    padded_is = part_is _ _ share (padded-within p d (length share)) a e
