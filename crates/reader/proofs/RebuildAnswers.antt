-- What the rebuilding answers and writes: at each way out before the shares are looked at, and at the end; and that the code's numbers fit.
-- Assumes nothing.
use mathlib.Core.Path.{◌≡◌, refl, sym, ap, ap₂, subst, ◌∙◌}
use mathlib.Core.Bool.{true, false, cond, not}
use mathlib.Core.List.{List, [], ◌∷◌}
use mathlib.Core.Logic.{⊎_elim}
use Prim.Native.Nat.{ℕ, ◌-◌, ◌*◌, ◌≤◌, ◌<◌}
use native.Mathlib.Nat.{mul-le-mul, mul-le-mul_right, mul_comm, eq-zero-or-pos, le_of_eq, le_refl}
use native.Mathlib.Omega.{arith}
use lib.Dec.{eqb, ltb}
use lib.ListN.{length, get_or}
use borrow.Author.Tests.{le-ltb}
use Rattle.std.specs.Prelude.{Result, Ok, Err}
use Rattle.lists.proofs.Skipped.{without_past}
use Rattle.interpolation.specs.Interpolation.{side}
use Rattle.scheme.specs.declared.accepted.Scheme.{Scheme}
use Rattle.scheme.specs.declared.parameters.Parameters.{Parameters as Given}
use Rattle.scheme.specs.declared.refusal.Refusal.{Refusal}
use Rattle.scheme.specs.Check.{refusal, checked}
use Rattle.scheme.specs.Facts.{SchemeFacts}
use Rattle.scheme.specs.Limits.{max_block, max_blocks, max_message}
use Rattle.scheme.specs.Outcome.{Outcome, accepted, refused, number_if, first_of}
use Rattle.scheme.specs.Padding.{most_padded, blocks_held}
use Rattle.scheme.specs.Readers.{readers_refused}
use Rattle.scheme.specs.Refusals.{number}
use Rattle.scheme.proofs.Laws.{Way, done, pass, pass_false, pass_same, stop_true, stop_other, refuses, numbered, accepted-scheme, answer-number, scheme_own, held-told, padded_count_few, parties_few}
use Rattle.staircase.specs.Parameters.{Parameters, given_parameters, parameters_of, share_bytes}
use Rattle.rows.proofs.Scheme.{facts_of, rows_high}
use Rattle.agreement.specs.Agreement.{enough}
use Rattle.agreement.specs.Rebuild.{disagreeing, blocks_lent, wanted_refused, held_refused, lent_refusal, rebuild_answer, rebuild_output}
use Rattle.reader.specs.declared.lent.Lent.{Lent}
use Rattle.reader.specs.declared.rebuilding.RebuildRefusal.{RebuildRefusal}
use Rattle.reader.specs.declared.rebuilding.RebuildRefusal.TheVariants.{Disagreeing, Refused}
use Rattle.reader.specs.Agreeing.{Lending, RoomFits}
use Rattle.reader.specs.Lent.{RebuildsLent}
use Rattle.reader.specs.Rebuild.{RebuildCall}
use Rattle.reader.proofs.PaddedAnswers.{held_small}

-- ---- the ways out

-- the refusals before 18, in the table's order
abbrev pub refusals : Parameters → List ℕ → ℕ → ℕ → ℕ → ℕ → List ℕ
refusals p parties shares wanted held out =
    let N : ℕ = blocks_lent p (length parties) shares in
    refusal p.n p.r p.z p.counts
    ∷ number_if 7 (readers_refused p.n parties)
    ∷ number_if 7 (wanted_refused p.n wanted)
    ∷ number_if 17 (ltb (length parties) (enough p))
    ∷ number_if 9 (not (eqb shares (length parties * share_bytes p N)))
    ∷ number_if 9 (held_refused held (share_bytes p N))
    ∷ number_if 10 (not (eqb out (share_bytes p N)))
    ∷ []

-- a refusal before the shares are looked at
turns_away : {A : Type 0} {qs : List ℕ} {q : ℕ} {old : A} (new : Outcome) (other : A) → Way (0 ∷ []) qs (refused q)
    → (refused q ≡ cond (eqb (first_of qs) 0) new (refused (first_of qs))) × (old ≡ cond (eqb (first_of qs) 0) other old)
turns_away {qs = qs} {q = q} new other w =
    let r = refuses other w in
    let number : q ≡ first_of qs = ap (λ (o : Outcome). o.number) r.0 ∙ answer-number (first_of qs) (0 ∷ []) in
    ((refuses {old = refused q} new w).1 ∙ ap (λ (x : ℕ). cond (eqb (first_of qs) 0) new (refused x)) number, r.1)

pub refuses_call : (p : Parameters) (parties shares : List ℕ) (wanted : ℕ) (held before : List ℕ) (q : Refusal)
    → Way (0 ∷ []) (refusals p parties (length shares) wanted (length held) (length before)) (refused (number q))
    → RebuildCall p parties shares wanted held before (Err (Refused q)) before
unfolding lent_refusal rebuild_answer rebuild_output
refuses_call p parties shares wanted held before q w = turns_away _ _ w

-- no refusal but 18
pub ends : (l : Lent) (wanted : ℕ) (held before : List ℕ) → l.blocks ≡ blocks_lent (parameters_of l.scheme) (length l.parties.now) (length l.shares.now)
    → Way [] (refusals (parameters_of l.scheme) l.parties.now (length l.shares.now) wanted (length held) (length before)) (accepted [])
    → (a : Result ℕ RebuildRefusal) (after : List ℕ) → RebuildsLent l wanted held before a after
    → RebuildCall (parameters_of l.scheme) l.parties.now l.shares.now wanted held before a after
unfolding lent_refusal rebuild_answer rebuild_output
ends l wanted held before N_is way (Ok different) after R =
    (rw (numbered way, ← N_is, R.0) (ap (λ (x : ℕ). accepted (x ∷ [])) R.1), rw (numbered way, ← N_is, R.0) R.2)
ends l wanted held before N_is way (Err (Disagreeing party)) after R =
    (rw (numbered way, ← N_is, R.0) (ap disagreeing R.1), rw (numbered way, ← N_is, R.0) R.2)
ends l wanted held before N_is way (Err (Refused q)) after R = absurd R

-- ---- s is what the check answers for the parameters that the call is given

module _ (given : Given) (s : Scheme) (is : accepted (s.n ∷ s.r ∷ s.z ∷ s.block ∷ s.rows ∷ []) ≡ checked given.n given.r given.z given.counts.now)
    (counts : s.counts ≡ given.counts) where
  pub given_are : parameters_of s ≡ given_parameters given
  given_are =
      let S = accepted-scheme {s = s} is in
      rw (S.n_is, S.r_is, S.z_is, counts)

  pub turned : (parties shares : List ℕ) (wanted : ℕ) (held before : List ℕ) (q : Refusal)
      → Way (0 ∷ []) (refusals (parameters_of s) parties (length shares) wanted (length held) (length before)) (refused (number q))
      → RebuildCall (given_parameters given) parties shares wanted held before (Err (Refused q)) before
  turned parties shares wanted held before q w =
      subst (λ (p : Parameters). RebuildCall p parties shares wanted held before (Err (Refused q)) before) given_are
      (refuses_call (parameters_of s) parties shares wanted held before q w)

module _ (s : Scheme) where
  abbrev p : Parameters
  p = parameters_of s

  facts : SchemeFacts s.n s.r s.z s.counts.now s.block s.rows
  facts = facts_of s s.counts.now (scheme_own s)

  rows_short : s.rows ≤ s.block
  rows_short = rows_high s s.counts.now (scheme_own s)

  rows_few : s.rows ≤ max_block
  rows_few = omega (arith, rows_short, facts.limit)

  -- the parties are at most 16, so the bytes of a block in all their shares are few
  pub unit_few : (parties : List ℕ) → readers_refused s.n parties ≡ false → length parties * s.rows ≤ side * max_block
  unit_few parties rising = mul-le-mul (parties_few _ _ _ _ s.accepted.passed parties rising) rows_few

  -- the code's N, and what follows from it
  module _ (parties shares N : ℕ) (N_is : N ≡ blocks_held (most_padded s.block) (parties * s.rows) shares) where
    pub blocks_are : N ≡ blocks_lent p parties shares
    unfolding blocks_lent
    blocks_are = N_is ∙ rw (s.accepted.block_is, s.accepted.rows_is)

    size_is : N * s.rows ≡ share_bytes p (blocks_lent p parties shares)
    size_is = ap₂ ◌*◌ blocks_are s.accepted.rows_is

    pub blocks_high : N ≤ max_blocks
    blocks_high =
        ⊎_elim (λ (e : N ≡ 0). omega arith)
        (λ (h : 0 < N).
        let told : N ≤ most_padded s.block = rw N_is (held-told (most_padded s.block) (parties * s.rows) shares (rw N_is at h)).1 in
        omega (arith, told, padded_count_few s.block max_message (le_refl max_message)))
        (eq-zero-or-pos N)

    pub room_fits : RoomFits s N
    room_fits =
        record {
          blocks_fit = rw N_is (held_small s.block (parties * s.rows) shares facts.least.positive facts.limit);
          share_fits = omega (arith, mul-le-mul_right N rows_short, mul_comm s.block N);
        }

    pub size_small : N * s.rows ≤ max_blocks * max_block
    size_small = mul-le-mul blocks_high rows_few

    pub all_small : (list : List ℕ) → parties ≡ length list → readers_refused s.n list ≡ false → parties * (N * s.rows) ≤ side * (max_blocks * max_block)
    all_small list e rising =
        let few : parties ≤ side = rw e (parties_few _ _ _ _ s.accepted.passed list rising) in
        mul-le-mul few size_small

  -- what is lent
  pub lends : (parties shares : List ℕ) (N : ℕ) → readers_refused s.n parties ≡ false → s.n - s.r ≤ length parties → N ≤ max_blocks
      → length shares ≡ length parties * (N * s.rows) → ((i : ℕ) → get_or shares i 0 < 256) → Lending s parties N (length parties) shares
  lends parties shares N rising many high long bytes =
      record {
        passed = rising;
        blocks_high = high;
        shares_long = long ∙ ap (λ (x : ℕ). length parties * x) (mul_comm N s.rows);
        bytes = bytes;
        many = rw (without_past parties (length parties) (le_of_eq refl)) many;
      }

  -- ---- the ways through the refusals, once the parties are told: from there on the lengths decide

  module _ (parties shares : List ℕ) (wanted held before N : ℕ) (N_is : N ≡ blocks_held (most_padded s.block) (length parties * s.rows) (length shares))
      (rising : readers_refused s.n parties ≡ false) (inside : wanted_refused s.n wanted ≡ false) (many : s.n - s.r ≤ length parties) where
    size : N * s.rows ≡ share_bytes p (blocks_lent p (length parties) (length shares))
    size = size_is (length parties) (length shares) N N_is

    -- the refusals before 9 do not apply
    passed : {vs qs : List ℕ} {o : Outcome} → Way vs qs o
        → Way vs
        (refusal s.n s.r s.z s.counts.now
        ∷ number_if 7 (readers_refused s.n parties)
        ∷ number_if 7 (wanted_refused s.n wanted)
        ∷ number_if 17 (ltb (length parties) (enough p))
        ∷ qs)
        o
    passed way = pass s.accepted.passed (pass_false 7 rising (pass_false 7 inside (pass_false 17 (le-ltb _ _ many) way)))

    pub stop_length : {vs : List ℕ} → (length shares ≡ length parties * (N * s.rows) → ⊥) → Way vs (refusals p parties (length shares) wanted held before) (refused 9)
    stop_length other = passed (stop_other (λ q. other (q ∙ ap (λ (x : ℕ). length parties * x) (sym size))))

    module _ (long : length shares ≡ length parties * (N * s.rows)) where
      long_is : length shares ≡ length parties * share_bytes p (blocks_lent p (length parties) (length shares))
      long_is = long ∙ ap (λ (x : ℕ). length parties * x) size

      pub stop_copy : {vs : List ℕ} → held_refused held (N * s.rows) ≡ true → Way vs (refusals p parties (length shares) wanted held before) (refused 9)
      stop_copy other = passed (pass_same 9 long_is (stop_true (ap (held_refused held) (sym size) ∙ other)))

      module _ (like : held_refused held (N * s.rows) ≡ false) where
        pub stop_output : {vs : List ℕ} → (before ≡ N * s.rows → ⊥) → Way vs (refusals p parties (length shares) wanted held before) (refused 10)
        stop_output other = passed (pass_same 9 long_is (pass_false 9 (ap (held_refused held) (sym size) ∙ like) (stop_other (λ q. other (q ∙ sym size)))))

        pub pass_all : {vs : List ℕ} → before ≡ N * s.rows → Way vs (refusals p parties (length shares) wanted held before) (accepted vs)
        pass_all same = passed (pass_same 9 long_is (pass_false 9 (ap (held_refused held) (sym size) ∙ like) (pass_same 10 (same ∙ size) done)))
