-- What is told of a message's lengths, and where they are refused: past the tests the scheme is accepted and the message is not too long.
-- Assumes nothing.
use mathlib.Core.Path.{◌≡◌, ap, ◌∙◌}
use mathlib.Core.List.{[], ◌∷◌}
use Prim.Native.Nat.{ℕ, ◌*◌, ◌≤◌, ◌<◌}
use native.Mathlib.Nat.{div-le_self}
use native.Mathlib.Omega.{arith}
use borrow.Author.Tests.{ltb-false}
use Rattle.std.specs.Prelude.{Ok, Err}
use Rattle.scheme.specs.declared.refusal.Refusal.{Refusal}
use Rattle.scheme.specs.declared.refusal.Refusal.TheVariants.{MessageLength}
use Rattle.scheme.specs.declared.forms.Form.{Form}
use Rattle.scheme.specs.declared.forms.Form.TheVariants.{Earlier, Padded}
use Rattle.scheme.specs.declared.accepted.Scheme.{Scheme}
use Rattle.scheme.specs.Facts.{SchemeIs}
use Rattle.scheme.specs.Forms.{blocks_answer}
use Rattle.scheme.specs.Limits.{max_block, max_message, max_blocks}
use Rattle.scheme.specs.Refusals.{number}
use Rattle.scheme.specs.Outcome.{accepted, refused}
use Rattle.scheme.specs.Padding.{padded_count}
use Rattle.scheme.specs.Check.{checked}
use Rattle.scheme.proofs.Laws.{blocks_told, blocks_refused, scheme_own, answers, done, pass, stop_scheme, stop_over, pass_within, first_none, first_if}
use Rattle.staircase.specs.Parameters.{Parameters, AcceptedScheme, parameters_of}
use Rattle.staircase.proofs.Sizes.{block_most, blocks_few, rows_most}
use Rattle.lengths.specs.declared.MessageLengths.{MessageLengths}
use Rattle.lengths.specs.Lengths.{lengths_values, lengths_refusal, lengths_for, lengths_in}

pub none_refused : (p : Parameters) (message : ℕ) → lengths_refusal p message ≡ 0 → AcceptedScheme p × (message ≤ max_message)
unfolding lengths_refusal
none_refused p message e =
    let scheme = first_none _ _ e in
    (scheme.0, ltb-false max_message message (first_if _ _ _ scheme.1).0)

-- ---- the blocks of a message that is not too long are few, with few rows and bytes each

pub block_small : (s : Scheme) → s.block ≤ max_block
block_small s = rw s.accepted.block_is (block_most (parameters_of s) s.accepted.passed)

pub rows_small : (s : Scheme) → s.rows ≤ max_block
rows_small s = rw s.accepted.rows_is (rows_most (parameters_of s) s.accepted.passed)

pub told-few : (form : Form) (s : Scheme) (message N : ℕ) → Ok N ≡ blocks_answer form s.block message → N ≤ max_blocks
unfolding padded_count
told-few Earlier s message N e =
    let told = blocks_told Earlier s.block message N e in
    blocks_few (parameters_of s) s (scheme_own s) message N told.0 told.1
told-few Padded s message N e =
    let told = blocks_told Padded s.block message N e in
    omega (arith, told.0, told.1, div-le_self message s.block)

-- ---- the ways out of the call, in either form

-- what is opened of N blocks of m bytes
abbrev pub opened : Form → ℕ → ℕ → ℕ → ℕ
opened Earlier m message N = message
opened Padded m message N = N * m

module _ (p : Parameters) (message : ℕ) where
  for_stopped : (q : Refusal) → refused (number q) ≡ checked p.n p.r p.z p.counts → (N opened : ℕ) → refused (number q) ≡ lengths_for p message N opened
  unfolding lengths_for lengths_refusal
  for_stopped q e N opened = answers (stop_scheme p.n p.r p.z p.counts q e)

  pub stopped : (form : Form) (q : Refusal) → refused (number q) ≡ checked p.n p.r p.z p.counts → refused (number q) ≡ lengths_in form p message
  stopped Earlier q e = for_stopped q e _ _
  stopped Padded q e = for_stopped q e _ _

  module _ (s : Scheme) (is : SchemeIs s p.n p.r p.z p.counts) where
    for-long : (q : Refusal) → q ≡ MessageLength → max_message < message → (N opened : ℕ) → refused (number q) ≡ lengths_for p message N opened
    unfolding lengths_for lengths_refusal
    for-long q e above N opened = rw e (answers (pass is.passed (stop_over above)))

    pub long : (form : Form) (q : Refusal) → Err q ≡ blocks_answer form s.block message → refused (number q) ≡ lengths_in form p message
    long Earlier q e = let told = blocks_refused Earlier s.block message q e in for-long q told.0 told.1 _ _
    long Padded q e = let told = blocks_refused Padded s.block message q e in for-long q told.0 told.1 _ _

    for-told : message ≤ max_message → (N opened : ℕ) (l : MessageLengths)
        → lengths_values l ≡ N ∷ N * s.z * s.rows ∷ N * s.rows ∷ s.n * N * s.rows ∷ opened ∷ []
        → accepted (lengths_values l) ≡ lengths_for p message N opened
    unfolding lengths_for lengths_refusal
    for-told short N opened l values =
        ap accepted (values ∙ rw (is.n_is, is.z_is, is.rows_is)) ∙ answers (pass is.passed (pass_within 5 short done))

    pub lengths-told : (form : Form) (N : ℕ) → Ok N ≡ blocks_answer form s.block message → (l : MessageLengths)
        → lengths_values l ≡ N ∷ N * s.z * s.rows ∷ N * s.rows ∷ s.n * N * s.rows ∷ opened form s.block message N ∷ []
        → accepted (lengths_values l) ≡ lengths_in form p message
    lengths-told Earlier N e l values =
        let told = blocks_told Earlier s.block message N e in
        rw (← is.block_is, ← told.0) (for-told told.1 N message l values)
    lengths-told Padded N e l values =
        let told = blocks_told Padded s.block message N e in
        rw (← is.block_is, ← told.0) (for-told told.1 N (N * s.block) l values)
