-- The splitter of padded messages (document 02, a): its answer, which only the scheme and the three lengths decide, and its output.
-- Assumes nothing.
use Rattle.std.specs.Prelude.{◌≡◌, cond, not, List, [], ◌∷◌, ℕ, ltb, eqb, length, Result}
use Rattle.scheme.specs.Limits.{max_message}
use Rattle.scheme.specs.declared.refusal.Refusal.{Refusal}
use Rattle.scheme.specs.Outcome.{Outcome, number_if, first_of, answer, outcome}
use Rattle.scheme.specs.Check.{refusal}
use Rattle.staircase.specs.Parameters.{Parameters, padded_blocks_of, key_bytes, share_bytes, output_bytes}
use Rattle.staircase.specs.Shares.{padded_shares}

-- the first refusal that applies to a message, keys and an output of so many bytes
unfoldable pub split_padded_refusal : Parameters → ℕ → ℕ → ℕ → ℕ
split_padded_refusal p message keys out =
    let N : ℕ = padded_blocks_of p message in
    first_of
    (refusal p.n p.r p.z p.counts
    ∷ number_if 5 (ltb max_message message)
    ∷ number_if 8 (not (eqb keys (key_bytes p N)))
    ∷ number_if 10 (not (eqb out (output_bytes p N)))
    ∷ [])

-- accepted: the bytes of a share, N × b
unfoldable pub split_padded_answer : Parameters → ℕ → ℕ → ℕ → Outcome
split_padded_answer p message keys out = answer (split_padded_refusal p message keys out) (share_bytes p (padded_blocks_of p message) ∷ [])

-- the output after the call: all shares, or what it held before where the call is refused
unfoldable pub split_padded_output : Parameters → List ℕ → List ℕ → List ℕ → List ℕ
split_padded_output p message keys before =
    cond (eqb (split_padded_refusal p (length message) (length keys) (length before)) 0) (padded_shares p message keys) before

-- a call of it, as its contract has it: what it answers, and what an output that held `before` holds after it
abbrev pub SplitPaddedCall : Parameters → List ℕ → List ℕ → List ℕ → Result ℕ Refusal → List ℕ → Type 0
SplitPaddedCall p message keys before a after =
    (outcome a ≡ split_padded_answer p (length message) (length keys) (length before)) × (after ≡ split_padded_output p message keys before)
