-- The lengths that belong to a message of so many bytes, in both forms: only the scheme and that length decide them.
-- Assumes nothing.
use Rattle.std.specs.Prelude.{List, [], ◌∷◌, ℕ, ◌*◌, ltb, Result, Ok, Err}
use Rattle.scheme.specs.declared.refusal.Refusal.{Refusal}
use Rattle.scheme.specs.declared.forms.Form.{Form}
use Rattle.scheme.specs.declared.forms.Form.TheVariants.{Earlier, Padded}
use Rattle.scheme.specs.Limits.{max_message}
use Rattle.scheme.specs.Refusals.{number}
use Rattle.scheme.specs.Outcome.{Outcome, accepted, refused, number_if, first_of, answer}
use Rattle.scheme.specs.Check.{refusal}
use Rattle.staircase.specs.Parameters.{Parameters, block, blocks_of, padded_blocks_of, key_bytes, share_bytes, output_bytes}
use Rattle.lengths.specs.declared.MessageLengths.{MessageLengths}

-- the blocks N, and the bytes of the keys, of a share, of all shares, and of what the opener writes
abbrev pub lengths_values : MessageLengths → List ℕ
lengths_values l = l.blocks ∷ l.keys ∷ l.share ∷ l.output ∷ l.opened ∷ []

-- the cases of the answer
abbrev pub lengths_outcome : Result MessageLengths Refusal → Outcome
lengths_outcome (Ok l) = accepted (lengths_values l)
lengths_outcome (Err q) = refused (number q)

-- the first refusal that applies to a message of so many bytes: those of a split that come before it looks at keys and output
unfoldable pub lengths_refusal : Parameters → ℕ → ℕ
lengths_refusal p message = first_of (refusal p.n p.r p.z p.counts ∷ number_if 5 (ltb max_message message) ∷ [])

-- of a message that makes N blocks, of which so many bytes are opened
unfoldable pub lengths_for : Parameters → ℕ → ℕ → ℕ → Outcome
lengths_for p message N opened =
    answer (lengths_refusal p message) (N ∷ key_bytes p N ∷ share_bytes p N ∷ output_bytes p N ∷ opened ∷ [])

-- the earlier form, of which the message alone is opened
abbrev pub lengths_answer : Parameters → ℕ → Outcome
lengths_answer p message = lengths_for p message (blocks_of p message) message

-- a padded message (document 02, a), of which whole blocks are opened
abbrev pub lengths_padded_answer : Parameters → ℕ → Outcome
lengths_padded_answer p message = lengths_for p message (padded_blocks_of p message) (padded_blocks_of p message * block p)

-- of a message of this form
abbrev pub lengths_in : Form → Parameters → ℕ → Outcome
lengths_in Earlier p message = lengths_answer p message
lengths_in Padded p message = lengths_padded_answer p message
