-- The two forms of a message: the blocks that one of so many bytes makes in each.
-- Assumes nothing.
use Rattle.std.specs.Prelude.{cond, ℕ, ltb, Result, Ok, Err}
use Rattle.scheme.specs.declared.refusal.Refusal.{Refusal}
use Rattle.scheme.specs.declared.refusal.Refusal.TheVariants.{MessageLength}
use Rattle.scheme.specs.declared.forms.Form.{Form}
use Rattle.scheme.specs.declared.forms.Form.TheVariants.{Earlier, Padded}
use Rattle.scheme.specs.Limits.{max_message}
use Rattle.scheme.specs.Check.{block_count}
use Rattle.scheme.specs.Padding.{padded_count}

-- the blocks, of this length, of a message of so many bytes
abbrev pub blocks_of_length : Form → ℕ → ℕ → ℕ
blocks_of_length Earlier m message = block_count m message
blocks_of_length Padded m message = padded_count m message

-- what is answered where they are asked for: refusal 5 for a message that is too long
unfoldable pub blocks_answer : Form → ℕ → ℕ → Result ℕ Refusal
blocks_answer form m message = cond (ltb max_message message) (Err MessageLength) (Ok (blocks_of_length form m message))
