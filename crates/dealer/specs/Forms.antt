-- The two forms of a message in one definition each: its blocks, its shares, the byte right after it, and a call of the splitter.
-- Assumes nothing.
use Rattle.std.specs.Prelude.{List, ℕ, Result}
use Rattle.scheme.specs.declared.refusal.Refusal.{Refusal}
use Rattle.scheme.specs.declared.forms.Form.{Form}
use Rattle.scheme.specs.declared.forms.Form.TheVariants.{Earlier, Padded}
use Rattle.scheme.specs.Forms.{blocks_of_length}
use Rattle.scheme.specs.Padding.{end_marker}
use Rattle.staircase.specs.Parameters.{Parameters, block}
use Rattle.staircase.specs.Shares.{shares, padded_shares}
use Rattle.dealer.specs.Split.{SplitCall}
use Rattle.dealer.specs.SplitPadded.{SplitPaddedCall}

-- document 01's N
abbrev pub blocks_in : Form → Parameters → ℕ → ℕ
blocks_in form p message = blocks_of_length form (block p) message

-- the shares of parties 1 to n, one after another
abbrev pub shares_in : Form → Parameters → List ℕ → List ℕ → List ℕ
shares_in Earlier p message keys = shares p message keys
shares_in Padded p message keys = padded_shares p message keys

-- the byte right after the message: zeros follow it to the end of its block
abbrev pub byte_after : Form → ℕ
byte_after Earlier = 0
byte_after Padded = end_marker

-- a call of the splitter that is lent its keys
abbrev pub SplitInCall : Form → Parameters → List ℕ → List ℕ → List ℕ → Result ℕ Refusal → List ℕ → Type 0
SplitInCall Earlier p message keys before a after = SplitCall p message keys before a after
SplitInCall Padded p message keys before a after = SplitPaddedCall p message keys before a after
