-- The call for the lengths of a message in words, as Calls.antt has it for the others; and that they serve: with the lengths that it answered no test of
-- a slice's length refuses a split, or an opening from prefixes of so many blocks, and with any other length one does. Over the form of message. proofs/LengthsCalls.antt proves it.
-- Assumes nothing.
use Rattle.std.specs.Prelude.{◌≡◌, true, ◌↔◌, ◌≢◌, List, [], ◌∷◌, ◌++◌, ℕ, ◌*◌, length, Err, Ok, Result}
use Rattle.lists.specs.Each.{occurs}
use Rattle.scheme.specs.Refusals as refusals
use Rattle.scheme.specs.declared.refusal.Refusal.{Refusal}
use Rattle.scheme.specs.Grounds.{Ground, ground, NoneApplies, FirstApplies, AnsweredBy}
use Rattle.scheme.specs.Readers.{Rising}
use Rattle.staircase.specs.Parameters.{Parameters, block, rows, prefix_rows, padded_blocks_of}
use Rattle.staircase.specs.Exactness.{opened_string}
use Rattle.lengths.specs.declared.MessageLengths.{MessageLengths}
use Rattle.lengths.specs.Lengths.{lengths_outcome, lengths_in}
use Rattle.scheme.specs.declared.forms.Form.{Form}
use Rattle.scheme.specs.declared.forms.Form.TheVariants.{Earlier, Padded}
use Rattle.dealer.specs.Forms.{blocks_in, SplitInCall}
use Rattle.reader.specs.declared.padded.PaddedOpening.{PaddedOpening}
use Rattle.reader.specs.Reconstruct.{ReconstructCall}
use Rattle.reader.specs.ReconstructPadded.{ReconstructPaddedCall}
use Rattle.sharing.specs.Calls.{scheme_lines, too_long}
use Rattle.sharing.specs.PaddedCalls.{no_end, PaddedAnsweredBy}

-- the bytes that the opener writes: the message, or whole blocks
abbrev pub opened_in : Form → Parameters → ℕ → ℕ
opened_in Earlier p message = message
opened_in Padded p message = padded_blocks_of p message * block p

-- ---- in words

-- a message of so many bytes
abbrev pub lengths_lines : Parameters → ℕ → List Ground
lengths_lines p message = scheme_lines p ++ (too_long message ∷ [])

-- N, N × z × b, N × b, n × N × b, and what is opened
pub record LengthsAre (form : Form) (p : Parameters) (message : ℕ) (l : MessageLengths) : Type 0 where
  pub blocks_is : l.blocks ≡ blocks_in form p message
  pub keys_is : l.keys ≡ blocks_in form p message * p.z * rows p
  pub share_is : l.share ≡ blocks_in form p message * rows p
  pub output_is : l.output ≡ p.n * blocks_in form p message * rows p
  pub opened_is : l.opened ≡ opened_in form p message

pub record LengthsInWords (form : Form) (p : Parameters) (message : ℕ) (a : Result MessageLengths Refusal) : Type 0 where
  pub accepts : ((l : MessageLengths) × (a ≡ Ok l)) ↔ NoneApplies (lengths_lines p message)
  pub refuses : (q : Refusal) → (a ≡ Err q) ↔ FirstApplies (refusals.number q) (lengths_lines p message)
  pub values_are : (l : MessageLengths) → a ≡ Ok l → LengthsAre form p message l

abbrev pub EveryLengths : Form → Parameters → Type 0
EveryLengths form p = (message : ℕ) (a : Result MessageLengths Refusal) → lengths_outcome a ≡ lengths_in form p message → LengthsInWords form p message a

-- two calls that fit the words, given the same, answered the same
abbrev pub LengthsWordsSettle : Form → Parameters → Type 0
LengthsWordsSettle form p =
    (message : ℕ) (a a' : Result MessageLengths Refusal) → LengthsInWords form p message a → LengthsInWords form p message a' → a ≡ a'

-- ---- the lengths serve, and no others do

-- of the tests of a split of a message of so many bytes those of keys and output are left: it is accepted exactly if both have these lengths, and then
-- answers that of a share
abbrev pub SplitsWith : Form → Parameters → ℕ → MessageLengths → Type 0
SplitsWith form p message l =
    (text keys before : List ℕ) (a : Result ℕ Refusal) (after : List ℕ) → length text ≡ message → SplitInCall form p text keys before a after
    → AnsweredBy (ground 8 (length keys ≢ l.keys) ∷ ground 10 (length before ≢ l.output) ∷ []) l.share a

-- of the tests of an opening from d parties and prefixes of N blocks that of the output is left, and of a padded message that of its end
abbrev pub OpensWith : Form → Parameters → ℕ → MessageLengths → Type 0
OpensWith Earlier p message l =
    (parties prefixes before : List ℕ) (a : Result ℕ Refusal) (after : List ℕ) → occurs (length parties) p.counts ≡ true → Rising 0 p.n parties
    → length prefixes ≡ length parties * prefix_rows p (length parties) * l.blocks → ReconstructCall p message parties prefixes before a after
    → AnsweredBy (ground 10 (length before ≢ l.opened) ∷ []) (length prefixes) a
OpensWith Padded p message l =
    (parties prefixes before : List ℕ) (a : Result PaddedOpening Refusal) (after : List ℕ) → occurs (length parties) p.counts ≡ true → Rising 0 p.n parties
    → length prefixes ≡ length parties * prefix_rows p (length parties) * l.blocks → ReconstructPaddedCall p parties prefixes before a after
    → PaddedAnsweredBy (ground 10 (length before ≢ l.opened) ∷ no_end p l.blocks (opened_string p parties l.blocks prefixes) ∷ []) a

-- by the answer: where it is a refusal, a split of such a message is refused with the same number, whatever keys and output it is lent
abbrev pub Serves : Form → Parameters → ℕ → Result MessageLengths Refusal → Type 0
Serves form p message (Ok l) = SplitsWith form p message l × OpensWith form p message l
Serves form p message (Err q) =
    (text keys before : List ℕ) (a : Result ℕ Refusal) (after : List ℕ) → length text ≡ message → SplitInCall form p text keys before a after → a ≡ Err q

abbrev pub LengthsServe : Form → Parameters → Type 0
LengthsServe form p = (message : ℕ) (a : Result MessageLengths Refusal) → lengths_outcome a ≡ lengths_in form p message → Serves form p message a
