-- Demand 2 of the request for padded messages (document 02, a), as one statement about a call of their opener: an accepted one wrote the one string of
-- whole blocks that some keys turn into the prefixes, which is the message and its padding, and answered the number of their bytes and the message's
-- length. Nothing is asked of the scheme, the parties or the lengths: a call that was accepted has shown what it takes.
-- Assumes nothing.
use Rattle.std.specs.Prelude.{◌≡◌, List, ℕ, ◌-◌, ◌*◌, ◌≤◌, length, take, Err, Ok, Result}
use Rattle.lists.specs.Each.{Each, Byte}
use Rattle.scheme.specs.Limits.{max_message}
use Rattle.family.specs.Padding.{marked, EndsAt}
use Rattle.staircase.specs.Parameters.{Parameters, block, prefix_rows, padded_blocks_of}
use Rattle.staircase.specs.Exactness.{opened_string, OpenedBlocks}
use Rattle.scheme.specs.declared.refusal.Refusal.{Refusal}
use Rattle.reader.specs.declared.padded.PaddedOpening.{PaddedOpening}
use Rattle.reader.specs.ReconstructPadded.{ReconstructPaddedCall}

-- what an accepted call did that answered `used` and the message's length
pub record OpenedPaddedExactly (p : Parameters) (parties prefixes : List ℕ) (used message : ℕ) (after : List ℕ) : Type 0 where
  -- the length is accepted; its blocks are N
  pub short : message ≤ max_message
  -- some keys turn the opened string, N whole blocks, into these prefixes, and no other whole blocks have them
  pub opened : OpenedBlocks p (padded_blocks_of p message) parties prefixes
  -- the output is that string, whole
  pub output : after ≡ opened_string p parties (padded_blocks_of p message) prefixes
  pub long : length after ≡ padded_blocks_of p message * block p
  -- it ends as a padded message of that length does, and so it is one: that of its own beginning
  pub ends : EndsAt (block p) (padded_blocks_of p message) after message
  pub padding_is : after ≡ marked (block p) (take message after)
  pub message_long : length (take message after) ≡ message
  -- d × P × N bytes were used, all that were lent, and P × (d − z) = m: d × m ÷ (d − z) bytes for each block
  pub used_is : used ≡ length parties * prefix_rows p (length parties) * padded_blocks_of p message
  pub used_all : used ≡ length prefixes
  pub rows_of-count : prefix_rows p (length parties) * (length parties - p.z) ≡ block p

-- what a call did, by its answer: a refused one left the output as it was
abbrev pub OpensPadded : Parameters → List ℕ → List ℕ → List ℕ → Result PaddedOpening Refusal → List ℕ → Type 0
OpensPadded p parties prefixes before (Ok opening) after = OpenedPaddedExactly p parties prefixes opening.used opening.length after
OpensPadded p parties prefixes before (Err q) after = after ≡ before

-- every call with prefixes that are bytes (`padded_exact_calls` in proofs/OpeningPadded.antt), whatever else it is given
abbrev pub PaddedExactCalls : Parameters → Type 0
PaddedExactCalls p =
    (parties prefixes before : List ℕ) (a : Result PaddedOpening Refusal) (after : List ℕ) → Each Byte prefixes
    → ReconstructPaddedCall p parties prefixes before a after → OpensPadded p parties prefixes before a after
