-- Demand 2 of the request as one statement about a call of the opener. What the contract says of a call, and that the prefixes are bytes, settles that
-- an accepted one wrote the message's part of the one string of whole blocks that some keys turn into these prefixes, and answered the number of
-- their bytes. Nothing is asked of the scheme, the parties or the lengths: a call that was accepted has shown what it takes.
-- Assumes nothing.
use Rattle.std.specs.Prelude.{◌≡◌, List, ℕ, ◌-◌, ◌*◌, length, take, Err, Ok, Result}
use Rattle.lists.specs.Each.{Each, Byte}
use Rattle.scheme.specs.declared.refusal.Refusal.{Refusal}
use Rattle.staircase.specs.Parameters.{Parameters, block, prefix_rows, blocks_of}
use Rattle.staircase.specs.Exactness.{opened_string, Opened}
use Rattle.reader.specs.Reconstruct.{ReconstructCall}

-- what an accepted call did that answered `used`
pub record OpenedExactly (p : Parameters) (message : ℕ) (parties prefixes : List ℕ) (used : ℕ) (after : List ℕ) : Type 0 where
  -- some keys turn the opened string, which is whole blocks, into these prefixes, and no other whole blocks have them
  pub opened : Opened p message parties prefixes
  -- the output is that string cut to the message's length
  pub output : after ≡ take message (opened_string p parties (blocks_of p message) prefixes)
  pub long : length after ≡ message
  -- d × P × N bytes were used, all that were lent, and P × (d − z) = m: d × m ÷ (d − z) bytes for each block
  pub used_is : used ≡ length parties * prefix_rows p (length parties) * blocks_of p message
  pub used_all : used ≡ length prefixes
  pub rows_of-count : prefix_rows p (length parties) * (length parties - p.z) ≡ block p

-- what a call did, by its answer: a refused one left the output as it was
abbrev pub Opens : Parameters → ℕ → List ℕ → List ℕ → List ℕ → Result ℕ Refusal → List ℕ → Type 0
Opens p message parties prefixes before (Ok used) after = OpenedExactly p message parties prefixes used after
Opens p message parties prefixes before (Err q) after = after ≡ before

-- every call with prefixes that are bytes (`exact_calls` in proofs/Opening.antt), whatever else it is given
abbrev pub ExactCalls : Parameters → Type 0
ExactCalls p =
    (message : ℕ) (parties prefixes before : List ℕ) (a : Result ℕ Refusal) (after : List ℕ) → Each Byte prefixes
    → ReconstructCall p message parties prefixes before a after → Opens p message parties prefixes before a after
