-- Request e of document 02, the opener for a range, in words: the lines of the table that apply to a call of it in their order, what an accepted one did,
-- that the rows not taken change nothing, and that the range of what was split is the message's. Which rows are taken is `CountedRows` in
-- crates/reader/specs/Range.antt. Nothing is asked of the scheme, the parties, the range or the lengths: a call that was accepted has shown what it takes.
-- Assumes nothing.
use Rattle.std.specs.Prelude.{◌≡◌, true, ◌≢◌, List, [], ◌∷◌, ◌++◌, ℕ, ◌+◌, ◌*◌, ◌≤◌, ◌<◌, length, take, drop, Err, Ok, Result}
use Rattle.lists.specs.Each.{Each, Byte, occurs}
use Rattle.scheme.specs.declared.refusal.Refusal.{Refusal}
use Rattle.scheme.specs.Limits.{max_message}
use Rattle.scheme.specs.Outcome.{accepted}
use Rattle.scheme.specs.Grounds.{Ground, ground, AnsweredBy}
use Rattle.scheme.specs.Readers.{Rising}
use Rattle.family.specs.Message.{Bytes}
use Rattle.staircase.specs.Parameters.{Parameters, prefix_rows, blocks_of, output_bytes}
use Rattle.staircase.specs.Shares.{KeyString}
use Rattle.staircase.specs.Exactness.{prefix_bytes, opened_string, Opened}
use Rattle.dealer.specs.Split.{split_output}
use Rattle.reader.specs.Reconstruct.{ReconstructCall}
use Rattle.reader.specs.Range.{taken_rows, range_answer, range_output, RangeCall, SameInTurns, CountedRows}
use Rattle.sharing.specs.Calls.{scheme_lines, too_long, no_count, not_rising}
use Rattle.sharing.specs.RoundTrip.{handed}

-- what an accepted call did that answered `used`
pub record OpenedRange (p : Parameters) (message start long : ℕ) (parties prefixes : List ℕ) (used : ℕ) (after : List ℕ) : Type 0 where
  -- some keys turn the opened string, which is whole blocks, into these prefixes, and no other whole blocks have them
  pub opened : Opened p message parties prefixes
  -- the output is the range of that string, which lies inside the message
  pub output : after ≡ take long (drop start (opened_string p parties (blocks_of p message) prefixes))
  pub inside : start + long ≤ message
  pub long_is : length after ≡ long
  -- a call of the full opener that is lent the same, with an output of the message's length, is accepted too, and this is that range of what it writes
  pub full : (before whole : List ℕ) (a : Result ℕ Refusal) → length before ≡ message → ReconstructCall p message parties prefixes before a whole
      → (a ≡ Ok (length prefixes)) × (after ≡ take long (drop start whole))
  -- d × rows taken × N bytes were used, and the rows taken are the fewest of the reader's order that reach the range
  pub used_is : used ≡ length parties * taken_rows p (length parties) start long * blocks_of p message
  pub rows : CountedRows p (length parties) start long
  -- no more than were lent, which the full opener uses
  pub used_most : used ≤ length prefixes

-- what a call did, by its answer: a refused one left the output as it was
abbrev pub OpensRange : Parameters → ℕ → ℕ → ℕ → List ℕ → List ℕ → List ℕ → Result ℕ Refusal → List ℕ → Type 0
OpensRange p message start long parties prefixes before (Ok used) after = OpenedRange p message start long parties prefixes used after
OpensRange p message start long parties prefixes before (Err q) after = after ≡ before

-- a message of so many bytes, the start and the length of a range, a list of parties, and prefixes and an output of so many bytes
abbrev pub range_lines : Parameters → ℕ → ℕ → ℕ → List ℕ → ℕ → ℕ → List Ground
range_lines p message start long parties prefixes out =
    scheme_lines p
    ++ (too_long message
    ∷ no_count p (length parties)
    ∷ not_rising p parties
    ∷ ground 15 (message < start + long)
    ∷ ground 9 (prefixes ≢ length parties * prefix_rows p (length parties) * blocks_of p message)
    ∷ ground 10 (out ≢ long)
    ∷ [])

pub record RangeInWords (p : Parameters) (message start long : ℕ) (parties prefixes before : List ℕ) (a : Result ℕ Refusal) (after : List ℕ) : Type 0 where
  pub answered :
      AnsweredBy (range_lines p message start long parties (length prefixes) (length before))
      (length parties * taken_rows p (length parties) start long * blocks_of p message) a
  pub wrote : OpensRange p message start long parties prefixes before a after

-- every call with prefixes that are bytes (`range_in_words` in proofs/Range.antt), whatever else it is given
abbrev pub EveryRange : Parameters → Type 0
EveryRange p =
    (message start long : ℕ) (parties prefixes before : List ℕ) (a : Result ℕ Refusal) (after : List ℕ) → Each Byte prefixes
    → RangeCall p message start long parties prefixes before a after → RangeInWords p message start long parties prefixes before a after

-- the words settle a call: two that fit them, given the same, answered and left the same
abbrev pub RangeSettled : Parameters → Type 0
RangeSettled p =
    (message start long : ℕ) (parties prefixes before : List ℕ) (a a' : Result ℕ Refusal) (after after' : List ℕ)
    → RangeInWords p message start long parties prefixes before a after → RangeInWords p message start long parties prefixes before a' after'
    → (a ≡ a') × (after ≡ after')

-- two calls that are lent the same, but for bytes in the rows that are not taken, answered and left the same (`untaken_rows`): `RowsNotTaken` in
-- crates/reader/specs/Range.antt, of calls
abbrev pub UntakenRows : Parameters → Type 0
UntakenRows p =
    (message start long size : ℕ) (parties prefixes prefixes' before : List ℕ) (a a' : Result ℕ Refusal) (after after' : List ℕ)
    → Bytes size prefixes → Bytes size prefixes'
    → SameInTurns p (length parties) (blocks_of p message) (taken_rows p (length parties) start long) prefixes prefixes'
    → RangeCall p message start long parties prefixes before a after → RangeCall p message start long parties prefixes' before a' after'
    → (a ≡ a') × (after ≡ after')

-- the first lines before the rest: of an accepted scheme (`range_round_trip`) the range of what was split is the message's, whatever stands in the rows
-- that are not taken. The opener of a range inside it, lent as many bytes as the parties hand back, of which those in the rows taken are theirs, accepts,
-- and writes it
abbrev pub RangeRoundTrip : Parameters → Type 0
RangeRoundTrip p =
    (message keys : List ℕ) → Each Byte message → length message ≤ max_message → KeyString p (length message) keys
    → (parties : List ℕ) → occurs (length parties) p.counts ≡ true → Rising 0 p.n parties
    → (before out : List ℕ) → length before ≡ output_bytes p (blocks_of p (length message))
    → (start : ℕ) → start + length out ≤ length message
    → let d : ℕ = length parties in
    let N : ℕ = blocks_of p (length message) in
    let taken : ℕ = taken_rows p d start (length out) in
    (prefixes : List ℕ) → Bytes (prefix_bytes p d N) prefixes
    → SameInTurns p d N taken (handed p (length message) parties (split_output p message keys before)) prefixes
    → (range_answer p (length message) start (length out) parties (length prefixes) (length out) ≡ accepted (d * taken * N ∷ []))
    × (range_output p (length message) start (length out) parties prefixes out ≡ take (length out) (drop start message))
