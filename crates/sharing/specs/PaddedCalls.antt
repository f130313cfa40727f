-- Demand 1 of the request in words for the calls on padded messages (document 02, a), as Calls.antt has it for the others: the lines of the table that
-- apply to a call in their order, what it answers by them, and what it leaves. N is L ÷ m rounded down, plus 1, for the splitter; the others, which nobody
-- tells L, take it from the length that they are lent, and refuse one that no message of an accepted length gives. proofs/PaddedCalls.antt proves them.
-- Assumes nothing.
use Rattle.std.specs.Prelude.{◌≡◌, ◌↔◌, ◌≢◌, List, [], ◌∷◌, ◌++◌, ℕ, ◌*◌, ◌/◌, ◌<◌, length, Err, Ok, Result}
use Rattle.lists.specs.Each.{Each, Byte}
use Rattle.scheme.specs.Refusals as refusals
use Rattle.scheme.specs.declared.refusal.Refusal.{Refusal}
use Rattle.scheme.specs.Limits.{max_message}
use Rattle.scheme.specs.Outcome.{outcome}
use Rattle.scheme.specs.Padding.{NoMessageGives}
use Rattle.scheme.specs.Grounds.{Ground, ground, NoneApplies, FirstApplies, AnsweredBy}
use Rattle.family.specs.Padding.{EndsAt}
use Rattle.staircase.specs.Parameters.{Parameters, block, rows, prefix_rows, padded_blocks_of}
use Rattle.staircase.specs.Exactness.{opened_string}
use Rattle.dealer.specs.SplitPadded.{SplitPaddedCall}
use Rattle.party.specs.PrefixPadded.{prefix_padded_answer, prefix_padded_of}
use Rattle.reader.specs.declared.padded.PaddedOpening.{PaddedOpening}
use Rattle.reader.specs.ReconstructPadded.{ReconstructPaddedCall}
use Rattle.sharing.specs.Calls.{scheme_lines, too_long, no_count, not_rising, HandsBack}
use Rattle.sharing.specs.PaddedSecrecy.{PaddedWrote}
use Rattle.sharing.specs.OpeningPadded.{OpensPadded}

-- ---- split

-- a message, keys and an output of so many bytes
abbrev pub split_padded_lines : Parameters → ℕ → ℕ → ℕ → List Ground
split_padded_lines p message keys out =
    scheme_lines p
    ++ (too_long message
    ∷ ground 8 (keys ≢ padded_blocks_of p message * p.z * rows p)
    ∷ ground 10 (out ≢ p.n * padded_blocks_of p message * rows p)
    ∷ [])

-- it answers N × b, the bytes of a share
pub record SplitPaddedInWords (p : Parameters) (message keys before : List ℕ) (a : Result ℕ Refusal) (after : List ℕ) : Type 0 where
  pub answered : AnsweredBy (split_padded_lines p (length message) (length keys) (length before)) (padded_blocks_of p (length message) * rows p) a
  pub wrote : PaddedWrote p message keys before a after

abbrev pub EverySplitPadded : Parameters → Type 0
EverySplitPadded p =
    (message keys before : List ℕ) (a : Result ℕ Refusal) (after : List ℕ) → SplitPaddedCall p message keys before a after
    → SplitPaddedInWords p message keys before a after

-- ---- prefix

-- for the count d, of a share of so many bytes
abbrev pub prefix_padded_lines : Parameters → ℕ → ℕ → List Ground
prefix_padded_lines p d share = scheme_lines p ++ (no_count p d ∷ ground 9 (NoMessageGives (block p) (rows p) share) ∷ [])

-- it answers P × N, where the share has N × b bytes
pub record PrefixPaddedInWords (p : Parameters) (d : ℕ) (share : List ℕ) (a : Result ℕ Refusal) (part : List ℕ) : Type 0 where
  pub answered : AnsweredBy (prefix_padded_lines p d (length share)) (prefix_rows p d * (length share / rows p)) a
  pub part_is : HandsBack share a part

abbrev pub EveryPrefixPadded : Parameters → Type 0
EveryPrefixPadded p =
    (d : ℕ) (share : List ℕ) (a : Result ℕ Refusal) (part : List ℕ) → outcome a ≡ prefix_padded_answer p d (length share) → part ≡ prefix_padded_of p d share
    → PrefixPaddedInWords p d share a part

-- ---- reconstruct

-- N of the prefixes of d parties: each block has d × P bytes of them
abbrev pub prefix_blocks : Parameters → ℕ → ℕ → ℕ
prefix_blocks p d prefixes = prefixes / (d * prefix_rows p d)

-- line 11: the blocks end nowhere as a padded message does, or past the limit
abbrev pub no_end : Parameters → ℕ → List ℕ → Ground
no_end p N blocks = ground 11 ((message : ℕ) → EndsAt (block p) N blocks message → max_message < message)

-- a list of parties, prefixes, and an output of so many bytes
abbrev pub reconstruct_padded_lines : Parameters → List ℕ → List ℕ → ℕ → List Ground
reconstruct_padded_lines p parties prefixes out =
    let N : ℕ = prefix_blocks p (length parties) (length prefixes) in
    scheme_lines p
    ++ (no_count p (length parties)
    ∷ not_rising p parties
    ∷ ground 9 (NoMessageGives (block p) (length parties * prefix_rows p (length parties)) (length prefixes))
    ∷ ground 10 (out ≢ N * block p)
    ∷ no_end p N (opened_string p parties N prefixes)
    ∷ [])

-- its answer has two numbers; those of an accepted one are what `OpensPadded` says
pub record PaddedAnsweredBy (grounds : List Ground) (a : Result PaddedOpening Refusal) : Type 0 where
  pub accepts : ((opening : PaddedOpening) × (a ≡ Ok opening)) ↔ NoneApplies grounds
  pub refuses : (q : Refusal) → (a ≡ Err q) ↔ FirstApplies (refusals.number q) grounds

-- it answers d × P × N, the bytes that it used, and the message's length
pub record ReconstructPaddedInWords (p : Parameters) (parties prefixes before : List ℕ) (a : Result PaddedOpening Refusal) (after : List ℕ) : Type 0 where
  pub answered : PaddedAnsweredBy (reconstruct_padded_lines p parties prefixes (length before)) a
  pub wrote : OpensPadded p parties prefixes before a after

-- with prefixes that are bytes
abbrev pub EveryReconstructPadded : Parameters → Type 0
EveryReconstructPadded p =
    (parties prefixes before : List ℕ) (a : Result PaddedOpening Refusal) (after : List ℕ) → Each Byte prefixes
    → ReconstructPaddedCall p parties prefixes before a after → ReconstructPaddedInWords p parties prefixes before a after

-- ---- the words settle a call: two that fit them, given the same, answered and left the same

pub record PaddedWordsSettle (p : Parameters) : Type 0 where
  pub split : (message keys before : List ℕ) (a a' : Result ℕ Refusal) (after after' : List ℕ)
      → SplitPaddedInWords p message keys before a after → SplitPaddedInWords p message keys before a' after' → (a ≡ a') × (after ≡ after')
  pub prefix : (d : ℕ) (share : List ℕ) (a a' : Result ℕ Refusal) (part part' : List ℕ)
      → PrefixPaddedInWords p d share a part → PrefixPaddedInWords p d share a' part' → (a ≡ a') × (part ≡ part')
  pub reconstruct : (parties prefixes before : List ℕ) (a a' : Result PaddedOpening Refusal) (after after' : List ℕ)
      → ReconstructPaddedInWords p parties prefixes before a after → ReconstructPaddedInWords p parties prefixes before a' after'
      → (a ≡ a') × (after ≡ after')
