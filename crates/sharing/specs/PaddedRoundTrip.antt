-- Demand 2 of the request for padded messages (document 02, a), the way there and back: what was split comes back, and so does its length, which nobody
-- told. That opening is exact, whatever prefixes are lent, is `PaddedExactCalls` in OpeningPadded.antt.
-- Assumes nothing.
use Rattle.std.specs.Prelude.{◌≡◌, true, List, [], ◌∷◌, ℕ, ◌*◌, ◌≤◌, length, get_or, take}
use Rattle.lists.specs.Each.{Each, Byte, occurs}
use Rattle.lists.specs.Table.{joined}
use Rattle.scheme.specs.Limits.{max_message}
use Rattle.scheme.specs.Outcome.{accepted}
use Rattle.scheme.specs.Readers.{Rising}
use Rattle.family.specs.Padding.{marked}
use Rattle.staircase.specs.Parameters.{Parameters, block, padded_blocks_of, output_bytes}
use Rattle.staircase.specs.Shares.{part_of, PaddedKeyString}
use Rattle.dealer.specs.SplitPadded.{split_padded_output}
use Rattle.party.specs.PrefixPadded.{prefix_padded_of}
use Rattle.reader.specs.ReconstructPadded.{reconstruct_padded_answer, reconstruct_padded_output}

-- the prefixes that the parties hand back of what the splitter wrote of N blocks, one after another in the list's order
abbrev pub handed_padded : Parameters → ℕ → List ℕ → List ℕ → List ℕ
handed_padded p N parties output = joined (length parties) (λ a. prefix_padded_of p (length parties) (part_of p N (get_or parties a 0) output))

-- of an accepted scheme (`padded_round_trip` in proofs/RoundTrip.antt): the opener, lent these prefixes and nothing else, accepts, uses every byte of them,
-- answers the message's length and writes the message and its padding
abbrev pub PaddedRoundTrip : Parameters → Type 0
PaddedRoundTrip p =
    (message keys : List ℕ) → Each Byte message → length message ≤ max_message → PaddedKeyString p (length message) keys
    → (parties : List ℕ) → occurs (length parties) p.counts ≡ true → Rising 0 p.n parties
    → (before out : List ℕ) → length before ≡ output_bytes p (padded_blocks_of p (length message)) → length out ≡ padded_blocks_of p (length message) * block p
    → let prefixes : List ℕ = handed_padded p (padded_blocks_of p (length message)) parties (split_padded_output p message keys before) in
    (reconstruct_padded_answer p parties prefixes (length out) ≡ accepted (length prefixes ∷ length message ∷ []))
    × (reconstruct_padded_output p parties prefixes out ≡ marked (block p) message)
    × (take (length message) (reconstruct_padded_output p parties prefixes out) ≡ message)
