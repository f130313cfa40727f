-- Demand 2 of the request, the way there and back: what was split comes back. That opening is exact, whatever prefixes are lent, is
-- `ExactCalls` in Opening.antt.
-- Assumes nothing.
use Rattle.std.specs.Prelude.{◌≡◌, true, List, [], ◌∷◌, ℕ, ◌≤◌, length, get_or}
use Rattle.lists.specs.Each.{Each, Byte, occurs}
use Rattle.lists.specs.Table.{joined}
use Rattle.scheme.specs.Limits.{max_message}
use Rattle.scheme.specs.Outcome.{accepted}
use Rattle.scheme.specs.Readers.{Rising}
use Rattle.staircase.specs.Parameters.{Parameters, blocks_of, output_bytes}
use Rattle.staircase.specs.Shares.{part_of, KeyString}
use Rattle.dealer.specs.Split.{split_output}
use Rattle.party.specs.Prefix.{prefix_of}
use Rattle.reader.specs.Reconstruct.{reconstruct_answer, reconstruct_output}

-- the prefixes that the parties hand back of what the splitter wrote, one after another in the list's order
abbrev pub handed : Parameters → ℕ → List ℕ → List ℕ → List ℕ
handed p message parties output =
    joined (length parties)
    (λ a. prefix_of p message (length parties) (part_of p (blocks_of p message) (get_or parties a 0) output))

-- of an accepted scheme (`round_trip` in proofs/RoundTrip.antt), what was split comes back: the opener, lent these prefixes, accepts, uses every byte
-- of them and writes the message
abbrev pub RoundTrip : Parameters → Type 0
RoundTrip p =
    (message keys : List ℕ) → Each Byte message → length message ≤ max_message → KeyString p (length message) keys
    → (parties : List ℕ) → occurs (length parties) p.counts ≡ true → Rising 0 p.n parties
    → (before out : List ℕ) → length before ≡ output_bytes p (blocks_of p (length message)) → length out ≡ length message
    → let prefixes : List ℕ = handed p (length message) parties (split_output p message keys before) in
    (reconstruct_answer p (length message) parties (length prefixes) (length out) ≡ accepted (length prefixes ∷ []))
    × (reconstruct_output p (length message) parties prefixes out ≡ message)
