-- Demand 3 of the request for padded messages (document 02, a), as statements about their splitter's own answer and output. The two messages may differ
-- in length: what they have in common is the number N of their blocks.
-- Assumes nothing.
use Rattle.std.specs.Prelude.{◌≡◌, List, ℕ, ◌≤◌, length, Err, Ok, Result}
use Rattle.lists.specs.Each.{Each, Byte}
use Rattle.scheme.specs.Limits.{max_message}
use Rattle.scheme.specs.declared.refusal.Refusal.{Refusal}
use Rattle.staircase.specs.Parameters.{Parameters, Party, padded_blocks_of, output_bytes}
use Rattle.staircase.specs.Shares.{padded_shares, part_of, PaddedKeyString}
use Rattle.dealer.specs.SplitPadded.{split_padded_refusal, split_padded_output, SplitPaddedCall}
use Rattle.sharing.specs.Secrecy.{written}

-- a change of the key string under which each of these parties is written the same of either message
pub record PaddedSecret (p : Parameters) (first second parties : List ℕ) : Type 0 where
  pub change : List ℕ → List ℕ
  -- into the key strings, one_to_one and onto them
  pub into : (keys : List ℕ) → PaddedKeyString p (length first) keys → PaddedKeyString p (length first) (change keys)
  pub one_to_one : (keys keys' : List ℕ) → PaddedKeyString p (length first) keys → PaddedKeyString p (length first) keys' → change keys ≡ change keys' → keys ≡ keys'
  pub onto : (keys : List ℕ) → PaddedKeyString p (length first) keys → (from : List ℕ) × PaddedKeyString p (length first) from × (change from ≡ keys)
  -- both calls are accepted, whatever the outputs held before
  pub accepted : (keys before before' : List ℕ) → PaddedKeyString p (length first) keys
      → length before ≡ output_bytes p (padded_blocks_of p (length first)) → length before' ≡ output_bytes p (padded_blocks_of p (length first))
      → (split_padded_refusal p (length first) (length keys) (length before) ≡ 0)
      × (split_padded_refusal p (length second) (length (change keys)) (length before') ≡ 0)
  -- and write each of the parties the same bytes
  pub same : (keys before before' : List ℕ) → PaddedKeyString p (length first) keys
      → length before ≡ output_bytes p (padded_blocks_of p (length first)) → length before' ≡ output_bytes p (padded_blocks_of p (length first))
      → Each
      (λ s.
      part_of p (padded_blocks_of p (length first)) s (split_padded_output p first keys before)
      ≡ part_of p (padded_blocks_of p (length first)) s (split_padded_output p second (change keys) before'))
      parties

-- of an accepted scheme (`padded_secrecy` in proofs/PaddedSecrecy.antt): for every two messages of accepted lengths that make equally many blocks, and every
-- choice of at most z parties, none included
abbrev pub PaddedSecrecy : Parameters → Type 0
PaddedSecrecy p =
    (first second : List ℕ) → Each Byte first → Each Byte second → length first ≤ max_message → length second ≤ max_message
    → padded_blocks_of p (length first) ≡ padded_blocks_of p (length second)
    → (parties : List ℕ) → Each (Party p) parties → length parties ≤ p.z
    → PaddedSecret p first second parties

-- what a call wrote: all shares, as long as the output was, or the output is what it was
abbrev pub PaddedWrote : Parameters → List ℕ → List ℕ → List ℕ → Result ℕ Refusal → List ℕ → Type 0
PaddedWrote p message keys before (Ok bytes) after = (after ≡ padded_shares p message keys) × (length after ≡ length before)
PaddedWrote p message keys before (Err q) after = after ≡ before

-- two calls end alike: the same answer, and equally many bytes written
abbrev pub EndAlike : Result ℕ Refusal → List ℕ → Result ℕ Refusal → List ℕ → Type 0
EndAlike answer after answer' after' = (answer ≡ answer') × (written answer after ≡ written answer' after')

-- two calls with one scheme, accepted or not, and equal lengths, whatever the slices hold
abbrev pub PaddedOutcomeFromLengths : Parameters → Type 0
PaddedOutcomeFromLengths p =
    (message message' keys keys' before before' after after' : List ℕ) (answer answer' : Result ℕ Refusal)
    → SplitPaddedCall p message keys before answer after → SplitPaddedCall p message' keys' before' answer' after'
    → length message ≡ length message' → length keys ≡ length keys' → length before ≡ length before'
    → EndAlike answer after answer' after'

-- and two calls with messages of accepted lengths that make equally many blocks, where keys and outputs have equal lengths
abbrev pub PaddedOutcomeFromBlocks : Parameters → Type 0
PaddedOutcomeFromBlocks p =
    (message message' keys keys' before before' after after' : List ℕ) (answer answer' : Result ℕ Refusal)
    → SplitPaddedCall p message keys before answer after → SplitPaddedCall p message' keys' before' answer' after'
    → length message ≤ max_message → length message' ≤ max_message → padded_blocks_of p (length message) ≡ padded_blocks_of p (length message')
    → length keys ≡ length keys' → length before ≡ length before'
    → EndAlike answer after answer' after'
