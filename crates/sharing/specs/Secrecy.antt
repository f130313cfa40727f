-- Demand 3 of the request, as statements about the splitter's own answer and output.
-- Assumes nothing.
use Rattle.std.specs.Prelude.{◌≡◌, List, ℕ, ◌≤◌, length, Err, Ok, Result}
use Rattle.lists.specs.Each.{Each, Byte}
use Rattle.scheme.specs.Limits.{max_message}
use Rattle.scheme.specs.declared.refusal.Refusal.{Refusal}
use Rattle.staircase.specs.Parameters.{Parameters, Party, blocks_of, output_bytes}
use Rattle.staircase.specs.Shares.{shares, part_of, KeyString}
use Rattle.dealer.specs.Split.{split_refusal, split_output, SplitCall}

-- a change of the key string under which each of these parties is written the same of either message
pub record Secret (p : Parameters) (first second parties : List ℕ) : Type 0 where
  pub change : List ℕ → List ℕ
  -- into the key strings, one_to_one and onto them
  pub into : (keys : List ℕ) → KeyString p (length first) keys → KeyString p (length first) (change keys)
  pub one_to_one : (keys keys' : List ℕ) → KeyString p (length first) keys → KeyString p (length first) keys' → change keys ≡ change keys' → keys ≡ keys'
  pub onto : (keys : List ℕ) → KeyString p (length first) keys → (from : List ℕ) × KeyString p (length first) from × (change from ≡ keys)
  -- both calls are accepted, whatever the outputs held before
  pub accepted : (keys before before' : List ℕ) → KeyString p (length first) keys
      → length before ≡ output_bytes p (blocks_of p (length first)) → length before' ≡ output_bytes p (blocks_of p (length first))
      → (split_refusal p (length first) (length keys) (length before) ≡ 0) × (split_refusal p (length second) (length (change keys)) (length before') ≡ 0)
  -- and write each of the parties the same bytes
  pub same : (keys before before' : List ℕ) → KeyString p (length first) keys
      → length before ≡ output_bytes p (blocks_of p (length first)) → length before' ≡ output_bytes p (blocks_of p (length first))
      → Each
      (λ s.
      part_of p (blocks_of p (length first)) s (split_output p first keys before)
      ≡ part_of p (blocks_of p (length first)) s (split_output p second (change keys) before'))
      parties

-- of an accepted scheme (`secrecy` in proofs/Secrecy.antt): for every two messages of one accepted length and every choice of at most z parties, none included
abbrev pub Secrecy : Parameters → Type 0
Secrecy p =
    (first second : List ℕ) → Each Byte first → Each Byte second → length first ≡ length second → length first ≤ max_message
    → (parties : List ℕ) → Each (Party p) parties → length parties ≤ p.z
    → Secret p first second parties

-- the bytes that a call of the splitter wrote, by its answer and its output after it: the whole output where it was accepted, none where it was refused
abbrev pub written : Result ℕ Refusal → List ℕ → ℕ
written (Ok bytes) after = length after
written (Err q) after = 0

-- that these are the bytes it wrote: all shares, as long as the output was, or the output is what it was
abbrev pub Wrote : Parameters → List ℕ → List ℕ → List ℕ → Result ℕ Refusal → List ℕ → Type 0
Wrote p message keys before (Ok bytes) after = (after ≡ shares p message keys) × (length after ≡ length before)
Wrote p message keys before (Err q) after = after ≡ before

-- two calls with one scheme, accepted or not, and equal lengths, whatever the slices hold: the same answer, and equally many bytes written
abbrev pub OutcomeFromLengths : Parameters → Type 0
OutcomeFromLengths p =
    (message message' keys keys' before before' after after' : List ℕ) (answer answer' : Result ℕ Refusal)
    → SplitCall p message keys before answer after → SplitCall p message' keys' before' answer' after'
    → length message ≡ length message' → length keys ≡ length keys' → length before ≡ length before'
    → (answer ≡ answer') × (written answer after ≡ written answer' after')
