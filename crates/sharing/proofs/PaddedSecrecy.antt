-- Demand 3 for padded messages: the splitter gives nothing away to at most z parties, not even which of two lengths with equally many blocks it was, and
-- how a call ends depends on the scheme, the blocks and the lengths of keys and output alone.
-- Assumes nothing.
use Rattle.std.specs.Prelude.{Err, Ok, Result}
use mathlib.Core.Path.{◌≡◌, refl, sym, ap, ◌∙◌}
use mathlib.Core.List.{List}
use Prim.Native.Nat.{ℕ}
use lib.ListN.{length}
use borrow.Author.Tests.{le-ltb}
use Rattle.lists.proofs.Once.{once, once-distinct}
use Rattle.scheme.specs.Limits.{max_message}
use Rattle.scheme.specs.declared.refusal.Refusal.{Refusal}
use Rattle.scheme.proofs.Laws.{default_accepted, told-accepted, told-refused, kept}
use Rattle.staircase.specs.Parameters.{Parameters, AcceptedScheme, default_parameters, padded_blocks_of, output_bytes}
use Rattle.staircase.specs.Shares.{padded_shares, PaddedKeyString}
use Rattle.staircase.proofs.Hiding.{padded_hidden}
use Rattle.staircase.proofs.WholeBlocks.{keys-number}
use Rattle.dealer.specs.SplitPadded.{split_padded_refusal, split_padded_answer, split_padded_output, SplitPaddedCall}
use Rattle.dealer.proofs.Laws.{padded_none_applies, padded-written, padded_output_long}
use Rattle.sharing.specs.Secrecy.{written}
use Rattle.sharing.specs.PaddedSecrecy.{PaddedSecrecy, PaddedWrote, PaddedOutcomeFromLengths, PaddedOutcomeFromBlocks}
use Rattle.sharing.proofs.Secrecy.{same_parts, once_in_range, once_few, alike}

pub padded_secrecy : (p : Parameters) → AcceptedScheme p → PaddedSecrecy p
padded_secrecy p A first second h₁ h₂ short short' e parties in-range few =
    let N : ℕ = padded_blocks_of p (length first) in
    let H = rw (keys-number p N) at (padded_hidden p A (once parties) (once_in_range p parties in-range few) (once-distinct parties) (once_few p parties in-range few) first second h₁ h₂ e) in
    let first_passes : (keys before : List ℕ) → PaddedKeyString p (length first) keys → length before ≡ output_bytes p (padded_blocks_of p (length first))
    → split_padded_refusal p (length first) (length keys) (length before) ≡ 0 =
    λ keys before K b. padded_none_applies p A (length first) (length keys) (length before) short K.0 b in
    let second-passes : (keys before : List ℕ) → PaddedKeyString p (length first) keys → length before ≡ output_bytes p (padded_blocks_of p (length first))
    → split_padded_refusal p (length second) (length keys) (length before) ≡ 0 =
    λ keys before K b. padded_none_applies p A (length second) (length keys) (length before) short' (K.0 ∙ rw e) (b ∙ rw e) in
    record {
      change = H.change;
      into = H.into;
      one_to_one = H.one_to_one;
      onto = H.onto;
      accepted = λ keys before before' K b b'. (first_passes keys before K b, second-passes (H.change keys) before' (H.into keys K) b');
      same =
          same_parts p N (padded_shares p first) (padded_shares p second) (split_padded_output p first) (split_padded_output p second)
          (λ keys before K b. padded-written p first keys before (first_passes keys before K b))
          (λ keys before K b. padded-written p second keys before (second-passes keys before K b)) parties H;
    }

-- ---- how a call ends

-- what a call wrote
pub padded_call_wrote : (p : Parameters) (message keys before : List ℕ) (answer : Result ℕ Refusal) (after : List ℕ) → SplitPaddedCall p message keys before answer after
    → PaddedWrote p message keys before answer after
unfolding split_padded_answer split_padded_output
padded_call_wrote p message keys before (Ok bytes) after C =
    let none = (told-accepted (Ok bytes) _ _ C.0 refl).0 in
    (C.1 ∙ padded-written p message keys before none, ap length C.1 ∙ padded_output_long p message keys before)
padded_call_wrote p message keys before (Err q) after C = C.1 ∙ sym (kept _ (told-refused (Err q) _ _ C.0 refl))

module _ (p : Parameters) (message message' keys keys' before before' after after' : List ℕ) (answer answer' : Result ℕ Refusal)
    (C : SplitPaddedCall p message keys before answer after) (C' : SplitPaddedCall p message' keys' before' answer' after')
    (k : length keys ≡ length keys') (b : length before ≡ length before') where
  end_alike : split_padded_answer p (length message) (length keys') (length before') ≡ split_padded_answer p (length message') (length keys') (length before')
      → (answer ≡ answer') × (written answer after ≡ written answer' after')
  end_alike same =
      alike answer answer' before before' after after' (C.0 ∙ rw (k, b) (same ∙ sym C'.0))
      (ap length C.1 ∙ padded_output_long p message keys before) (ap length C'.1 ∙ padded_output_long p message' keys' before') b

pub padded_outcome_from_lengths : (p : Parameters) → PaddedOutcomeFromLengths p
padded_outcome_from_lengths p message message' keys keys' before before' after after' answer answer' C C' m k b =
    end_alike p message message' keys keys' before before' after after' answer answer' C C' k b (rw m)

pub padded_outcome_from_blocks : (p : Parameters) → PaddedOutcomeFromBlocks p
unfolding split_padded_answer split_padded_refusal
padded_outcome_from_blocks p message message' keys keys' before before' after after' answer answer' C C' short short' N k b =
    end_alike p message message' keys keys' before before' after after' answer answer' C C' k b
    (rw (le-ltb max_message (length message) short, le-ltb max_message (length message') short', N))

-- ---- the forms without a scheme

pub default_padded_secrecy : PaddedSecrecy default_parameters
default_padded_secrecy = padded_secrecy default_parameters default_accepted

pub default_padded_outcome_from_lengths : PaddedOutcomeFromLengths default_parameters
default_padded_outcome_from_lengths = padded_outcome_from_lengths default_parameters

pub default_padded_outcome_from_blocks : PaddedOutcomeFromBlocks default_parameters
default_padded_outcome_from_blocks = padded_outcome_from_blocks default_parameters
