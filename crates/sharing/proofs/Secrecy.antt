-- Demand 3: the splitter gives nothing away to at most z parties, and how a call ends depends on the scheme and the lengths alone.
-- Assumes nothing.
use Rattle.std.specs.Prelude.{Err, Ok, Result}
use mathlib.Core.Path.{◌≡◌, refl, sym, ap, ◌∙◌}
use mathlib.Core.List.{List, map}
use Prim.Native.Nat.{ℕ, ◌≤◌}
use native.Mathlib.Omega.{arith}
use lib.ListN.{length}
use Rattle.lists.specs.Each.{Each}
use Rattle.lists.proofs.Each.{map_each}
use Rattle.lists.proofs.Once.{once, once-distinct, once_short, once_each, each_once}
use Rattle.scheme.specs.Outcome.{Outcome, outcome}
use Rattle.scheme.proofs.Laws.{number_same, default_accepted, told-accepted, told-refused, kept}
use Rattle.family.specs.Message.{Bytes}
use Rattle.family.specs.Secrecy.{Hidden}
use Rattle.staircase.specs.Parameters.{Parameters, AcceptedScheme, Party, default_parameters, blocks_of, key_bytes, output_bytes}
use Rattle.staircase.specs.Shares.{shares, part_of, KeyString}
use Rattle.staircase.proofs.Hiding.{message_hidden}
use Rattle.staircase.proofs.WholeBlocks.{keys-number}
use Rattle.scheme.specs.declared.refusal.Refusal.{Refusal}
use Rattle.dealer.specs.Split.{split_refusal, split_answer, split_output, SplitCall}
use Rattle.dealer.proofs.Laws.{none_applies, written as written_out, output_long}
use Rattle.sharing.specs.Secrecy.{Secrecy, written, Wrote, OutcomeFromLengths}

-- ---- secrecy, in both forms of message

-- the outputs of two calls are the shares of N blocks where keys and output have their lengths, and the change hides which they are
module _ (p : Parameters) (N : ℕ) (shares₁ shares₂ : List ℕ → List ℕ) (output₁ output₂ : List ℕ → List ℕ → List ℕ)
    (is₁ : (keys before : List ℕ) → Bytes (key_bytes p N) keys → length before ≡ output_bytes p N → output₁ keys before ≡ shares₁ keys)
    (is₂ : (keys before : List ℕ) → Bytes (key_bytes p N) keys → length before ≡ output_bytes p N → output₂ keys before ≡ shares₂ keys)
    (parties : List ℕ)
    (H : Hidden (key_bytes p N) (λ keys. map (λ s. part_of p N s (shares₁ keys)) (once parties)) (λ keys. map (λ s. part_of p N s (shares₂ keys)) (once parties)))
  where
    pub same_parts : (keys before before' : List ℕ) → Bytes (key_bytes p N) keys → length before ≡ output_bytes p N → length before' ≡ output_bytes p N
        → Each (λ s. part_of p N s (output₁ keys before) ≡ part_of p N s (output₂ (H.change keys) before')) parties
    same_parts keys before before' K b b' =
        rw (is₁ keys before K b, is₂ (H.change keys) before' (H.into keys K) b')
        (each_once _ parties
        (map_each {A = ℕ} {B = List ℕ} (λ s. part_of p N s (shares₁ keys)) (λ s. part_of p N s (shares₂ (H.change keys))) (once parties) (H.same keys K)))

-- the parties, each once
module _ (p : Parameters) (parties : List ℕ) (in-range : Each (Party p) parties) (few : length parties ≤ p.z) where
  pub once_in_range : Each (Party p) (once parties)
  once_in_range = once_each (Party p) parties in-range

  pub once_few : length (once parties) ≤ p.z
  once_few = omega (arith, once_short parties)

pub secrecy : (p : Parameters) → AcceptedScheme p → Secrecy p
secrecy p A first second h₁ h₂ e short parties in-range few =
    let N : ℕ = blocks_of p (length first) in
    let H = rw (keys-number p N) at (message_hidden p A (once parties) (once_in_range p parties in-range few) (once-distinct parties) (once_few p parties in-range few) first second h₁ h₂ e) in
    let first_passes : (keys before : List ℕ) → KeyString p (length first) keys → length before ≡ output_bytes p (blocks_of p (length first))
    → split_refusal p (length first) (length keys) (length before) ≡ 0 =
    λ keys before K b. none_applies p A (length first) (length keys) (length before) short K.0 b in
    let second-passes : (keys before : List ℕ) → KeyString p (length first) keys → length before ≡ output_bytes p (blocks_of p (length first))
    → split_refusal p (length second) (length keys) (length before) ≡ 0 =
    λ keys before K b. rw e at (first_passes keys before K b) in
    record {
      change = H.change;
      into = H.into;
      one_to_one = H.one_to_one;
      onto = H.onto;
      accepted = λ keys before before' K b b'. (first_passes keys before K b, second-passes (H.change keys) before' (H.into keys K) b');
      same =
          same_parts p N (shares p first) (shares p second) (split_output p first) (split_output p second)
          (λ keys before K b. written_out p first keys before (first_passes keys before K b))
          (λ keys before K b. written_out p second keys before (second-passes keys before K b)) parties H;
    }

-- the form without a scheme
pub default_secrecy : Secrecy default_parameters
default_secrecy = secrecy default_parameters default_accepted

-- ---- how a call ends

-- an answer is its outcome
pub same_answer : (a a' : Result ℕ Refusal) → outcome a ≡ outcome a' → a ≡ a'
same_answer (Ok x) (Ok y) e = ap Ok (cc (ap (λ (o : Outcome). o.values) e))
same_answer (Ok x) (Err y) e = let z : ◌≡◌ {A = ℕ} 0 1 = ap length (ap (λ (o : Outcome). o.values) (sym e)) in absurd (let x : ⊥ = omega arith in x)
same_answer (Err x) (Ok y) e = let z : ◌≡◌ {A = ℕ} 0 1 = ap length (ap (λ (o : Outcome). o.values) e) in absurd (let x : ⊥ = omega arith in x)
same_answer (Err x) (Err y) e = ap Err (number_same x y (ap (λ (o : Outcome). o.number) e))

-- what a call wrote
pub call_wrote : (p : Parameters) (message keys before : List ℕ) (answer : Result ℕ Refusal) (after : List ℕ) → SplitCall p message keys before answer after
    → Wrote p message keys before answer after
unfolding split_answer split_output
call_wrote p message keys before (Ok bytes) after C =
    let none = (told-accepted (Ok bytes) _ _ C.0 refl).0 in
    (C.1 ∙ written_out p message keys before none, ap length C.1 ∙ output_long p message keys before)
call_wrote p message keys before (Err q) after C = C.1 ∙ sym (kept _ (told-refused (Err q) _ _ C.0 refl))

-- so a call that gave this answer wrote as many bytes as the lengths say
pub written_long : (answer : Result ℕ Refusal) (before after : List ℕ) → length after ≡ length before → written answer after ≡ written answer before
written_long (Ok bytes) before after e = e
written_long (Err q) before after e = refl

-- two calls whose answers say the same, and whose outputs are as long as before, end alike
pub alike : (answer answer' : Result ℕ Refusal) (before before' after after' : List ℕ) → outcome answer ≡ outcome answer'
    → length after ≡ length before → length after' ≡ length before' → length before ≡ length before'
    → (answer ≡ answer') × (written answer after ≡ written answer' after')
alike answer answer' before before' after after' o long long' e =
    let same : answer ≡ answer' = same_answer answer answer' o in
    (same, ap (λ a. written a after) same ∙ written_long answer' after' after (long ∙ e ∙ sym long'))

pub outcome_from_lengths : (p : Parameters) → OutcomeFromLengths p
outcome_from_lengths p message message' keys keys' before before' after after' answer answer' C C' m k b =
    alike answer answer' before before' after after' (C.0 ∙ rw (m, k, b) (sym C'.0)) (ap length C.1 ∙ output_long p message keys before)
    (ap length C'.1 ∙ output_long p message' keys' before') b

-- the form without a scheme
pub default_outcome_from_lengths : OutcomeFromLengths default_parameters
default_outcome_from_lengths = outcome_from_lengths default_parameters
