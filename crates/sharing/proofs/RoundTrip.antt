-- Demand 2, the way there and back: what was split comes back, in both forms of message.
-- Assumes nothing.
use mathlib.Core.Path.{◌≡◌, sym, ap, ◌∙◌}
use mathlib.Core.Bool.{true, false, not}
use mathlib.Core.List.{List, [], ◌∷◌}
use Prim.Native.Nat.{ℕ, ◌*◌, ◌≤◌, ◌<◌}
use native.Mathlib.Nat.{mul_comm, mul-le-mul_right}
use native.Mathlib.Omega.{arith}
use lib.ListN.{length, get_or, take}
use lib.Seq.{length-take-le}
use borrow.Author.Tests.{ne_eqb, le-ltb}
use Rattle.lists.specs.Each.{Each, Distinct, Byte, occurs}
use Rattle.lists.specs.Table.{joined}
use Rattle.lists.proofs.Each.{each_get_d, each_take, each_joined}
use Rattle.lists.proofs.Joined.{length-joined, joined_same, piece-joined}
use Rattle.scheme.specs.Limits.{max_message}
use Rattle.scheme.specs.Outcome as outcome
use Rattle.scheme.specs.Check.{rows_of_count}
use Rattle.scheme.specs.Padding.{most_padded, blocks_held}
use Rattle.scheme.proofs.Laws.{default_accepted, readers_pass, parties_distinct, done, pass, pass_within, pass_false, pass_same, numbered, answer_none, padded_count_positive, padded_count_most, held_of}
use Rattle.family.specs.Message.{Bytes, padded}
use Rattle.family.specs.Padding.{marked, end_place, end_refused}
use Rattle.family.specs.Family.{share_of_blocks, shares_of_blocks}
use Rattle.family.specs.Exactness.{first_rows}
use Rattle.family.proofs.Message.{padded-bytes, unpadded}
use Rattle.family.proofs.Padding.{marked-bytes, marked_ends, unmarked, end_is, end_there}
use Rattle.family.proofs.Shares.{length_share}
use Rattle.staircase.specs.Parameters.{Parameters, AcceptedScheme, Party, default_parameters, block, rows, blocks_of, padded_blocks_of, key_bytes, output_bytes}
use Rattle.staircase.specs.Shares.{staircase, shares, padded_shares, part_of, KeyString, PaddedKeyString}
use Rattle.staircase.specs.Exactness.{prefix_bytes, opened_string}
use Rattle.staircase.proofs.Construction.{share_bytes_lem}
use Rattle.staircase.proofs.Hiding.{part_is_share}
use Rattle.staircase.proofs.Sizes.{block_some, rows-within, rows_some, sent_some}
use Rattle.staircase.proofs.WholeBlocks.{keys-number, exact, bytes-number}
use Rattle.dealer.specs.Split.{split_output}
use Rattle.dealer.specs.SplitPadded.{split_padded_output}
use Rattle.dealer.proofs.Laws.{none_applies, written, padded_none_applies, padded-written}
use Rattle.party.specs.Prefix.{prefix_refusal, prefix_length, prefix_of}
use Rattle.party.specs.PrefixPadded.{blocks_kept, prefix_padded_refusal, prefix_padded_length, prefix_padded_of}
use Rattle.reader.specs.Reconstruct.{reconstruct_refusal, reconstruct_answer, reconstruct_output}
use Rattle.reader.specs.ReconstructPadded.{blocks_sent, opened_padded, reconstruct_padded_refusal, reconstruct_padded_answer, reconstruct_padded_output}
use Rattle.sharing.specs.RoundTrip.{handed, RoundTrip}
use Rattle.sharing.specs.PaddedRoundTrip.{handed_padded, PaddedRoundTrip}

-- ---- N whole blocks under their keys: the prefixes of the parties' shares open to the blocks

module _ (p : Parameters) (A : AcceptedScheme p) (N : ℕ) (blocks keys : List ℕ) (B : Bytes (N * block p) blocks) (K : Bytes (key_bytes p N) keys)
    (parties : List ℕ) (counted : occurs (length parties) p.counts ≡ true) (apart : Distinct parties) (inside : Each (Party p) parties) where
  abbrev rows_sent : ℕ
  rows_sent = rows_of_count (block p) p.z (length parties)

  abbrev share_at : ℕ → List ℕ
  share_at a = share_of_blocks (staircase p) N blocks keys (get_or parties a 0)

  -- one after another
  abbrev sent : List ℕ
  sent = joined (length parties) (λ a. first_rows (staircase p) rows_sent N blocks keys (get_or parties a 0))

  -- a party's share as it was written
  share_written : (a : ℕ) → a < length parties → part_of p N (get_or parties a 0) (shares_of_blocks (staircase p) p.n N blocks keys) ≡ share_at a
  share_written a h = part_is_share p N blocks keys (get_or parties a 0) (each_get_d {A = ℕ} (Party p) parties a 0 h inside)

  share_long : (a : ℕ) → length (share_at a) ≡ rows p * N
  unfolding staircase
  share_long a = length_share (staircase p) N blocks keys (get_or parties a 0)

  prefix_long : (a : ℕ) → length (first_rows (staircase p) rows_sent N blocks keys (get_or parties a 0)) ≡ rows_sent * N
  unfolding first_rows
  prefix_long a = length-take-le (rows_sent * N) _ (rw (share_long a) (mul-le-mul_right N (rows-within p A (length parties) counted)))

  -- what is handed back of each share: its first rows
  handed-sent : (handing : List ℕ → List ℕ) → ((s : List ℕ) → length s ≡ rows p * N → handing s ≡ take (rows_sent * N) s)
      → joined (length parties) (λ a. handing (part_of p N (get_or parties a 0) (shares_of_blocks (staircase p) p.n N blocks keys))) ≡ sent
  unfolding first_rows
  handed-sent handing is =
      joined_same {A = ℕ} (length parties) _ _ (λ a h. ap handing (share_written a h) ∙ is (share_at a) (share_long a))

  sent_long : length sent ≡ prefix_bytes p (length parties) N
  sent_long =
      length-joined {A = ℕ} (length parties) (rows_sent * N) _ (λ a _. prefix_long a) ∙ sym (bytes-number p A parties counted apart inside N)

  sent-bytes : Each Byte sent
  unfolding first_rows
  sent-bytes =
      each_joined {A = ℕ} Byte (length parties) _
      (λ a _. each_take Byte (rows_sent * N) (share_at a) (share_bytes_lem p A N blocks keys B K (get_or parties a 0)))

  returned : opened_string p parties N sent ≡ blocks
  unfolding opened_string staircase
  returned =
      sym
      ((exact p A parties counted apart inside N).unique sent blocks keys B (rw (← keys-number p N) at K)
      (λ a h. sym (piece-joined {A = ℕ} (length parties) (rows_sent * N) _ (λ a _. prefix_long a) a h)))

-- ---- the earlier form

module _ (p : Parameters) (A : AcceptedScheme p) (message keys : List ℕ) (bytes : Each Byte message) (short : length message ≤ max_message) (K : KeyString p (length message) keys)
    (parties : List ℕ) (counted : occurs (length parties) p.counts ≡ true) (apart : Distinct parties) (inside : Each (Party p) parties)
    (before : List ℕ) (room : length before ≡ output_bytes p (blocks_of p (length message))) where
  abbrev N : ℕ
  N = blocks_of p (length message)

  whole : Bytes (N * block p) (padded (block p) message)
  whole = padded-bytes (block p) message (block_some p A) bytes

  -- the prefix that is handed back of a share
  prefix-handed : (share : List ℕ) → length share ≡ rows p * N
      → prefix_of p (length message) (length parties) share ≡ take (rows_of_count (block p) p.z (length parties) * N) share
  unfolding prefix_of prefix_refusal prefix_length
  prefix-handed share long =
      rw (numbered (pass A (pass_within 5 short (pass_false 6 (ap not counted) (pass_same 9 (long ∙ mul_comm (rows p) N) done)))))

  handed_is : handed p (length message) parties (split_output p message keys before) ≡ sent p A N (padded (block p) message) keys whole K parties counted apart inside
  unfolding shares
  handed_is =
      rw (written p message keys before (none_applies p A (length message) (length keys) (length before) short K.0 room))
      (handed-sent p A N (padded (block p) message) keys whole K parties counted apart inside (prefix_of p (length message) (length parties)) prefix-handed)

  handed_long : length (handed p (length message) parties (split_output p message keys before)) ≡ prefix_bytes p (length parties) N
  handed_long = ap length handed_is ∙ sent_long p A N (padded (block p) message) keys whole K parties counted apart inside

  pub handed-bytes : Bytes (prefix_bytes p (length parties) N) (handed p (length message) parties (split_output p message keys before))
  handed-bytes = (handed_long, rw handed_is (sent-bytes p A N (padded (block p) message) keys whole K parties counted apart inside))

  pub message_back : take (length message) (opened_string p parties N (handed p (length message) parties (split_output p message keys before))) ≡ message
  message_back =
      rw (handed_is, returned p A N (padded (block p) message) keys whole K parties counted apart inside) (unpadded (block p) message)

pub round_trip : (p : Parameters) → AcceptedScheme p → RoundTrip p
unfolding reconstruct_output reconstruct_answer reconstruct_refusal
round_trip p A message keys bytes short K parties counted rising before out room fits =
    let right = parties_distinct p.n parties rising in
    let long = handed_long p A message keys bytes short K parties counted right.0 right.1 before room in
    let passed = readers_pass p.n parties rising in
    let passes : reconstruct_refusal p (length message) parties (length (handed p (length message) parties (split_output p message keys before))) (length out) ≡ 0 =
    numbered (pass A (pass_within 5 short (pass_false 6 (ap not counted) (pass_false 7 passed (pass_same 9 long (pass_same 10 fits done)))))) in
    (answer_none _ _ passes ∙ ap (λ (x : ℕ). outcome.accepted (x ∷ [])) (sym long), simp passes (message_back p A message keys bytes short K parties counted right.0 right.1 before room))

-- ---- padded messages

module _ (p : Parameters) (A : AcceptedScheme p) (message keys : List ℕ) (bytes : Each Byte message) (short : length message ≤ max_message) (K : PaddedKeyString p (length message) keys)
    (parties : List ℕ) (counted : occurs (length parties) p.counts ≡ true) (apart : Distinct parties) (inside : Each (Party p) parties)
    (before : List ℕ) (room : length before ≡ output_bytes p (padded_blocks_of p (length message))) where
  abbrev M : ℕ
  M = padded_blocks_of p (length message)

  abbrev handed_back : List ℕ
  handed_back = handed_padded p M parties (split_padded_output p message keys before)

  marked_whole : Bytes (M * block p) (marked (block p) message)
  marked_whole = marked-bytes (block p) message (block_some p A) bytes

  some : 0 < M
  some = padded_count_positive (block p) (length message)

  few : M ≤ most_padded (block p)
  few = padded_count_most (block p) (length message) short (block_some p A)

  -- the share's length tells its blocks
  kept_is : (share : List ℕ) → length share ≡ rows p * M → blocks_kept p (length share) ≡ M
  unfolding blocks_kept
  kept_is share long = ap (blocks_held (most_padded (block p)) (rows p)) (long ∙ mul_comm (rows p) M) ∙ held_of (most_padded (block p)) (rows p) M (rows_some p A) few

  padded_prefix_handed : (share : List ℕ) → length share ≡ rows p * M
      → prefix_padded_of p (length parties) share ≡ take (rows_of_count (block p) p.z (length parties) * M) share
  unfolding prefix_padded_of prefix_padded_refusal prefix_padded_length
  padded_prefix_handed share long =
      let told = kept_is share long in
      rw (numbered (pass A (pass_false 6 (ap not counted) (pass_false 9 (ne_eqb (blocks_kept p (length share)) 0 (λ e. omega (arith, some))) done))), told)

  padded_handed_is : handed_back ≡ sent p A M (marked (block p) message) keys marked_whole K parties counted apart inside
  unfolding padded_shares
  padded_handed_is =
      rw (padded-written p message keys before (padded_none_applies p A (length message) (length keys) (length before) short K.0 room))
      (handed-sent p A M (marked (block p) message) keys marked_whole K parties counted apart inside (prefix_padded_of p (length parties)) padded_prefix_handed)

  pub padded_handed_long : length handed_back ≡ prefix_bytes p (length parties) M
  padded_handed_long = ap length padded_handed_is ∙ sent_long p A M (marked (block p) message) keys marked_whole K parties counted apart inside

  -- so does that of the prefixes
  pub sent_is : blocks_sent p (length parties) (length handed_back) ≡ M
  unfolding blocks_sent prefix_bytes
  sent_is =
      let d : ℕ = length parties in
      let unit : ℕ = d * rows_of_count (block p) p.z d in
      ap (blocks_held (most_padded (block p)) unit) (padded_handed_long ∙ mul_comm unit M)
      ∙ held_of (most_padded (block p)) unit M (sent_some p A d counted) few

  pub padded-back : opened_padded p parties handed_back ≡ marked (block p) message
  unfolding opened_padded
  padded-back =
      rw (sent_is, padded_handed_is) (returned p A M (marked (block p) message) keys marked_whole K parties counted apart inside)

  -- and the blocks end where the message did
  pub end_passes : end_refused (block p) M (marked (block p) message) ≡ false
  unfolding end_refused
  end_passes =
      let E = marked_ends (block p) message (block_some p A) in
      rw (end_there (block p) M (marked (block p) message) some (length message) E, end_is (block p) M (marked (block p) message) some (length message) E)
      (le-ltb max_message (length message) short)

pub padded_round_trip : (p : Parameters) → AcceptedScheme p → PaddedRoundTrip p
unfolding reconstruct_padded_output reconstruct_padded_answer reconstruct_padded_refusal
padded_round_trip p A message keys bytes short K parties counted rising before out room fits =
    let right = parties_distinct p.n parties rising in
    let N : ℕ = padded_blocks_of p (length message) in
    let prefixes : List ℕ = handed_padded p N parties (split_padded_output p message keys before) in
    let told : blocks_sent p (length parties) (length prefixes) ≡ N = sent_is p A message keys bytes short K parties counted right.0 right.1 before room in
    let back : opened_padded p parties prefixes ≡ marked (block p) message = padded-back p A message keys bytes short K parties counted right.0 right.1 before room in
    let some : 0 < N = padded_count_positive (block p) (length message) in
    let ends-well : end_refused (block p) (blocks_sent p (length parties) (length prefixes)) (opened_padded p parties prefixes) ≡ false =
    rw (told, back) (end_passes p A message keys bytes short K parties counted right.0 right.1 before room) in
    let passes : reconstruct_padded_refusal p parties prefixes (length out) ≡ 0 =
    numbered
    (pass A
    (pass_false 6 (ap not counted)
    (pass_false 7 (readers_pass p.n parties rising)
    (pass_false 9 (ne_eqb (blocks_sent p (length parties) (length prefixes)) 0 (λ e. omega arith))
    (pass_same 10 (fits ∙ rw told)
    (pass_false 11 ends-well done)))))) in
    let ends : end_place (block p) N (marked (block p) message) ≡ length message =
    end_is (block p) N (marked (block p) message) some (length message) (marked_ends (block p) message (block_some p A)) in
    let long : prefix_bytes p (length parties) N ≡ length prefixes = sym (padded_handed_long p A message keys bytes short K parties counted right.0 right.1 before room) in
    let output : reconstruct_padded_output p parties prefixes out ≡ marked (block p) message = simp passes back in (
      answer_none _ _ passes ∙ rw (told, back, ends, long),
      output,
      ap (take (length message)) output ∙ unmarked (block p) message,
    )

-- ---- the forms without a scheme

pub default_round_trip : RoundTrip default_parameters
default_round_trip = round_trip default_parameters default_accepted

pub default_padded_round_trip : PaddedRoundTrip default_parameters
default_padded_round_trip = padded_round_trip default_parameters default_accepted
