-- Secrecy of whole blocks, whatever their padding, and of messages: a change of the key string hides which of two was split from at most z parties.
-- Assumes nothing.
use mathlib.Core.Path.{◌≡◌, refl, sym, ap, ◌∙◌}
use mathlib.Core.List.{List, map}
use Prim.Native.Nat.{ℕ, ◌+◌, ◌-◌, ◌*◌, ◌≤◌}
use native.Mathlib.Omega.{arith}
use lib.ListN.{length}
use Rattle.lists.specs.Each.{Each, Distinct, Byte}
use Rattle.lists.specs.Table.{piece}
use Rattle.lists.proofs.Each.{each_imp, each_map}
use Rattle.lists.proofs.Joined.{piece-joined}
use Rattle.family.specs.Message.{Bytes, padded}
use Rattle.family.specs.Family.{share_of_blocks, shares_of_blocks}
use Rattle.family.specs.Secrecy.{sum, Hidden, Mask}
use Rattle.family.proofs.Message.{padded-bytes, block-bytes}
use Rattle.family.specs.Padding.{marked}
use Rattle.family.proofs.Padding.{marked-bytes}
use Rattle.family.proofs.Shares.{length_share}
use Rattle.family.proofs.Mask.{hidden, blocks_mask}
use Rattle.staircase.specs.Parameters.{Parameters, AcceptedScheme, Party, block, rows, blocks_of, padded_blocks_of}
use Rattle.staircase.specs.Shares.{staircase, shares, padded_shares, part_of}
use Rattle.staircase.proofs.Sizes.{block_some}
use Rattle.staircase.proofs.Secrecy.{block-mask}

-- party s's part of the output is its share
pub part_is_share : (p : Parameters) (N : ℕ) (blocks keys : List ℕ) (s : ℕ) → Party p s
    → part_of p N s (shares_of_blocks (staircase p) p.n N blocks keys) ≡ share_of_blocks (staircase p) N blocks keys s
unfolding part_of shares_of_blocks staircase
part_is_share p N blocks keys s h =
    let e : s - 1 + 1 ≡ s = omega arith in
    piece-joined {A = ℕ} p.n (rows p * N) (λ i. share_of_blocks (staircase p) N blocks keys (i + 1))
    (λ i _. length_share (staircase p) N blocks keys (i + 1)) (s - 1) (omega arith)
    ∙ ap (share_of_blocks (staircase p) N blocks keys) e

module _ (p : Parameters) (A : AcceptedScheme p) (parties : List ℕ) (in-range : Each (Party p) parties) (apart : Distinct parties) (few : length parties ≤ p.z) where
  blocks_masked : (N : ℕ) (first second : List ℕ) → Bytes (N * block p) first → Bytes (N * block p) second
      → Mask (N * (staircase p).keys) (λ keys. map (share_of_blocks (staircase p) N first keys) parties) (λ keys. map (share_of_blocks (staircase p) N second keys) parties)
  unfolding staircase
  blocks_masked N first second h₁ h₂ =
      blocks_mask (staircase p) parties N first second
      (λ t h.
      block-mask p A parties in-range apart few (piece (block p) t first) (piece (block p) t second) (block-bytes (block p) t N first h₁ h)
      (block-bytes (block p) t N second h₂ h))

  pub blocks_hidden : (N : ℕ) (first second : List ℕ) → Bytes (N * block p) first → Bytes (N * block p) second
      → Hidden (N * (staircase p).keys) (λ keys. map (share_of_blocks (staircase p) N first keys) parties) (λ keys. map (share_of_blocks (staircase p) N second keys) parties)
  blocks_hidden N first second h₁ h₂ = hidden _ _ _ (blocks_masked N first second h₁ h₂)

  -- of the outputs that have the shares of the blocks, the parts of the parties
  written_hidden : (N : ℕ) (first second : List ℕ) → Bytes (N * block p) first → Bytes (N * block p) second
      → (output output' : List ℕ → List ℕ)
      → ((keys : List ℕ) → output keys ≡ shares_of_blocks (staircase p) p.n N first keys)
      → ((keys : List ℕ) → output' keys ≡ shares_of_blocks (staircase p) p.n N second keys)
      → Hidden (N * (staircase p).keys) (λ keys. map (λ s. part_of p N s (output keys)) parties) (λ keys. map (λ s. part_of p N s (output' keys)) parties)
  written_hidden N first second h₁ h₂ output output' is is' =
      let M = blocks_masked N first second h₁ h₂ in
      let parts : (blocks keys : List ℕ) → map (λ s. part_of p N s (shares_of_blocks (staircase p) p.n N blocks keys)) parties ≡ map (share_of_blocks (staircase p) N blocks keys) parties
      = λ blocks keys. each_map {A = ℕ} {B = List ℕ} _ _ parties (each_imp {A = ℕ} (Party p) _ (λ s h. part_is_share p N blocks keys s h) parties in-range) in
      hidden _ _ _
      record {
        mask = M.mask;
        bytes = M.bytes;
        same =
            λ keys K.
            rw (is keys, is' (sum keys M.mask))
            (parts first keys ∙ M.same keys K ∙ sym (parts second (sum keys M.mask)));
      }

  pub message_hidden : (first second : List ℕ) → Each Byte first → Each Byte second → length first ≡ length second
      → let N : ℕ = blocks_of p (length first) in
      Hidden (N * (staircase p).keys) (λ keys. map (λ s. part_of p N s (shares p first keys)) parties) (λ keys. map (λ s. part_of p N s (shares p second keys)) parties)
  unfolding shares
  message_hidden first second h₁ h₂ e =
      written_hidden _ (padded (block p) first) (padded (block p) second) (padded-bytes (block p) first (block_some p A) h₁)
      (rw (← e) at (padded-bytes (block p) second (block_some p A) h₂)) (shares p first) (shares p second) (λ keys. refl) (λ keys. rw e)

  -- padded messages may differ in length, if they make equally many blocks
  pub padded_hidden : (first second : List ℕ) → Each Byte first → Each Byte second → padded_blocks_of p (length first) ≡ padded_blocks_of p (length second)
      → let N : ℕ = padded_blocks_of p (length first) in
      Hidden (N * (staircase p).keys) (λ keys. map (λ s. part_of p N s (padded_shares p first keys)) parties)
      (λ keys. map (λ s. part_of p N s (padded_shares p second keys)) parties)
  unfolding padded_shares
  padded_hidden first second h₁ h₂ e =
      written_hidden _ (marked (block p) first) (marked (block p) second) (marked-bytes (block p) first (block_some p A) h₁)
      (rw (← e) at (marked-bytes (block p) second (block_some p A) h₂)) (padded_shares p first) (padded_shares p second) (λ keys. refl) (λ keys. rw e)
