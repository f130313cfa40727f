-- The shares of a list of parties without the one at place `skip`, or all of them where there is no such place: what a loop over all places has to
-- show, and what it may use.
-- Assumes nothing.
use mathlib.Core.Path.{◌≡◌, refl, sym, ap, ◌∙◌}
use mathlib.Core.Bool.{Bool, true, false}
use mathlib.Core.Logic.{◌≢◌, ⊎_elim}
use mathlib.Core.List.{List}
use Prim.Native.Nat.{ℕ, ◌*◌, ◌≤◌, ◌<◌}
use native.Mathlib.Nat.{mul-le-mul_right}
use native.Mathlib.Omega.{arith}
use lib.ListN.{length, get_or}
use Rattle.lists.specs.Table.{piece}
use Rattle.lists.specs.Without.{without, without_piece, skipped}
use Rattle.lists.specs.Differing.{differing}
use Rattle.lists.proofs.Tests.{lt_or_le}
use Rattle.lists.proofs.Without.{length_without}
use Rattle.lists.proofs.Differing.{differing_self}
use Rattle.lists.proofs.Skipped.{skipped-before, skipped_other, skipped-back, unskipped, get_or-without, without_far, piece-without, without_past, left_inside}
use Rattle.staircase.specs.Parameters.{Parameters, rows}
use Rattle.agreement.specs.Agreement.{share_in, GiveAll, enough, found_blocks, found_keys, rebuilt, agrees, Lent}
use Rattle.agreement.proofs.Agreement.{found-bytes, found_keys-bytes, key_number, tested_gives, gives_tested, first-rebuilt}
use Rattle.agreement.proofs.Named.{lent-without, but_of}

module _ (p : Parameters) (parties : List ℕ) (N : ℕ) (shares : List ℕ) (L : Lent p parties N shares) (skip : ℕ) where
  abbrev c : ℕ
  c = length parties

  abbrev w : ℕ
  w = rows p * N

  abbrev left : List ℕ
  left = without skip parties

  abbrev left_shares : List ℕ
  left_shares = without_piece w skip shares

  -- where nothing is left out
  all-shares : c ≤ skip → left_shares ≡ shares
  all-shares h = without_far w skip shares (rw L.bytes.0 (mul-le-mul_right w h))

  pub lent-left : Lent p left N left_shares
  lent-left =
      ⊎_elim (λ (h : skip < c). lent-without p parties N shares L skip h)
      (λ (h : c ≤ skip). rw (without_past parties skip h, all-shares h) L)
      (lt_or_le skip c)

  -- a loop over all places but that one
  pub to_all : (blocks keys : List ℕ) → ((a : ℕ) → a < c → a ≢ skip → share_in p N blocks keys (get_or parties a 0) ≡ piece w a shares)
      → GiveAll p left N left_shares blocks keys
  to_all blocks keys G a h =
      ap (share_in p N blocks keys) (get_or-without parties skip a)
      ∙ G (skipped skip a) (left_inside parties skip a h) (skipped_other skip a)
      ∙ ⊎_elim (λ (b : skip < c). sym (piece-without w shares skip c L.bytes.0 b a (omega (arith, length_without parties skip b))))
      (λ (b : c ≤ skip).
      let l : a < c = rw (without_past parties skip b) at h in
      rw (skipped-before skip a (omega arith)) (ap (piece w a) (sym (all-shares b))))
      (lt_or_le skip c)

  pub of_all : (blocks keys : List ℕ) → GiveAll p left N left_shares blocks keys
      → (a : ℕ) → a < c → a ≢ skip → share_in p N blocks keys (get_or parties a 0) ≡ piece w a shares
  of_all blocks keys G a h n =
      ⊎_elim (λ (b : skip < c). but_of p parties N shares L skip b blocks keys G a h n)
      (λ (b : c ≤ skip).
      let H : GiveAll p parties N shares blocks keys = rw (without_past parties skip b, all-shares b) at G in H a h)
      (lt_or_le skip c)

  -- the shares at place a, and where it stands in what is left
  piece-left : (a : ℕ) → a < length left → piece w a left_shares ≡ piece w (skipped skip a) shares
  piece-left a h =
      ⊎_elim (λ (b : skip < c). piece-without w shares skip c L.bytes.0 b a (omega (arith, length_without parties skip b)))
      (λ (b : c ≤ skip).
      let l : a < c = rw (without_past parties skip b) at h in
      rw (skipped-before skip a (omega arith)) (ap (piece w a) (all-shares b)))
      (lt_or_le skip c)

  module _ (many : enough p ≤ length left) where
    -- the first of them, from which the blocks and keys are found, have what is rebuilt
    pub first-given : (a : ℕ) → a ≢ skip → unskipped skip a < enough p → rebuilt p left N left_shares (get_or parties a 0) ≡ piece w a shares
    first-given a n h =
        let back = skipped-back skip a n in
        let who : get_or left (unskipped skip a) 0 ≡ get_or parties a 0 =
        get_or-without parties skip (unskipped skip a) ∙ ap (λ (x : ℕ). get_or parties x 0) back in
        ap (rebuilt p left N left_shares) (sym who)
        ∙ first-rebuilt p left N left_shares lent-left many (unskipped skip a) h
        ∙ piece-left (unskipped skip a) (omega arith)
        ∙ ap (λ (x : ℕ). piece w x shares) back

    -- all places but that one have what is rebuilt
    pub agrees-all : ((a : ℕ) → a < c → a ≢ skip → rebuilt p left N left_shares (get_or parties a 0) ≡ piece w a shares) → agrees p left N left_shares ≡ true
    unfolding rebuilt
    agrees-all G =
        gives_tested p left N left_shares lent-left many (found_blocks p left N left_shares) (found_keys p left N left_shares)
        (found-bytes p left N left_shares lent-left many)
        (rw (key_number p N) at (found_keys-bytes p left N left_shares lent-left many))
        (to_all (found_blocks p left N left_shares) (found_keys p left N left_shares) G)

    -- one of them has not
    pub agrees-not : (a : ℕ) → a < c → a ≢ skip → (differing (rebuilt p left N left_shares (get_or parties a 0)) (piece w a shares) ≡ 0 → ⊥)
        → agrees p left N left_shares ≡ false
    unfolding rebuilt
    agrees-not a h n other = by (agrees p left N left_shares) refl
      where
        by : (t : Bool) → agrees p left N left_shares ≡ t → agrees p left N left_shares ≡ false
        by false e = e
        by true e = absurd (other (ap (λ (x : List ℕ). differing x (piece w a shares)) same ∙ differing_self (piece w a shares)))
          where
            same : share_in p N (found_blocks p left N left_shares) (found_keys p left N left_shares) (get_or parties a 0) ≡ piece w a shares
            same = of_all (found_blocks p left N left_shares) (found_keys p left N left_shares) (tested_gives p left N left_shares lent-left many e) a h n
