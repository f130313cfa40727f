-- The search for the end of a padded message: the last byte that is not 0, and the end that it tells.
-- Assumes nothing.
use mathlib.Core.Path.{◌≡◌, refl, sym, ap, ◌∙◌}
use mathlib.Core.Bool.{true, false, cond, not}
use mathlib.Core.List.{List, ◌∷◌}
use mathlib.Core.Logic.{◌≢◌, ⊎_elim}
use Prim.Native.Nat.{ℕ, zero, suc, ◌+◌, ◌-◌, ◌*◌, ◌≤◌, ◌<◌}
use native.Mathlib.Nat.{eq-zero-or-pos}
use native.Mathlib.Numerals.{add-one}
use native.Mathlib.Omega.{arith}
use lib.Dec.{eqb}
use lib.ListN.{length, get_or, take, drop, get_or-eq_default}
use lib.Seq.{get_or-take, get_or-drop}
use borrow.Author.Tests.{eq-eqb, ne_eqb, lt-ltb, le-ltb}
use Rattle.lists.specs.Table.{piece}
use Rattle.lists.proofs.Parts.{rest-length}
use Rattle.lists.proofs.Joined.{last_row}
use Rattle.scheme.specs.Limits.{max_message}
use Rattle.scheme.specs.Padding.{end_marker}
use Rattle.family.specs.Padding.{last_nonzero, end_place, end_missing, end_refused}
use Rattle.family.proofs.Padding.{last_past, last_here, last_within, last-zeros}
use Rattle.reader.specs.declared.ending.Last.{Last}
use Rattle.reader.specs.Ending.{LastOf}

-- ---- the last byte that is not 0

-- of the first n bytes; before all of them stands a 0
pub record LastSeen (bytes : List ℕ) (n byte after : ℕ) : Type 0 where
  pub within : n ≤ length bytes
  pub after_is : after ≡ last_nonzero bytes n
  pub byte_is : byte ≡ get_or (0 ∷ bytes) after 0

module _ (bytes : List ℕ) where
  pub seen_none : LastSeen bytes 0 0 0
  unfolding last_nonzero
  seen_none = record { within = omega arith; after_is = refl; byte_is = refl }

  -- the next byte: both stay where it is 0, which `some` tells
  pub seen_more : (i byte after next some byte' after' : ℕ) → LastSeen bytes i byte after → i < length bytes → next ≡ get_or bytes i 0
      → some ≡ cond (eqb (get_or bytes i 0) 0) 0 1 → byte' ≡ cond (eqb some 0) byte next → after' ≡ cond (eqb some 0) after (i + 1)
      → LastSeen bytes (i + 1) byte' after'
  seen_more i byte after next some byte' after' S h is told eb ea =
      ⊎_elim
      (λ (e : get_or bytes i 0 ≡ 0).
      let none : some ≡ 0 = told ∙ rw (eq-eqb (get_or bytes i 0) 0 e) in
      let same : after' ≡ after = ea ∙ rw none in
      record {
        within = omega arith;
        after_is = same ∙ S.after_is ∙ sym (ap (last_nonzero bytes) (add-one i) ∙ last_past bytes i e);
        byte_is = eb ∙ rw (none, same) S.byte_is;
      })
      (λ (pos : 0 < get_or bytes i 0).
      let not-zero : get_or bytes i 0 ≢ 0 = λ e. omega arith in
      let one : some ≡ 1 = told ∙ rw (ne_eqb (get_or bytes i 0) 0 not-zero) in
      let here : after' ≡ suc i = ea ∙ rw one (add-one i) in
      record {
        within = omega arith;
        after_is = here ∙ sym (ap (last_nonzero bytes) (add-one i) ∙ last_here bytes i not-zero);
        byte_is = eb ∙ rw (one, here) is;
      })
      (eq-zero-or-pos (get_or bytes i 0))

  -- all bytes: where all are 0, the first is
  pub seen_all : (byte after : ℕ) → LastSeen bytes (length bytes) byte after → LastOf bytes (record { byte = byte; after = after })
  seen_all byte zero S =
      record {
        after_is = S.after_is;
        byte_is =
            S.byte_is
            ∙ ⊎_elim (λ (e : length bytes ≡ 0). sym (get_or-eq_default bytes 0 {n = 0} (omega arith)))
            (λ (some : 0 < length bytes). sym (last-zeros bytes (length bytes) 0 (omega (arith, S.after_is)) some))
            (eq-zero-or-pos (length bytes));
      }
  seen_all byte (suc k) S = record { after_is = S.after_is; byte_is = S.byte_is ∙ ap (λ (i : ℕ). get_or bytes i 0) (omega arith) }

-- ---- the end in whole blocks of m bytes, by what is found in the last of them

-- the last m bytes, as they are lent
abbrev last_bytes : ℕ → List ℕ → List ℕ
last_bytes m blocks = take (length blocks - (length blocks - m)) (drop (length blocks - m) blocks)

-- what was found in them
pub record FoundLast (m : ℕ) (blocks : List ℕ) (last : Last) : Type 0 where
  pub positive : 0 < m
  pub room : m ≤ length blocks
  pub found : LastOf (last_bytes m blocks) last

pub found_last : (m : ℕ) (blocks : List ℕ) (last : Last) → (0 < m) × (m ≤ length blocks) → LastOf (last_bytes m blocks) last → FoundLast m blocks last
found_last m blocks last fits is = record { positive = fits.0; room = fits.1; found = is }

module _ {m : ℕ} {blocks : List ℕ} {last : Last} (F : FoundLast m blocks last) where
  long : length (last_bytes m blocks) ≡ m
  long = rest-length (length blocks - m) blocks ∙ omega (arith, F.room)

  after_is : last.after ≡ last_nonzero (last_bytes m blocks) m
  after_is = F.found.after_is ∙ ap (last_nonzero (last_bytes m blocks)) long

  pub after_most : last.after ≤ m
  after_most = omega (arith, after_is, last_within (last_bytes m blocks) m)

  -- a byte that is not 0 has a place
  pub after_some : 0 < last.byte → 0 < last.after
  after_some h =
      ⊎_elim
      (λ (e : last.after ≡ 0).
      let first : last.byte ≡ get_or (last_bytes m blocks) 0 0 = F.found.byte_is ∙ ap (λ (i : ℕ). get_or (last_bytes m blocks) i 0) (omega arith) in
      let none : get_or (last_bytes m blocks) 0 0 ≡ 0 = last-zeros (last_bytes m blocks) m 0 (omega (arith, after_is)) F.positive in
      omega arith)
      (λ (p : 0 < last.after). p)
      (eq-zero-or-pos last.after)

  module _ (N : ℕ) (some : 0 < N) (whole : length blocks ≡ N * m) where
    start_is : length blocks - m ≡ (N - 1) * m
    start_is = omega (arith, whole, last_row N m some)

    last_block : last_bytes m blocks ≡ piece m (N - 1) blocks
    unfolding piece
    last_block =
        let n : length blocks - (length blocks - m) ≡ m = omega arith in
        rw (n, start_is)

    place_is : length blocks - m + (last.after - 1) ≡ end_place m N blocks
    unfolding end_place
    place_is = rw (start_is, after_is, last_block)

    byte_there : last.byte ≡ get_or blocks (end_place m N blocks) 0
    byte_there =
        F.found.byte_is
        ∙ get_or-take (length blocks - (length blocks - m)) (drop (length blocks - m) blocks) (last.after - 1) 0 (omega (arith, after_most))
        ∙ get_or-drop (length blocks - m) blocks (last.after - 1) 0
        ∙ ap (λ (i : ℕ). get_or blocks i 0) place_is

    pub end_missing_lem : (last.byte ≡ end_marker → ⊥) → end_refused m N blocks ≡ true
    unfolding end_refused end_missing
    end_missing_lem h = simp (ne_eqb (get_or blocks (end_place m N blocks) 0) end_marker (λ e. h (byte_there ∙ e)))

    -- the marker is there
    module _ (marker : last.byte ≡ end_marker) where
      end_there : end_missing m N blocks ≡ false
      unfolding end_missing
      end_there = ap not (eq-eqb (get_or blocks (end_place m N blocks) 0) end_marker (sym byte_there ∙ marker))

      pub end_at : length blocks - m + last.after - 1 ≡ end_place m N blocks
      end_at = omega (arith, place_is, after_some (omega arith))

      pub end_far : max_message < length blocks - m + last.after - 1 → end_refused m N blocks ≡ true
      unfolding end_refused
      end_far h = rw (end_there, ← end_at) (lt-ltb _ _ h)

      pub end_near : length blocks - m + last.after - 1 ≤ max_message → end_refused m N blocks ≡ false
      unfolding end_refused
      end_near h = rw (end_there, ← end_at) (le-ltb _ _ h)
