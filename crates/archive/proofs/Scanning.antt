-- The test of a file as the loop makes it, pair by pair, and what it answers at each way out.
-- Assumes nothing.
use mathlib.Core.Path.{◌≡◌, refl, sym, ◌∙◌}
use mathlib.Core.Bool.{true, false, and-false}
use mathlib.Core.Logic.{◌⊎◌, ⊎_elim}
use mathlib.Core.List.{List, [], ◌∷◌}
use Prim.Native.Nat.{ℕ, zero, suc, ◌+◌, ◌≤◌, ◌<◌}
use native.Mathlib.Nat.{not-suc-le-zero, le_of_suc-le-suc, eq-or-lt_of_le}
use native.Mathlib.Numerals.{add-one}
use native.Mathlib.Omega.{arith}
use lib.ListN.{length}
use borrow.Author.Tests.{le-ltb, lt-ltb, eq-eqb, ne_eqb}
use Rattle.scheme.specs.Outcome.{accepted, refused}
use Rattle.scheme.proofs.Laws.{answers, done, stop_true, pass_false}
use Rattle.archive.specs.declared.pairs.Pair.{Pair}
use Rattle.archive.specs.Format.{max_entries, head_bytes}
use Rattle.archive.specs.Pairs.{PairIs}
use Rattle.archive.specs.Reading.{count_of, offset_of, length_of, start_of, cut_short, pairs_kept, rules_broken, file_refusal, count_answer}

-- ---- 12

module _ (file : List ℕ) where
  stop_cut : cut_short file ≡ true → refused 12 ≡ count_answer file
  unfolding count_answer file_refusal
  stop_cut cut = answers (stop_true cut)

  pub no_count_lem : length file < 2 → refused 12 ≡ count_answer file
  unfolding cut_short
  no_count_lem short = stop_cut (rw (lt-ltb _ _ short))

-- ---- the pairs, one after another

-- the pairs before i keep the rules, and the next entry has to start here
pub record Scanned (file : List ℕ) (start i : ℕ) : Type 0 where
  pub here : start ≡ start_of file i
  pub kept : pairs_kept file i ≡ true

module _ (file : List ℕ) where
  pub none_scanned : Scanned file (head_bytes (count_of file)) 0
  unfolding start_of pairs_kept
  none_scanned = record { here = refl; kept = refl }

  -- one pair that breaks the rules breaks them for all
  broken_below : (i n : ℕ) → i < n → pairs_kept file (suc i) ≡ false → pairs_kept file n ≡ false
  unfolding pairs_kept
  broken_below i zero below bad = absurd (not-suc-le-zero below)
  broken_below i (suc n) below bad =
      ⊎_elim (λ (same : i ≡ n). rw (← same) bad) (λ less. rw (broken_below i n less bad)) (eq-or-lt_of_le (le_of_suc-le-suc below))

  module _ {start i : ℕ} (s : Scanned file start i) where
    module _ (more : i < count_of file) where
      broken : pairs_kept file (suc i) ≡ false → rules_broken file ≡ true
      unfolding rules_broken
      broken bad = rw (broken_below i (count_of file) more bad)

      -- it starts elsewhere, it has no byte, it keeps the rules
      elsewhere : (offset_of file i ≡ start → ⊥) → rules_broken file ≡ true
      unfolding pairs_kept
      elsewhere other = broken (rw (s.kept, ne_eqb (offset_of file i) (start_of file i) (λ e. other (e ∙ sym s.here))))

      empty : length_of file i ≡ 0 → rules_broken file ≡ true
      unfolding pairs_kept
      empty none = broken (rw (none, and-false))

      pub unkept : {pair : Pair} → PairIs file i pair → (pair.offset ≡ start → ⊥) ⊎ ((pair.offset ≡ start) × (pair.length ≡ 0)) → rules_broken file ≡ true
      unkept is = ⊎_elim (λ other. elsewhere (λ e. other (is.offset_is ∙ e))) (λ bad. empty (sym is.length_is ∙ bad.1))

    pub scanned_next : {pair : Pair} → PairIs file i pair → pair.offset ≡ start → (pair.length ≡ 0 → ⊥) → Scanned file (pair.offset + pair.length) (i + 1)
    unfolding start_of pairs_kept
    scanned_next {pair} is same some =
        let starts : offset_of file i ≡ start_of file i = sym is.offset_is ∙ same ∙ s.here in
        record {
          here = rw (add-one, is.offset_is, is.length_is);
          kept = rw (add-one, s.kept, eq-eqb (offset_of file i) (start_of file i) starts, lt-ltb 0 (length_of file i) (omega (arith, is.length_is)));
        }

    -- after the last pair
    module _ (last : i ≡ count_of file) where
      pub ends_elsewhere : (start ≡ length file → ⊥) → rules_broken file ≡ true
      unfolding rules_broken
      ends_elsewhere other = rw (← last, s.kept, ne_eqb (start_of file i) (length file) (λ e. other (s.here ∙ e)))

      pub ends_here : start ≡ length file → rules_broken file ≡ false
      unfolding rules_broken
      ends_here end = rw (← last, s.kept, eq-eqb (start_of file i) (length file) (sym s.here ∙ end))

-- ---- past the count

module _ (file : List ℕ) (entries : ℕ) (is : entries ≡ count_of file) (counted : 2 ≤ length file) where
  pub too_many : max_entries < entries → refused 12 ≡ count_answer file
  unfolding cut_short
  too_many many = stop_cut file (rw (← is, le-ltb _ _ counted, lt-ltb _ _ many))

  module _ (few : entries ≤ max_entries) where
    pub no_pair : length file < head_bytes entries → refused 12 ≡ count_answer file
    unfolding cut_short
    no_pair short = stop_cut file (rw (← is, le-ltb _ _ counted, le-ltb _ _ few, lt-ltb _ _ short))

    module _ (whole : head_bytes entries ≤ length file) where
      pub not-cut : cut_short file ≡ false
      unfolding cut_short
      not-cut = rw (← is, le-ltb _ _ counted, le-ltb _ _ few, le-ltb _ _ whole)

      pub breaks : rules_broken file ≡ true → refused 13 ≡ count_answer file
      unfolding count_answer file_refusal
      breaks bad = answers (pass_false 12 not-cut (stop_true bad))

      pub counts : rules_broken file ≡ false → accepted (entries ∷ []) ≡ count_answer file
      unfolding count_answer file_refusal
      counts good = rw is (answers (pass_false 12 not-cut (pass_false 13 good done)))
