-- The test of a file as facts, both ways, and that every entry of a file that passes lies within it.
-- Assumes nothing.
use mathlib.Core.Path.{◌≡◌, refl}
use mathlib.Core.Bool.{true, false, ◌&&◌, ◌||◌}
use mathlib.Core.Logic.{⊎_elim}
use mathlib.Core.List.{List, [], ◌∷◌}
use Prim.Native.Nat.{ℕ, zero, suc, ◌+◌, ◌-◌, ◌≤◌, ◌<◌}
use native.Mathlib.Nat.{le_refl, le_step, not-suc-le-zero, le_of_suc-le-suc, eq-or-lt_of_le}
use native.Mathlib.Numerals.{add-one}
use native.Mathlib.Omega.{arith}
use lib.Dec.{ltb, leb, eqb}
use lib.ListN.{length}
use borrow.Author.Tests.{ltb-true, ltb-false, eqb-true, lt-ltb, le-ltb, lt-leb, le-leb, eq-eqb, ne_eqb, not-false}
use Rattle.lists.proofs.Tests.{both, neither}
use Rattle.lists.proofs.Numbers.{rises_over}
use Rattle.scheme.specs.Outcome.{number_if, first_of}
use Rattle.scheme.proofs.Laws.{first_if}
use Rattle.archive.specs.Format.{max_entries, head_bytes}
use Rattle.archive.specs.Reading.{count_of, offset_of, length_of, start_of, cut_short, pairs_kept, rules_broken, file_refusal, entry_refusal}

-- pair i keeps the rules: its entry starts where it has to, and has at least one byte
pub record Kept (file : List ℕ) (i : ℕ) : Type 0 where
  pub starts : offset_of file i ≡ start_of file i
  pub some : 0 < length_of file i

-- what the test asks of a file
pub record Passed (file : List ℕ) : Type 0 where
  pub few : count_of file ≤ max_entries
  pub head : head_bytes (count_of file) ≤ length file
  pub pairs_kept_lem : (i : ℕ) → i < count_of file → Kept file i
  pub ends : start_of file (count_of file) ≡ length file

-- ---- the test gives the facts

-- each of the first n pairs, by their test
kept_each : (file : List ℕ) (n : ℕ) → pairs_kept file n ≡ true → (i : ℕ) → i < n → Kept file i
unfolding pairs_kept
kept_each file zero e i h = absurd (not-suc-le-zero h)
kept_each file (suc n) e i h =
    let last = both (pairs_kept file n && eqb (offset_of file n) (start_of file n)) (ltb 0 (length_of file n)) e in
    let front = both (pairs_kept file n) (eqb (offset_of file n) (start_of file n)) last.0 in
    let this : Kept file n = record { starts = eqb-true _ _ front.1; some = ltb-true 0 _ last.1 } in
    ⊎_elim (λ (same : i ≡ n). rw same this) (λ below. kept_each file n front.0 i below) (eq-or-lt_of_le (le_of_suc-le-suc h))

-- neither refusal applies to a file that passes
pub none_applies : (file : List ℕ) → file_refusal file ≡ 0 → (cut_short file ≡ false) × (rules_broken file ≡ false)
unfolding file_refusal
none_applies file e =
    let twelve = first_if 11 (cut_short file) _ e in
    (twelve.0, (first_if 12 (rules_broken file) [] twelve.1).0)

-- a file that is not cut short has a count within its limit, and so many pairs
pub uncut : (file : List ℕ) → cut_short file ≡ false
    → (2 ≤ length file) × (count_of file ≤ max_entries) × (head_bytes (count_of file) ≤ length file)
unfolding cut_short
uncut file none =
    let c : ℕ = count_of file in
    let short = neither (ltb (length file) 2 || ltb max_entries c) (ltb (length file) (head_bytes c)) none in
    let many = neither (ltb (length file) 2) (ltb max_entries c) short.0 in
    (ltb-false (length file) 2 many.0, ltb-false max_entries c many.1, ltb-false (length file) (head_bytes c) short.1)

-- where no rule is broken, each pair keeps them, and the file ends where it has to
pub rules_kept : (file : List ℕ) → rules_broken file ≡ false
    → ((i : ℕ) → i < count_of file → Kept file i) × (start_of file (count_of file) ≡ length file)
unfolding rules_broken
rules_kept file none =
    let c : ℕ = count_of file in
    let rules = both (pairs_kept file c) (eqb (start_of file c) (length file)) (not-false _ none) in
    (kept_each file c rules.0, eqb-true _ _ rules.1)

-- so each fact holds
pub passed : (file : List ℕ) → file_refusal file ≡ 0 → Passed file
passed file e =
    let none = none_applies file e in
    let whole = uncut file none.0 in
    let rules = rules_kept file none.1 in
    record { few = whole.1; head = whole.2; pairs_kept_lem = rules.0; ends = rules.1 }

-- ---- and the facts the test

-- pair by pair
each_kept : (file : List ℕ) (n : ℕ) → ((i : ℕ) → i < n → Kept file i) → pairs_kept file n ≡ true
unfolding pairs_kept
each_kept file zero k = refl
each_kept file (suc n) k =
    let last : Kept file n = k n (le_refl (suc n)) in
    simp (each_kept file n (λ i h. k i (le_step h)), eq-eqb _ _ last.starts, lt-ltb _ _ last.some)

-- and the end
pub kept_rules : (file : List ℕ) → ((i : ℕ) → i < count_of file → Kept file i) → start_of file (count_of file) ≡ length file → rules_broken file ≡ false
unfolding rules_broken
kept_rules file kept ends = rw (each_kept file (count_of file) kept, eq-eqb _ _ ends)

-- and all together: it is not cut short, since the head has two bytes at least
pub passes : (file : List ℕ) → Passed file → file_refusal file ≡ 0
unfolding file_refusal cut_short first_of
passes file p =
    let c : ℕ = count_of file in
    let head = p.head in
    simp (
      le-ltb (length file) 2 (omega arith),
      le-ltb max_entries c p.few,
      le-ltb (length file) (head_bytes c) head,
      kept_rules file p.pairs_kept_lem p.ends,
    )

-- two numbers before a third, taken together
first_flat : (a b c : ℕ) → first_of (a ∷ b ∷ c ∷ []) ≡ first_of (first_of (a ∷ b ∷ []) ∷ c ∷ [])
unfolding first_of
first_flat zero zero c = refl
first_flat zero (suc b) c = simp (ne_eqb (suc b) 0 (λ e. omega arith))
first_flat (suc a) b c = simp (ne_eqb (suc a) 0 (λ e. omega arith))

-- ---- the lookup's test, in a file that passes: only the number is left to refuse

module _ (file : List ℕ) (i : ℕ) (e : file_refusal file ≡ 0) where
  pub entry_found : i < count_of file → entry_refusal file i ≡ 0
  unfolding entry_refusal first_of
  entry_found h = simp ((none_applies file e).0, (none_applies file e).1, lt-leb (count_of file) i h)

  pub entry_none : count_of file ≤ i → entry_refusal file i ≡ 14
  unfolding entry_refusal first_of
  entry_none h = simp ((none_applies file e).0, (none_applies file e).1, le-leb (count_of file) i h)

-- the file's refusals come first, and the number is looked at after them
pub entry_first : (file : List ℕ) (i : ℕ) → entry_refusal file i ≡ first_of (file_refusal file ∷ number_if 14 (leb (count_of file) i) ∷ [])
unfolding entry_refusal file_refusal
entry_first file i = first_flat (number_if 12 (cut_short file)) (number_if 13 (rules_broken file)) (number_if 14 (leb (count_of file) i))

-- ---- entries lie within the file

-- each starts after the one before
starts_rise : (file : List ℕ) → Passed file → (i : ℕ) → i + 1 < count_of file + 1 → start_of file i < start_of file (i + 1)
unfolding start_of
starts_rise file p i h =
    let kept = p.pairs_kept_lem i (omega arith) in
    rw add-one (omega (arith, kept.starts, kept.some))

-- so each ends where the last one ends, or before, and that is where the file ends
pub entry-within : (file : List ℕ) (i : ℕ) → file_refusal file ≡ 0 → i < count_of file → offset_of file i + length_of file i ≤ length file
unfolding start_of
entry-within file i e h =
    let p = passed file e in
    let c : ℕ = count_of file in
    let last : suc i + (c - suc i) ≡ c = omega arith in
    let rise = rises_over (start_of file) (c + 1) (starts_rise file p) (suc i) (c - suc i) (omega arith) in
    rw (← p.ends) (rw last at rise)
