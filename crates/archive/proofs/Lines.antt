-- The tests of a file, and of contents to be written, reflect the lines of the table: each is true where its line applies, and false where it does not.
-- Assumes nothing.
use mathlib.Core.Path.{◌≡◌, refl, sym, ◌∙◌}
use mathlib.Core.Bool.{true≢false}
use mathlib.Core.Logic.{◌⊎◌, inl, inr, ⊎_elim, ◌≢◌}
use mathlib.Core.List.{List}
use Prim.Native.Nat.{ℕ, zero, suc, ◌+◌, ◌≤◌, ◌<◌}
use native.Mathlib.Nat.{le_refl, le_step, not-suc-le-zero, le_of_suc-le-suc, eq-or-lt_of_le, eq-zero-or-pos}
use native.Mathlib.Decide.{ℕ_discrete}
use native.Mathlib.Omega.{arith}
use lib.Dec.{leb}
use lib.ListN.{length, get_or, take}
use borrow.Author.Tests.{leb-true, leb-false}
use Rattle.lists.proofs.Tests.{lt_or_le}
use Rattle.scheme.proofs.Laws.{Reflects}
use Rattle.archive.specs.Format.{max_entries, max_number, head_bytes}
use Rattle.archive.specs.Reading.{count_of, offset_of, length_of, start_of, cut_short, rules_broken}
use Rattle.archive.specs.Writing.{total, would_break}
use Rattle.archive.specs.Calls.{CutShort, BreaksRules, WouldBreak}
use Rattle.archive.proofs.Passing.{uncut, rules_kept, kept_rules}
use Rattle.archive.proofs.Scanning.{not-cut}
use Rattle.archive.proofs.Lengths.{unbroken}
use Rattle.archive.proofs.Fits.{fit_true, fits_unbroken}

-- where each place is bad or good: a place below n is bad, or else what follows from all below n being good
one_or : {Bad Good : ℕ → Type 0} {R : Type 0} (n : ℕ) → ((i : ℕ) → Bad i ⊎ Good i) → (((i : ℕ) → i < n → Good i) → R)
    → ((i : ℕ) × (i < n) × Bad i) ⊎ R
one_or zero each then = inr (then (λ i h. absurd (not-suc-le-zero h)))
one_or (suc n) each then =
    ⊎_elim (λ bad. inl (n, le_refl (suc n), bad))
    (λ good.
    ⊎_elim (λ found. inl (found.0, le_step found.1, found.2)) inr
    (one_or n each (λ all. then (λ i h. ⊎_elim (λ (same : i ≡ n). rw same good) (all i) (eq-or-lt_of_le (le_of_suc-le-suc h))))))
    (each n)

-- the one, or what follows from the other
or_then : {A B C : Type 0} → A ⊎ B → (B → C) → A ⊎ C
or_then (inl a) then = inl a
or_then (inr b) then = inr (then b)

or_absurd : {A B : Type 0} → A ⊎ B → (B → ⊥) → A
or_absurd (inl a) not = a
or_absurd (inr b) not = absurd (not b)

-- two numbers differ or are the same
differ_or_same : (a b : ℕ) → (a ≢ b) ⊎ (a ≡ b)
differ_or_same a b = elim (ℕ_discrete a b) [ yes same ↦ inr same | no differ ↦ inl differ ]

-- ---- a file

-- 12: it has a count, the count is within its limit, and so many pairs are there; or one of the three is not so
pub cut_short_lem : (file : List ℕ) → Reflects (cut_short file) (CutShort file)
cut_short_lem file =
    let c : ℕ = count_of file in
    record {
      holds = λ e.
          or_then (lt_or_le (length file) 2)
          (λ counted.
          or_then (lt_or_le max_entries c)
          (λ few. or_absurd (lt_or_le (length file) (head_bytes c)) (λ whole. true≢false (sym e ∙ not-cut file c refl counted few whole))));
      fails = λ e.
          let whole = uncut file e in
          ⊎_elim (λ short. omega (arith, whole.0)) (⊎_elim (λ many. omega (arith, whole.1)) (λ short. omega (arith, whole.2)));
    }

-- 14: no entry has this number
pub no_entry : (file : List ℕ) (number : ℕ) → Reflects (leb (count_of file) number) (count_of file ≤ number)
no_entry file number = record { holds = leb-true _ _; fails = λ e beyond. omega (arith, leb-false (count_of file) number e) }

-- 13: an entry that breaks a rule, or else the end of the file
pub rules_broken_lem : (file : List ℕ) → Reflects (rules_broken file) (BreaksRules file)
rules_broken_lem file =
    let c : ℕ = count_of file in
    record {
      holds = λ e.
          one_or c (λ i. differ_or_same (offset_of file i) (start_of file i))
          (λ starts.
          one_or c (λ i. eq-zero-or-pos (length_of file i))
          (λ some ends. true≢false (sym e ∙ kept_rules file (λ i h. record { starts = starts i h; some = some i h }) (sym ends))));
      fails = λ e.
          let rules = rules_kept file e in
          ⊎_elim (λ at. at.2 (rules.0 at.0 at.1).starts)
          (⊎_elim (λ at. omega (arith, at.2, (rules.0 at.0 at.1).some)) (λ other. other (sym rules.1)));
    }

-- ---- contents to be written

-- 13 of the writer: an entry of which the pair does not fit, or else the sum of the lengths
pub would_break_lem : (contents : ℕ) (sizes : List ℕ) → Reflects (would_break contents sizes) (WouldBreak contents sizes)
would_break_lem contents sizes =
    let n : ℕ = length sizes in
    record {
      holds = λ e.
          one_or n (λ i. eq-zero-or-pos (get_or sizes i 0))
          (λ some.
          one_or n (λ i. lt_or_le max_number (get_or sizes i 0))
          (λ short.
          one_or n (λ i. lt_or_le max_number (head_bytes n + total (take i sizes)))
          (λ near whole.
          true≢false
          (sym e
          ∙ fits_unbroken contents sizes (λ i h. record { some = some i h; size_fits = short i h; offset_fits = near i h }) whole))));
      fails = λ e.
          let rules = unbroken sizes contents e in
          let fits = fit_true (head_bytes n) sizes rules.0 in
          ⊎_elim (λ at. omega (arith, at.2, (fits at.0 at.1).some))
          (⊎_elim (λ at. omega (arith, at.2, (fits at.0 at.1).size_fits))
          (⊎_elim (λ at. omega (arith, at.2, (fits at.0 at.1).offset_fits)) (λ other. other rules.1)));
    }
