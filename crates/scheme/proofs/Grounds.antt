-- The table of refusals in words, both ways. A test reflects a ground: true where it applies, false where it does not. Where each test of a list
-- reflects the ground at its place, the first number of the list is 0 exactly if no ground applies, and else that of the first ground that does.
-- Assumes nothing.
use mathlib.Core.Path.{◌≡◌, refl, sym, ap, ◌∙◌}
use mathlib.Core.Bool.{Bool, true, false, ◌&&◌, ◌||◌, not, or_assoc, true≢false}
use mathlib.Core.Logic.{◌⊎◌, inl, inr, ⊎_elim, ◌↔◌, ◌≢◌}
use mathlib.Core.List.{List, [], ◌∷◌, ◌++◌}
use Prim.Native.Nat.{ℕ, zero, suc, ◌+◌, ◌≤◌, ◌<◌}
use native.Mathlib.Omega.{arith}
use lib.Dec.{ltb, leb, eqb}
use lib.ListN.{length, get_or, take}
use borrow.Author.Tests.{ltb-true, ltb-false, leb-true, leb-false, eqb-true, eqb-false, not-true, not-false}
use Rattle.lists.specs.Each.{Each, occurs}
use Rattle.lists.proofs.Each.{occurs-false, false-occurs, each_imp, each_append}
use Rattle.std.specs.Prelude.{Result, Ok, Err}
use Rattle.scheme.specs.declared.refusal.Refusal.{Refusal}
use Rattle.scheme.specs.declared.accepted.Scheme.{Scheme}
use Rattle.scheme.specs.Refusals as refusals
use Rattle.scheme.specs.Limits.{max_block, default_n, default_r, default_z, default_counts}
use Rattle.scheme.specs.Outcome.{accepted, refused, outcome, number_if, first_of, answer}
use Rattle.scheme.specs.SchemeOutcome.{scheme_outcome}
use Rattle.scheme.specs.BlockLength.{block_length}
use Rattle.scheme.specs.Check.{falls, parties_refused, thresholds_refused, counts_refused, block_refused, refusal, checked}
use Rattle.scheme.specs.Facts.{SchemeIs}
use Rattle.scheme.specs.Readers.{readers_refused, Rising}
use Rattle.scheme.specs.Grounds.{Ground, ground, NoneApplies, FirstApplies, AnsweredBy, BlockTooLong, CountsWrong, scheme_grounds, RefusedFour, Admissible, CheckedBy}
use Rattle.scheme.proofs.BlockLength.{block_least, block-above, least_above, least_unique}
use Rattle.scheme.proofs.Counts.{falls_at, falls-not}
use Rattle.scheme.proofs.Answers.{stop, numbered, answered_none, answered_some, told-accepted, scheme-told}
use Rattle.scheme.proofs.Numbers.{number_same}
use Rattle.scheme.proofs.SchemeFacts as facts
use Rattle.scheme.proofs.Parties.{readers_rise, readers_pass}

-- ---- a test and what it tests

pub record Reflects (t : Bool) (A : Type 0) : Type 0 where
  pub holds : t ≡ true → A
  pub fails : t ≡ false → A → ⊥

pub refuted : {t : Bool} {A : Type 0} → Reflects t A → (A → ⊥) → t ≡ false
refuted {t = false} r n = refl
refuted {t = true} r n = absurd (n (r.holds refl))

pub above : {a b : ℕ} → Reflects (ltb a b) (a < b)
above {a} {b} = record { holds = ltb-true a b; fails = λ e h. omega (arith, ltb-false a b e) }

at_least : {a b : ℕ} → Reflects (leb a b) (a ≤ b)
at_least {a} {b} = record { holds = leb-true a b; fails = λ e h. omega (arith, leb-false a b e) }

same : {a b : ℕ} → Reflects (eqb a b) (a ≡ b)
same {a} {b} = record { holds = eqb-true a b; fails = eqb-false a b }

pub other : {a b : ℕ} → Reflects (not (eqb a b)) (a ≢ b)
other {a} {b} =
    record { holds = λ e. eqb-false a b (not-true (eqb a b) e); fails = λ e h. h (eqb-true a b (not-false (eqb a b) e)) }

pub no_count_lem : (d : ℕ) (ds : List ℕ) → Reflects (not (occurs d ds)) (Each (λ count. count ≢ d) ds)
no_count_lem d ds =
    record {
      holds = λ e. each_imp (λ y. d ≢ y) (λ y. y ≢ d) (λ y h s. h (sym s)) ds (occurs-false d ds (not-true (occurs d ds) e));
      fails = λ e h.
          let none = false-occurs d ds (each_imp (λ y. y ≢ d) (λ y. d ≢ y) (λ y h s. h (sym s)) ds h) in
          true≢false (sym (not-false (occurs d ds) e) ∙ none);
    }

pub not-rising : (n : ℕ) (parties : List ℕ) → Reflects (readers_refused n parties) (Rising 0 n parties → ⊥)
not-rising n parties =
    record {
      holds = λ e R. true≢false (sym e ∙ readers_pass n parties R);
      fails = λ e h. h (readers_rise n parties e);
    }

pub either : {s t : Bool} {A B : Type 0} → Reflects s A → Reflects t B → Reflects (s || t) (A ⊎ B)
either {s = true} r q = record { holds = λ e. inl (r.holds refl); fails = λ e h. true≢false e }
either {s = false} r q = record { holds = λ e. inr (q.holds e); fails = λ e. ⊎_elim (r.fails refl) (q.fails e) }

pub both : {s t : Bool} {A B : Type 0} → Reflects s A → Reflects t B → Reflects (s && t) (A × B)
both {s = true} r q = record { holds = λ e. (r.holds refl, q.holds e); fails = λ e h. q.fails e h.1 }
both {s = false} r q = record { holds = λ e. absurd (true≢false (sym e)); fails = λ e h. r.fails refl h.0 }

-- ---- a list of numbers and the grounds for which they are given

-- the first number that is not 0 is that of the first ground that applies, and all are 0 where none does
pub data Tested (qs : List ℕ) (grounds : List Ground) : Type 0 where
  none : first_of qs ≡ 0 → NoneApplies grounds → Tested qs grounds
  some : 0 < first_of qs → FirstApplies (first_of qs) grounds → Tested qs grounds

pub end : Tested [] []
unfolding first_of
end = none refl tt

-- a line of the table in front: a number that is given by a test, and in words. What comes after it need only be so where the test is false
pub line_then : {t : Bool} {A : Type 0} {number : ℕ} {qs : List ℕ} {grounds : List Ground}
    → Reflects t A → (t ≡ false → Tested qs grounds) → Tested (number_if (suc number) t ∷ qs) (ground (suc number) A ∷ grounds)
unfolding first_of
line_then {t = true} {number = number} {qs = qs} r rest =
    let is : first_of (suc number ∷ qs) ≡ suc number = numbered (stop {q = suc number} {qs = qs} (omega arith)) in
    some (omega arith) (inl (r.holds refl, is))
line_then {t = false} {A} {number} {qs} {grounds} r rest = by (rest refl)
  where
    by : Tested qs grounds → Tested (0 ∷ qs) (ground (suc number) A ∷ grounds)
    by (none e n) = none e (r.fails refl, n)
    by (some p f) = some p (inr (r.fails refl, f))

pub line : {t : Bool} {A : Type 0} {number : ℕ} {qs : List ℕ} {grounds : List Ground}
    → Reflects t A → Tested qs grounds → Tested (number_if (suc number) t ∷ qs) (ground (suc number) A ∷ grounds)
line r rest = line_then r (λ _. rest)

-- no two numbers are the first, and none is where no ground applies
pub first-once : (grounds : List Ground) (q k : ℕ) → FirstApplies q grounds → FirstApplies k grounds → q ≡ k
first-once [] q k e f = elim e [ ]
first-once (g ∷ grounds) q k (inl a) (inl b) = a.1 ∙ sym b.1
first-once (g ∷ grounds) q k (inl a) (inr n) = absurd (n.0 a.0)
first-once (g ∷ grounds) q k (inr n) (inl b) = absurd (n.0 b.0)
first-once (g ∷ grounds) q k (inr n) (inr m) = first-once grounds q k n.1 m.1

pub none_first : (grounds : List Ground) (q : ℕ) → NoneApplies grounds → FirstApplies q grounds → ⊥
none_first [] q n e = elim e [ ]
none_first (g ∷ grounds) q n (inl a) = n.0 a.0
none_first (g ∷ grounds) q n (inr f) = none_first grounds q n.1 f.1

-- nor is a number that no ground has
pub first_other : (q : ℕ) (grounds : List Ground) → Each (λ g. eqb q g.number ≡ false) grounds → FirstApplies q grounds → ⊥
first_other q [] n e = elim e [ ]
first_other q (g ∷ grounds) n (inl a) = eqb-false q g.number n.0 a.1
first_other q (g ∷ grounds) n (inr f) = first_other q grounds n.1 f.1

-- both ways
pub none_applies : {qs : List ℕ} {grounds : List Ground} → Tested qs grounds → (first_of qs ≡ 0) ↔ NoneApplies grounds
none_applies (none e n) = (λ _. n, λ _. e)
none_applies {grounds = grounds} (some p f) = (λ e. absurd (let no : ⊥ = omega arith in no), λ n. absurd (none_first grounds _ n f))

pub first_applies : {qs : List ℕ} {grounds : List Ground} {q : ℕ} → Tested qs grounds → 0 < q → (first_of qs ≡ q) ↔ FirstApplies q grounds
first_applies {grounds = grounds} (none e n) p = (λ k. absurd (let no : ⊥ = omega arith in no), λ f. absurd (none_first grounds _ n f))
first_applies {grounds = grounds} (some _ f) p = (λ e. rw e at f, λ g. first-once grounds _ _ f g)

-- ---- what a call answers

-- values exactly where no ground applies, a refusal exactly where it is the first that does
module _ {qs : List ℕ} {grounds : List Ground} (tested : Tested qs grounds) where
  pub accepted_none : (vs ws : List ℕ) → accepted ws ≡ answer (first_of qs) vs → NoneApplies grounds
  accepted_none vs ws e = (none_applies tested).0 (answered_none _ ws vs e).0

  pub refused-first : (v q : ℕ) (vs : List ℕ) → refused q ≡ answer (first_of qs) (v ∷ vs) → FirstApplies q grounds
  refused-first v q vs e =
      let told = answered_some _ q v vs e in
      (first_applies {q = q} tested (omega (arith, told.0, told.1))).0 told.0

  module _ (v : ℕ) where
    value_by : (a : Result ℕ Refusal) → outcome a ≡ answer (first_of qs) (v ∷ []) → NoneApplies grounds → (w : ℕ) × (a ≡ Ok w)
    value_by (Ok w) e n = (w, refl)
    value_by (Err k) e n = absurd (none_first grounds (refusals.number k) n (refused-first v (refusals.number k) [] e))

    refused_by : (q : Refusal) (a : Result ℕ Refusal) → outcome a ≡ answer (first_of qs) (v ∷ []) → FirstApplies (refusals.number q) grounds → a ≡ Err q
    refused_by q (Ok w) e f = absurd (none_first grounds (refusals.number q) (accepted_none (v ∷ []) (w ∷ []) e) f)
    refused_by q (Err k) e f =
        ap Err (number_same k q (first-once grounds (refusals.number k) (refusals.number q) (refused-first v (refusals.number k) [] e) f))

    pub answered_by : (a : Result ℕ Refusal) → outcome a ≡ answer (first_of qs) (v ∷ []) → AnsweredBy grounds v a
    answered_by a e =
        record {
          accepts = (λ told. accepted_none (v ∷ []) (told.0 ∷ []) (sym (ap outcome told.1) ∙ e), value_by a e);
          refuses = λ q. (λ told. refused-first v (refusals.number q) [] (sym (ap outcome told) ∙ e), refused_by q a e);
          value_is = λ w told. (told-accepted a (first_of qs) v e told).1;
        }

-- ---- the scheme's refusal in front of a call's own

pub first-before : (grounds more : List Ground) (q : ℕ) → FirstApplies q grounds → FirstApplies q (grounds ++ more)
first-before [] more q e = elim e [ ]
first-before (g ∷ grounds) more q (inl a) = inl a
first-before (g ∷ grounds) more q (inr f) = inr (f.0, first-before grounds more q f.1)

pub first-after : (grounds more : List Ground) (q : ℕ) → NoneApplies grounds → FirstApplies q more → FirstApplies q (grounds ++ more)
first-after [] more q n f = f
first-after (g ∷ grounds) more q n f = inr (n.0, first-after grounds more q n.1 f)

first_only : (grounds more : List Ground) (q : ℕ) → NoneApplies grounds → FirstApplies q (grounds ++ more) → FirstApplies q more
first_only [] more q n f = f
first_only (g ∷ grounds) more q n (inl a) = absurd (n.0 a.0)
first_only (g ∷ grounds) more q n (inr f) = first_only grounds more q n.1 f.1

nested : {ks qs : List ℕ} {grounds more : List Ground} → Tested ks grounds → (first_of ks ≡ 0 → Tested qs more) → Tested (first_of ks ∷ qs) (grounds ++ more)
unfolding first_of
nested {ks} {qs} {grounds} {more} (none e n) rest = rw e (by (rest e))
  where
    by : Tested qs more → Tested (0 ∷ qs) (grounds ++ more)
    by (none d m) = none d (each_append (λ (g : Ground). g.applies → ⊥) grounds more n m)
    by (some p f) = some p (first-after grounds more (first_of qs) n f)
nested {ks} {qs} {grounds} {more} (some p f) rest =
    let is : first_of (first_of ks ∷ qs) ≡ first_of ks = numbered (stop {q = first_of ks} {qs = qs} p) in
    some (omega arith) (rw is (first-before grounds more (first_of ks) f))

-- refusals 1 to 4

no_fall : (ds : List ℕ) → Reflects (not (falls ds)) ((i : ℕ) × (i + 1 < length ds) × (get_or ds i 0 ≤ get_or ds (i + 1) 0))
no_fall ds =
    record {
      holds = λ e. falls-not ds (not-true (falls ds) e);
      fails = λ e at. let down = falls_at ds (not-false (falls ds) e) at.0 at.1 in omega (arith, down, at.2);
    }

block-too_long : (z : ℕ) (ds : List ℕ) → Reflects (block_refused z ds) (BlockTooLong z ds)
unfolding block_refused
block-too_long z ds =
    record {
      holds = λ e.
          let long = ltb-true max_block (block_length z ds) e in
          (block_length z ds, block_least z ds (block-above z ds (omega arith)), long);
      fails = λ e at.
          let is = least_unique (block_least z ds (least_above at.1)) at.1 in
          omega (arith, ltb-false max_block (block_length z ds) e, is, at.2);
    }

counts_wrong : (n r : ℕ) (ds : List ℕ) → Reflects (counts_refused n r ds) (CountsWrong n r ds)
unfolding counts_refused
counts_wrong n r ds = simp or_assoc (either same (either above (either (no_fall ds) (either above other))))

-- a call's own lines need only be so of an accepted scheme
pub after-accepted : (n r z : ℕ) (ds : List ℕ) {qs : List ℕ} {grounds : List Ground}
    → (refusal n r z ds ≡ 0 → Tested qs grounds) → Tested (refusal n r z ds ∷ qs) (scheme_grounds n r z ds ++ grounds)
unfolding refusal parties_refused thresholds_refused
after-accepted n r z ds rest =
    nested (line (either above above) (line (either same at_least) (line (counts_wrong n r ds) (line (block-too_long z ds) end)))) rest

-- with it a call's answer is read as `answered_by (after-scheme n r z ds (line above (line other end)))`, a step for each of its own tests
pub after-scheme : (n r z : ℕ) (ds : List ℕ) {qs : List ℕ} {grounds : List Ground}
    → Tested qs grounds → Tested (refusal n r z ds ∷ qs) (scheme_grounds n r z ds ++ grounds)
after-scheme n r z ds rest = after-accepted n r z ds (λ _. rest)

-- ---- the check

first_alone : (q : ℕ) → first_of (q ∷ []) ≡ q
unfolding first_of
first_alone zero = refl
first_alone (suc q) = numbered (stop {q = suc q} {qs = []} (omega arith))

module _ (n r z : ℕ) (ds : List ℕ) where
  scheme_tested : Tested (refusal n r z ds ∷ []) (scheme_grounds n r z ds)
  scheme_tested = after-scheme n r z ds end

  pub refused-four : RefusedFour n r z ds
  refused-four passed m least =
      let four = first_applies {q = 4} scheme_tested (omega arith) in
      let three : List Ground = take 3 (scheme_grounds n r z ds) in
      let last : List Ground = ground 4 (BlockTooLong z ds) ∷ [] in (
        λ e.
            ⊎_elim (λ long. rw (least_unique least long.0.1) long.0.2) (λ no. absurd no.1)
            (first_only three last 4 passed (four.0 (first_alone (refusal n r z ds) ∙ e))),
        λ long. sym (first_alone (refusal n r z ds)) ∙ four.1 (first-after three last 4 passed (inl ((m, least, long), refl))),
      )

  counts_right : Admissible n r z ds → CountsWrong n r ds → ⊥
  counts_right h (inl empty) = omega (arith, h.some)
  counts_right h (inr (inl many)) = omega (arith, h.most)
  counts_right h (inr (inr (inl flat))) = omega (arith, h.falling flat.0 flat.1, flat.2)
  counts_right h (inr (inr (inr (inl high)))) = omega (arith, h.top)
  counts_right h (inr (inr (inr (inr last)))) = last h.bottom

  none_of : Admissible n r z ds → NoneApplies (scheme_grounds n r z ds)
  none_of h =
      let block = h.block in (
        ⊎_elim (λ low. omega (arith, h.parties_low)) (λ high. omega (arith, h.parties_high)),
        (
          ⊎_elim (λ low. omega (arith, h.threshold)) (λ full. omega (arith, h.room)),
          (counts_right h, (λ long. omega (arith, block.2, long.2, least_unique block.1 long.1), tt)),
        ),
      )

  admissible : refusal n r z ds ≡ 0 → Admissible n r z ds
  admissible e =
      let f = facts.accepted n r z ds e in
      record {
        parties_low = f.sizes.parties_low;
        parties_high = f.sizes.parties_high;
        threshold = f.sizes.threshold;
        room = f.sizes.room;
        some = f.some;
        most = f.most;
        falling = f.falling;
        top = f.top;
        bottom = f.bottom;
        block = (block_length z ds, f.least, f.limit);
      }

  -- the check answers a scheme, or the number of the first ground that applies
  first-told : (q : Refusal) → refused (refusals.number q) ≡ checked n r z ds → FirstApplies (refusals.number q) (scheme_grounds n r z ds)
  first-told q e =
      let told = scheme-told n r z ds q e in
      (first_applies {q = refusals.number q} scheme_tested (omega (arith, told.0, told.1))).0 (first_alone (refusal n r z ds) ∙ told.0)

  scheme_by : (a : Result Scheme Refusal) → scheme_outcome a ≡ checked n r z ds → Admissible n r z ds → (s : Scheme) × (a ≡ Ok s)
  scheme_by (Ok s) e h = (s, refl)
  scheme_by (Err q) e h = absurd (none_first (scheme_grounds n r z ds) (refusals.number q) (none_of h) (first-told q e))

  refused-scheme : (q : Refusal) (a : Result Scheme Refusal) → scheme_outcome a ≡ checked n r z ds
      → FirstApplies (refusals.number q) (scheme_grounds n r z ds) → a ≡ Err q
  refused-scheme q (Ok s) e f =
      absurd (none_first (scheme_grounds n r z ds) (refusals.number q) (none_of (admissible (facts.accepted-scheme {s = s} e).passed)) f)
  refused-scheme q (Err k) e f =
      ap Err (number_same k q (first-once (scheme_grounds n r z ds) (refusals.number k) (refusals.number q) (first-told k e) f))

  pub check_answers : (a : Result Scheme Refusal) → scheme_outcome a ≡ checked n r z ds → CheckedBy n r z ds a
  check_answers a e =
      let is : (s : Scheme) → a ≡ Ok s → SchemeIs s n r z ds = λ s told. facts.accepted-scheme {s = s} (sym (ap scheme_outcome told) ∙ e) in
      record {
        accepts = (λ told. admissible (is told.0 told.1).passed, scheme_by a e);
        refuses = λ q. (λ told. first-told q (sym (ap scheme_outcome told) ∙ e), refused-scheme q a e);
        n_is = λ s told. (is s told).n_is;
        r_is = λ s told. (is s told).r_is;
        z_is = λ s told. (is s told).z_is;
        block_is = λ s told. rw (is s told).block_is (facts.accepted n r z ds (is s told).passed).least;
        rows_is = λ s told. rw ((is s told).block_is, (is s told).rows_is) (facts.accepted n r z ds (is s told).passed).rows;
      }

pub default_check_answers : (a : Result Scheme Refusal) → scheme_outcome a ≡ checked default_n default_r default_z default_counts
    → CheckedBy default_n default_r default_z default_counts a
default_check_answers = check_answers default_n default_r default_z default_counts
