-- The first refusal that applies, from facts about the parameters, and facts about the parameters from the refusals that do not apply:
-- each test of the check is read both ways. What the code's check answers at each way out follows.
-- Assumes nothing.
use mathlib.Core.Path.{◌≡◌, refl, sym}
use mathlib.Core.Bool.{Bool, true, false, cond, or-true}
use mathlib.Core.List.{List, [], ◌∷◌}
use Prim.Native.Nat.{ℕ, ◌+◌, ◌-◌, ◌/◌, ◌≤◌, ◌<◌}
use native.Mathlib.Omega.{arith}
use lib.Dec.{ltb, leb, eqb}
use borrow.Author.Tests.{lt-ltb, le-ltb, le-leb, lt-leb, eq-eqb, ne_eqb, ltb-false, leb-false, eqb-false}
use Rattle.lists.proofs.Tests.{neither}
use borrow.Author.Rules.{rules}
use Rattle.std.specs.Prelude.{Result, Ok, Err}
use Rattle.scheme.specs.declared.refusal.Refusal.{Refusal}
use Rattle.scheme.specs.declared.refusal.Refusal.TheVariants.{Parties, AbsentOrColluding, Counts}
use Rattle.scheme.specs.Refusals as refusals
use Rattle.scheme.specs.Limits.{max_parties, max_block}
use Rattle.scheme.specs.Outcome.{accepted, refused}
use Rattle.scheme.specs.BlockLength.{block_length}
use Rattle.scheme.specs.Check.{parties_refused, thresholds_refused, counts_refused, block_refused, refusal, rows_of_block, checked}
use Rattle.scheme.specs.Facts.{ThresholdsFit}
use Rattle.scheme.specs.Accepted.{IsAccepted}
use Rattle.scheme.specs.Tried.{tests}
use Rattle.scheme.proofs.Answers.{done, stop_true, stop_over, pass_false, pass_within, answer_none, answers, numbered, first_if}

pub sizes : (n r z : ℕ) → parties_refused n ≡ false → thresholds_refused n r z ≡ false → ThresholdsFit n r z
unfolding parties_refused thresholds_refused
sizes n r z p t =
    let p2 = neither (ltb n 2) (ltb max_parties n) p in
    let t2 = neither (eqb z 0) (leb n (r + z)) t in
    record {
      parties_low = ltb-false n 2 p2.0;
      parties_high = ltb-false max_parties n p2.1;
      threshold = omega (arith, eqb-false z 0 t2.0);
      room = leb-false n (r + z) t2.1;
    }

pub parties_pass : (n : ℕ) → 2 ≤ n → n ≤ max_parties → parties_refused n ≡ false
unfolding parties_refused
parties_pass n l h = rw (le-ltb n 2 l, le-ltb max_parties n h)

pub thresholds_pass : (n r z : ℕ) → 0 < z → r + z < n → thresholds_refused n r z ≡ false
unfolding thresholds_refused
thresholds_pass n r z p h = rw (ne_eqb z 0 (λ e. omega arith), lt-leb n (r + z) h)

-- past refusals 1 to 3
module _ (n r z : ℕ) (ds : List ℕ) (p : parties_refused n ≡ false) (t : thresholds_refused n r z ≡ false) (s : counts_refused n r ds ≡ false) where
  refusal_0 : block_length z ds ≤ max_block → refusal n r z ds ≡ 0
  unfolding refusal block_refused
  refusal_0 h = numbered (pass_false 1 p (pass_false 2 t (pass_false 3 s (pass_within 4 h done))))

-- no refusal applies
pub record Passed (n r z : ℕ) (ds : List ℕ) : Type 0 where
  pub parties : parties_refused n ≡ false
  pub thresholds : thresholds_refused n r z ≡ false
  pub counts : counts_refused n r ds ≡ false
  pub block : block_length z ds ≤ max_block

pub passed : (n r z : ℕ) (ds : List ℕ) → refusal n r z ds ≡ 0 → Passed n r z ds
unfolding refusal block_refused
passed n r z ds e =
    let one = first_if _ _ _ e in
    let two = first_if _ _ _ one.1 in
    let three = first_if _ _ _ two.1 in
    let four = first_if _ _ _ three.1 in
    record { parties = one.0; thresholds = two.0; counts = three.0; block = ltb-false max_block (block_length z ds) four.0 }

-- ---- the tests before the search, as the code makes them

pub parties_low : (n : ℕ) → n < 2 → parties_refused n ≡ true
unfolding parties_refused
parties_low n h = rw (lt-ltb n 2 h)

pub parties_high : (n : ℕ) → max_parties < n → parties_refused n ≡ true
unfolding parties_refused
parties_high n h = rw (lt-ltb max_parties n h, or-true)

pub none_colludes : (n r z : ℕ) → z ≡ 0 → thresholds_refused n r z ≡ true
unfolding thresholds_refused
none_colludes n r z e = rw (eq-eqb z 0 e)

pub no_room : (n r z : ℕ) → n ≤ r + z → thresholds_refused n r z ≡ true
unfolding thresholds_refused
no_room n r z h = rw (le-leb n (r + z) h, or-true)

-- what each refusal that they come to is for the check, and what they leave
pub record Stopped (n r z : ℕ) (ds : List ℕ) (q : Refusal) : Type 0 where
  pub refused_is : refused (refusals.number q) ≡ checked n r z ds
  pub some : 0 < refusals.number q
  pub before_search : refusals.number q < 4

pub record Left (n r z : ℕ) (ds : List ℕ) : Type 0 where
  pub parties : parties_refused n ≡ false
  pub thresholds : thresholds_refused n r z ≡ false
  pub counts : counts_refused n r ds ≡ false

module _ (n r z : ℕ) (ds : List ℕ) where
  tests_by : Bool → Bool → Bool → Result Unit Refusal
  tests_by p t s = cond p (Err Parties) (cond t (Err AbsentOrColluding) (cond s (Err Counts) (Ok tt)))

  stopped : (p t s : Bool) → parties_refused n ≡ p → thresholds_refused n r z ≡ t → counts_refused n r ds ≡ s
      → (q : Refusal) → tests_by p t s ≡ Err q → Stopped n r z ds q
  unfolding checked refusal tests_by
  stopped true t s p-is t-is s-is q e =
      let is : Parties ≡ q = cc in
      let at_it : Stopped n r z ds Parties = record { refused_is = answers (stop_true p-is); some = omega arith; before_search = omega arith } in
      rw is at at_it
  stopped false true s p-is t-is s-is q e =
      let is : AbsentOrColluding ≡ q = cc in
      let at_it : Stopped n r z ds AbsentOrColluding =
      record { refused_is = answers (pass_false 1 p-is (stop_true t-is)); some = omega arith; before_search = omega arith } in
      rw is at at_it
  stopped false false true p-is t-is s-is q e =
      let is : Counts ≡ q = cc in
      let at_it : Stopped n r z ds Counts =
      record { refused_is = answers (pass_false 1 p-is (pass_false 2 t-is (stop_true s-is))); some = omega arith; before_search = omega arith } in
      rw is at at_it
  stopped false false false p-is t-is s-is q e = absurd (search rules)

  pub tests-stopped : (q : Refusal) → tests n r z ds ≡ Err q → Stopped n r z ds q
  unfolding tests_by
  tests-stopped q e = stopped (parties_refused n) (thresholds_refused n r z) (counts_refused n r ds) refl refl refl q e

  left : (p t s : Bool) → parties_refused n ≡ p → thresholds_refused n r z ≡ t → counts_refused n r ds ≡ s → tests_by p t s ≡ Ok tt → Left n r z ds
  unfolding tests_by
  left true t s p-is t-is s-is e = absurd (search rules)
  left false true s p-is t-is s-is e = absurd (search rules)
  left false false true p-is t-is s-is e = absurd (search rules)
  left false false false p-is t-is s-is e = record { parties = p-is; thresholds = t-is; counts = s-is }

  pub tests-left : tests n r z ds ≡ Ok tt → Left n r z ds
  unfolding tests_by
  tests-left e = left (parties_refused n) (thresholds_refused n r z) (counts_refused n r ds) refl refl refl e

  -- and with the block length
  module _ (left : Left n r z ds) where
    pub block_long : max_block < block_length z ds → refused 4 ≡ checked n r z ds
    unfolding checked refusal block_refused
    block_long above = answers (pass_false 1 left.parties (pass_false 2 left.thresholds (pass_false 3 left.counts (stop_over above))))

    pub all-passed : (b k : ℕ) → b ≡ block_length z ds → k ≡ n - r - z → b ≤ max_block → accepted (n ∷ r ∷ z ∷ b ∷ b / k ∷ []) ≡ checked n r z ds
    unfolding checked rows_of_block
    all-passed b k is k-is h = rw (is, k-is) (sym (answer_none _ _ (refusal_0 n r z ds left.parties left.thresholds left.counts (omega arith))))

    pub accepted_left : (b k : ℕ) → b ≡ block_length z ds → k ≡ n - r - z → b ≤ max_block → IsAccepted n r z ds b (b / k)
    unfolding rows_of_block
    accepted_left b k is k-is h =
        record {
          passed = refusal_0 n r z ds left.parties left.thresholds left.counts (omega arith);
          block_is = is;
          rows_is = rw (is, k-is) refl;
        }
