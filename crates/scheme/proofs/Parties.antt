-- Refusal 7: it does not apply exactly where the party numbers rise from 1 to n, and then they are distinct, and few; and the test as the code makes
-- it, party by party.
-- Assumes nothing.
use mathlib.Core.Path.{◌≡◌, refl}
use mathlib.Core.Bool.{Bool, true, false, ◌||◌, not, or-true}
use mathlib.Core.Logic.{◌≢◌}
use mathlib.Core.List.{List, [], ◌∷◌}
use Prim.Native.Nat.{ℕ, ◌+◌, ◌≤◌, ◌<◌, zero-le}
use native.Mathlib.Numerals.{add-one}
use native.Mathlib.Omega.{arith}
use lib.Dec.{ltb, leb}
use lib.ListN.{length, get_or, drop, drop_of_length-le}
use lib.Seq.{drop-cons}
use borrow.Author.Tests.{ltb-true, leb-true, not-false, lt-ltb, le-ltb, le-leb, lt-leb}
use Rattle.lists.specs.Each.{Each, Distinct}
use Rattle.lists.proofs.Each.{each_imp}
use Rattle.lists.proofs.Tests.{both, neither}
use Rattle.scheme.specs.Limits.{max_parties}
use Rattle.scheme.specs.Check.{refusal}
use Rattle.scheme.specs.Readers.{rises, within, readers_refused, Rising}
use Rattle.scheme.proofs.SchemeFacts.{accepted}

-- ---- the test and what it stands for

rising : (below n : ℕ) (parties : List ℕ) → rises below parties ≡ true → within n parties ≡ true → Rising below n parties
unfolding rises within
rising below n [] e w = tt
rising below n (s ∷ parties) e w =
    let up = both (ltb below s) (rises s parties) e in
    let most = both (leb s n) (within n parties) w in
    (ltb-true below s up.0, leb-true s n most.0, rising s n parties up.1 most.1)

passes : (below n : ℕ) (parties : List ℕ) → Rising below n parties → (rises below parties ≡ true) × (within n parties ≡ true)
unfolding rises within
passes below n [] R = (refl, refl)
passes below n (s ∷ parties) R =
    let rest = passes s n parties R.2 in
    (rw (lt-ltb below s R.0, rest.0), rw (le-leb s n R.1, rest.1))

pub readers_rise : (n : ℕ) (parties : List ℕ) → readers_refused n parties ≡ false → Rising 0 n parties
unfolding readers_refused
readers_rise n parties e =
    let tests = neither (not (rises 0 parties)) (not (within n parties)) e in
    rising 0 n parties (not-false (rises 0 parties) tests.0) (not-false (within n parties) tests.1)

pub readers_pass : (n : ℕ) (parties : List ℕ) → Rising 0 n parties → readers_refused n parties ≡ false
unfolding readers_refused
readers_pass n parties R = let tests = passes 0 n parties R in rw (tests.0, tests.1)

-- numbers that rise are distinct and lie between
apart : (below n : ℕ) (parties : List ℕ) → Rising below n parties → Distinct parties × Each (λ s. (below < s) × (s ≤ n)) parties
apart below n [] R = (tt, tt)
apart below n (s ∷ parties) R =
    let rest = apart s n parties R.2 in (
      (each_imp (λ y. (s < y) × (y ≤ n)) (λ y. s ≢ y) (λ y h q. omega arith) parties rest.1, rest.0),
      ((R.0, R.1), each_imp (λ y. (s < y) × (y ≤ n)) (λ y. (below < y) × (y ≤ n)) (λ y h. (omega arith, h.1)) parties rest.1),
    )

pub parties_distinct : (n : ℕ) (parties : List ℕ) → Rising 0 n parties → Distinct parties × Each (λ s. (1 ≤ s) × (s ≤ n)) parties
parties_distinct n parties R = apart 0 n parties R

-- numbers that rise to n are at most n, and an accepted scheme has few parties
rising_short : (below n : ℕ) (parties : List ℕ) → below ≤ n → Rising below n parties → below + length parties ≤ n
rising_short below n [] h R = omega arith
rising_short below n (s ∷ parties) h R = omega (arith, rising_short s n parties R.1 R.2)

pub parties_few : (n r z : ℕ) (ds : List ℕ) → refusal n r z ds ≡ 0 → (parties : List ℕ) → readers_refused n parties ≡ false
    → length parties ≤ max_parties
parties_few n r z ds good parties passed =
    omega (arith, rising_short 0 n parties zero-le (readers_rise n parties passed), (accepted n r z ds good).sizes.parties_high)

-- ---- the loop: the test of the parties from place i on, after one with the number `below`

unfoldable pub refused_from : ℕ → ℕ → List ℕ → Bool
refused_from n below parties = not (rises below parties) || not (within n parties)

module _ (n : ℕ) (parties : List ℕ) where
  pub refused-start : readers_refused n parties ≡ refused_from n 0 parties
  unfolding readers_refused refused_from
  refused-start = refl

  module _ (below i : ℕ) where
    pub refused_end : length parties ≤ i → refused_from n below (drop i parties) ≡ false
    unfolding refused_from rises within
    refused_end h = rw (drop_of_length-le parties h)

    module _ (h : i < length parties) where
      pub refused_low : get_or parties i 0 ≤ below → refused_from n below (drop i parties) ≡ true
      unfolding refused_from rises within
      refused_low l = simp (drop-cons parties i 0 h, le-ltb below (get_or parties i 0) l)

      pub refused_high : n < get_or parties i 0 → refused_from n below (drop i parties) ≡ true
      unfolding refused_from rises within
      refused_high l = simp (drop-cons parties i 0 h, lt-leb (get_or parties i 0) n l, or-true)

      pub refused-next : below < get_or parties i 0 → get_or parties i 0 ≤ n
          → refused_from n below (drop i parties) ≡ refused_from n (get_or parties i 0) (drop (i + 1) parties)
      unfolding refused_from rises within
      refused-next l m = simp (add-one, drop-cons parties i 0 h, lt-ltb below (get_or parties i 0) l, le-leb (get_or parties i 0) n m)
