-- Whom a disagreement names: at most one party is such that all others agree, and it is the one that the search finds.
-- Assumes nothing.
use mathlib.Core.Path.{◌≡◌, sym, ap, ◌∙◌}
use mathlib.Core.Bool.{true≢false}
use mathlib.Core.Logic.{◌≢◌, ⊎_elim}
use mathlib.Core.List.{List}
use Prim.Native.Nat.{ℕ, ◌+◌, ◌-◌, ◌*◌, ◌≤◌, ◌<◌}
use native.Mathlib.Nat.{suc-mul}
use native.Mathlib.Decide.{ℕ_discrete}
use native.Mathlib.Omega.{arith}
use lib.ListN.{length, get_or, get_or-eq_default}
use borrow.Author.Tests.{le-ltb, lt-ltb}
use Rattle.lists.specs.Each.{Each, Byte}
use Rattle.lists.specs.Table.{piece}
use Rattle.lists.specs.Without.{without, without_piece, skipped}
use Rattle.lists.specs.FirstFrom.{first_from}
use Rattle.lists.proofs.Tests.{lt_or_le}
use Rattle.lists.proofs.Each.{each_of}
use Rattle.lists.proofs.FirstFrom.{first_found}
use Rattle.lists.proofs.Without.{length_without, each_without, distinct_without}
use Rattle.lists.proofs.Skipped.{skipped_other, skipped-apart, skipped_below, skipped-back, unskipped, unskipped_below, get_or-without, length-without_piece, piece-without, each_without_piece}
use Rattle.staircase.specs.Parameters.{Parameters, Party, rows}
use Rattle.agreement.specs.Agreement.{share_in, GiveAll, Agree, AgreeWithout, enough, agrees_without, named, Lent, Agreement, Named, NamedIs, NoneNamed}
use Rattle.agreement.proofs.Agreement.{same_share, agreement}

module _ (p : Parameters) (parties : List ℕ) (N : ℕ) (shares : List ℕ) (L : Lent p parties N shares) where
  abbrev c : ℕ
  c = length parties

  abbrev w : ℕ
  w = rows p * N

  fewer : (i : ℕ) → i < c → length (without i parties) + 1 ≡ c
  fewer i h = omega (arith, length_without parties i h)

  without_long : (i : ℕ) → i < c → length (without_piece w i shares) ≡ length (without i parties) * w
  without_long i h =
      omega (
        arith,
        length-without_piece w shares i c L.bytes.0 h,
        L.bytes.0,
        suc-mul (length (without i parties)) w,
        ap (λ (x : ℕ). x * w) (length_without parties i h),
      )

  -- without one, they are still lent
  pub lent-without : (i : ℕ) → i < c → Lent p (without i parties) N (without_piece w i shares)
  lent-without i h =
      record {
        scheme = L.scheme;
        distinct = distinct_without parties i L.distinct;
        inside = each_without (Party p) parties i L.inside;
        bytes = (without_long i h, each_without_piece w shares i c L.bytes.0 h Byte L.bytes.1);
      }

  -- blocks and keys that give all but the share at place i
  abbrev GiveBut : ℕ → List ℕ → List ℕ → Type 0
  GiveBut i blocks keys = (a : ℕ) → a < c → a ≢ i → share_in p N blocks keys (get_or parties a 0) ≡ piece w a shares

  pub but_of : (i : ℕ) → i < c → (blocks keys : List ℕ) → GiveAll p (without i parties) N (without_piece w i shares) blocks keys → GiveBut i blocks keys
  but_of i hi blocks keys G a ha n =
      let u : unskipped i a + 1 < c = unskipped_below i a c n hi ha in
      let b = skipped-back i a n in
      rw (← b)
      (ap (share_in p N blocks keys) (sym (get_or-without parties i (unskipped i a)))
      ∙ G (unskipped i a) (omega (arith, fewer i hi))
      ∙ piece-without w shares i c L.bytes.0 hi (unskipped i a) u)

  -- where two are left out and enough are left, all agree
  module _ (many : enough p + 2 ≤ c) (i j : ℕ) (less : i < j) (hj : j < c) (G : Agree p (without i parties) N (without_piece w i shares))
      (H : Agree p (without j parties) N (without_piece w j shares)) where
    abbrev both : List ℕ
    both = without i (without j parties)

    give : GiveBut i G.blocks G.keys
    give = but_of i (omega arith) G.blocks G.keys G.give

    give' : GiveBut j H.blocks H.keys
    give' = but_of j hj H.blocks H.keys H.give

    both_long : length both + 2 ≡ c
    both_long = omega (arith, fewer j hj, length_without (without j parties) i (omega (arith, fewer j hj)))

    abbrev Same : ℕ → Type 0
    Same s = share_in p N G.blocks G.keys s ≡ share_in p N H.blocks H.keys s

    same_at_lem : Each (λ s. share_in p N G.blocks G.keys s ≡ share_in p N H.blocks H.keys s) both
    same_at_lem =
        each_of Same both 0
        (λ a h.
        let x_below : skipped i a + 1 < c = omega (arith, skipped_below i a (c - 1) (omega (arith, both_long)), both_long) in
        let q-below : skipped j (skipped i a) < c = skipped_below j (skipped i a) c x_below in
        rw (get_or-without (without j parties) i a, get_or-without parties j (skipped i a))
        (give (skipped j (skipped i a)) q-below (skipped-apart i j (skipped i a) less (skipped_other i a))
        ∙ sym (give' (skipped j (skipped i a)) q-below (skipped_other j (skipped i a)))))

    -- so both give every party the same
    same_for : (s : ℕ) → share_in p N G.blocks G.keys s ≡ share_in p N H.blocks H.keys s
    same_for =
        same_share p L.scheme both (omega (arith, both_long)) (distinct_without (without j parties) i (distinct_without parties j L.distinct))
        (each_without (Party p) (without j parties) i (each_without (Party p) parties j L.inside))
        N G.blocks H.blocks G.keys H.keys G.blocks_are H.blocks_are G.keys_are H.keys_are same_at_lem

    gives_at : (a : ℕ) → a < c → Dec (a ≡ i) → share_in p N G.blocks G.keys (get_or parties a 0) ≡ piece w a shares
    gives_at a h (no n) = give a h n
    gives_at a h (yes e) = same_for (get_or parties a 0) ∙ give' a h (λ q. omega arith)

    pub all-agree : Agree p parties N shares
    all-agree =
        record {
          blocks = G.blocks;
          keys = G.keys;
          blocks_are = G.blocks_are;
          keys_are = G.keys_are;
          give = λ a h. gives_at a h (ℕ_discrete a i);
        }

  -- ---- where all do not agree

  module _ (many : enough p + 2 ≤ c) (not-all : Agree p parties N shares → ⊥) where
    one_place : (i j : ℕ) → i < c → j < c → Agree p (without i parties) N (without_piece w i shares) → Agree p (without j parties) N (without_piece w j shares)
        → i ≡ j
    one_place i j hi hj G H =
        ⊎_elim (λ (l : i < j). absurd (not-all (all-agree many i j l hj G H)))
        (λ (l : j ≤ i).
        ⊎_elim (λ (m : j < i). absurd (not-all (all-agree many j i m hi H G))) (λ (m : i ≤ j). omega arith) (lt_or_le j i))
        (lt_or_le i j)

    one : (s s' : ℕ) → AgreeWithout p parties N shares s → AgreeWithout p parties N shares s' → s ≡ s'
    one s s' G H =
        sym G.party_is
        ∙ ap (λ (x : ℕ). get_or parties x 0) (one_place G.place H.place G.inside H.inside G.others H.others)
        ∙ H.party_is

    -- the test of the search
    decides : (i : ℕ) → i < c → Agreement p (without i parties) N (without_piece w i shares)
    decides i h = agreement p (without i parties) N (without_piece w i shares) (lent-without i h) (omega (arith, fewer i h))

    abbrev found : ℕ
    found = first_from (agrees_without p parties N shares) c 0

    named_is : named p parties N shares ≡ get_or parties found 0
    unfolding named
    named_is = rw (le-ltb c (enough p + 2) many)

    -- the search ends inside the list where some place passes
    found_inside : (i : ℕ) → i < c → Agree p (without i parties) N (without_piece w i shares) → found < c
    found_inside i h G =
        ⊎_elim (λ (l : found < c). l)
        (λ (l : c ≤ found).
        absurd
        (true≢false
        (sym ((decides i h).tested G) ∙ (first_found (agrees_without p parties N shares) c 0).before i (omega arith) (omega arith))))
        (lt_or_le found c)

    found_one : found < c → AgreeWithout p parties N shares (named p parties N shares)
    found_one h =
        record {
          place = found;
          inside = h;
          party_is = sym named_is;
          others = (decides found h).agreed ((first_found (agrees_without p parties N shares) c 0).here (omega arith));
        }

    names : (s : ℕ) → AgreeWithout p parties N shares s → named p parties N shares ≡ s
    names s G = one (named p parties N shares) s (found_one (found_inside G.place G.inside G.others)) G

    is : named p parties N shares ≢ 0 → AgreeWithout p parties N shares (named p parties N shares)
    is some =
        ⊎_elim found_one (λ (l : c ≤ found). absurd (some (named_is ∙ get_or-eq_default parties 0 l))) (lt_or_le found c)

    pub named_of : Named p parties N shares
    named_of = record { one = one; names = names; is = is }

pub names_one : (p : Parameters) → NamedIs p
names_one p parties N shares L many not-all = named_of p parties N shares L many not-all

pub names_none : (p : Parameters) → NoneNamed p
unfolding named
names_none p parties N shares few = rw (lt-ltb (length parties) (enough p + 2) few)
