-- The call that rebuilds a share in words: each test of a call reflects the line of the table at its place, what an accepted one wrote is the share that
-- the blocks and keys of all shares give the wanted party, and whom one names that finds no such blocks and keys. And the words settle a call.
-- Assumes nothing.
use Rattle.std.specs.Prelude.{Err, Ok, Result}
use mathlib.Core.Path.{◌≡◌, refl, sym, ap, ◌∙◌}
use mathlib.Core.Bool.{Bool, true, false, cond, not, true≢false}
use mathlib.Core.Logic.{inl, ⊎_elim, ◌≢◌}
use mathlib.Core.List.{List, [], ◌∷◌, ◌++◌}
use Prim.Native.Nat.{ℕ, zero, suc, ◌+◌, ◌-◌, ◌*◌, ◌/◌, ◌≤◌, ◌<◌}
use native.Mathlib.Nat.{le_trans, mul_comm, mul_left_comm, mul-pos, mul-div_cancel}
use native.Mathlib.Decide.{ℕ_discrete}
use native.Mathlib.Omega.{arith}
use lib.Dec.{ltb, eqb}
use lib.ListN.{length, get_or}
use borrow.Author.Tests.{ltb-true, ltb-false, eqb-true, not-false}
use Rattle.lists.specs.Each.{Each, Byte}
use Rattle.lists.specs.Differing.{differing}
use Rattle.lists.proofs.Differing.{differing_empty}
use Rattle.lists.proofs.Tests.{neither, either, lt_or_le, test_positive}
use Rattle.lists.proofs.Each.{each_append}
use Rattle.scheme.specs.declared.refusal.Refusal.{Refusal}
use Rattle.scheme.specs.Refusals as refusals
use Rattle.scheme.specs.Limits.{max_message}
use Rattle.scheme.specs.Readers.{readers_refused, Rising}
use Rattle.scheme.specs.Padding.{most_padded, blocks_held}
use Rattle.scheme.specs.Outcome.{Outcome, accepted, refused, number_if, first_of}
use Rattle.scheme.specs.Check.{refusal}
use Rattle.scheme.specs.Grounds.{Ground, ground, NoneApplies, FirstApplies}
use Rattle.scheme.proofs.Laws.{number_same, number_between, accepted as scheme-facts, block_count_least, Reflects, Tested, end, line, line_then, above, other, both, not-rising, after-accepted, none_first, first-once, first_other, first-before, first-after, none_applies, first_applies, kept, first_none, first_if, readers_rise, parties_distinct, padded_count_least, padded-count_of, padded_count_most, most_full, held-told, held_of}
use Rattle.family.specs.Message.{Bytes}
use Rattle.staircase.specs.Parameters.{Parameters, AcceptedScheme, Party, default_parameters, block, rows, blocks_of, padded_blocks_of, share_bytes}
use Rattle.staircase.proofs.Sizes.{block_some, rows_some}
use Rattle.agreement.specs.Agreement.{Agree, enough, rebuilt, agrees, named, Lent, Agreement}
use Rattle.agreement.proofs.Laws.{agreement, names_one, names_none, rebuilt_long}
use Rattle.reader.specs.declared.rebuilding.RebuildRefusal.{RebuildRefusal}
use Rattle.reader.specs.declared.rebuilding.RebuildRefusal.TheVariants.{Disagreeing, Refused}
use Rattle.agreement.specs.Rebuild.{disagreeing, blocks_lent, wanted_refused, held_refused, lent_refusal, rebuild_answer, rebuild_output}
use Rattle.reader.specs.Rebuild.{rebuild_outcome, RebuildCall}
use Rattle.sharing.specs.Calls.{scheme_lines, not_rising}
use Rattle.sharing.specs.Rebuild.{whole_blocks, no_party, not_whole, rebuild_lines, RebuildAnsweredBy, RebuiltExactly, NamedExactly, Rebuilds, EveryRebuild, RebuildWordsSettle}

-- ---- the tests

pub no_party_lem : (p : Parameters) (wanted : ℕ) → Reflects (wanted_refused p.n wanted) (Party p wanted → ⊥)
unfolding wanted_refused
no_party_lem p wanted =
    record {
      holds = λ e P.
          ⊎_elim (λ (z : eqb wanted 0 ≡ true). let n : ⊥ = omega (arith, eqb-true wanted 0 z, P.0) in n)
          (λ (l : ltb p.n wanted ≡ true). let n : ⊥ = omega (arith, ltb-true p.n wanted l, P.1) in n)
          (either (eqb wanted 0) (ltb p.n wanted) e);
      fails = λ e h.
          let passed = neither (eqb wanted 0) (ltb p.n wanted) e in
          h (test_positive wanted passed.0, ltb-false p.n wanted passed.1);
    }

pub wrong_copy : (held share : ℕ) → Reflects (held_refused held share) ((held ≢ 0) × (held ≢ share))
unfolding held_refused
wrong_copy held share = both other other

-- a message has no more blocks than a padded one
pub blocks_few : (p : Parameters) → AcceptedScheme p → (message : ℕ) → message ≤ max_message → blocks_of p message ≤ most_padded (block p)
blocks_few p A message short =
    let padded-enough = (padded_count_least (block p) message (block_some p A)).enough in
    le_trans ((block_count_least (block p) message (block_some p A)).fewest (padded_blocks_of p message) (omega (arith, padded-enough)))
    (padded_count_most (block p) message short (block_some p A))

-- the blocks that the bytes of all shares tell, where each block has some
module _ (p : Parameters) (parties shares : ℕ) where
  abbrev told : ℕ
  told = blocks_lent p parties shares

  told_most : told ≤ most_padded (block p)
  unfolding blocks_lent
  told_most =
      ⊎_elim (λ (h : 0 < told). (held-told (most_padded (block p)) (parties * rows p) shares h).1) (λ (h : told ≤ 0). omega arith) (lt_or_le 0 told)

  in_blocks : (N : ℕ) → parties * (N * rows p) ≡ N * (parties * rows p)
  in_blocks N = mul_left_comm parties N (rows p)

  pub told_of : 0 < parties * rows p → (N : ℕ) → N ≤ most_padded (block p) → shares ≡ parties * (N * rows p) → told ≡ N
  unfolding blocks_lent
  told_of some N few is =
      ap (blocks_held (most_padded (block p)) (parties * rows p)) (is ∙ in_blocks N) ∙ held_of (most_padded (block p)) (parties * rows p) N some few

  -- no blocks are those of the empty message, and any others, up to the most, those of a padded message that fills all but the last of them
  not_whole_lem : AcceptedScheme p → 0 < parties * rows p → Reflects (not (eqb shares (parties * share_bytes p told))) (not_whole p parties shares).applies
  not_whole_lem A some =
      let bytes : ℕ → ℕ = λ N. parties * share_bytes p N in
      record {
        holds = λ e message short.
            let other-blocks : (N : ℕ) → N ≤ most_padded (block p) → shares ≢ parties * share_bytes p N =
            λ N few is. other.holds e (is ∙ ap bytes (sym (told_of some N few is))) in (
              other-blocks (blocks_of p message) (blocks_few p A message short),
              other-blocks (padded_blocks_of p message) (padded_count_most (block p) message short (block_some p A)),
            );
        fails = λ e h.
            let is : shares ≡ parties * share_bytes p told = eqb-true _ _ (not-false _ e) in
            ⊎_elim
            (λ (l : 0 < told).
            (h ((told - 1) * block p) (most_full (block p) told (block_some p A) told_most)).1
            (is ∙ ap bytes (sym (padded-count_of (block p) told (block_some p A) l))))
            (λ (l : told ≤ 0).
            let none : told ≡ blocks_of p 0 = omega (arith, (block_count_least (block p) 0 (block_some p A)).fewest 0 (omega arith)) in
            (h 0 (omega arith)).0 (is ∙ ap bytes none))
            (lt_or_le 0 told);
      }

  quotient : 0 < parties * rows p → shares ≡ parties * share_bytes p told → told ≡ whole_blocks p parties shares
  quotient some is =
      sym (ap (λ (x : ℕ). x / (parties * rows p)) (is ∙ in_blocks told) ∙ mul-div_cancel told some)

-- ---- the lines before 18

pub some_bytes : (p : Parameters) → AcceptedScheme p → (parties : ℕ) → enough p ≤ parties → 0 < parties * rows p
some_bytes p A parties many =
    let room = (scheme-facts p.n p.r p.z p.counts A).sizes.room in
    mul-pos (omega (arith, room)) (rows_some p A)

pub rising-lent : (p : Parameters) → AcceptedScheme p → (parties : List ℕ) → Rising 0 p.n parties → (N : ℕ) (shares : List ℕ)
    → Bytes (length parties * (rows p * N)) shares → Lent p parties N shares
rising-lent p A parties rising N shares whole =
    let right = parties_distinct p.n parties rising in
    record { scheme = A; distinct = right.0; inside = right.1; bytes = whole }

pub agree_tested : {p : Parameters} {parties : List ℕ} {N : ℕ} {shares : List ℕ} → Agreement p parties N shares
    → Reflects (agrees p parties N shares) (Agree p parties N shares)
agree_tested X = record { holds = X.agreed; fails = λ e G. true≢false (sym (X.tested G) ∙ e) }

module _ (p : Parameters) (parties shares : List ℕ) (wanted held out : ℕ) where
  abbrev N : ℕ
  N = whole_blocks p (length parties) (length shares)

  abbrev told_blocks : ℕ
  told_blocks = blocks_lent p (length parties) (length shares)

  -- in words, and as they are tested
  abbrev lent_lines : List Ground
  lent_lines =
      scheme_lines p
      ++ (not_rising p parties
      ∷ no_party p wanted
      ∷ ground 17 (length parties < enough p)
      ∷ not_whole p (length parties) (length shares)
      ∷ ground 9 ((held ≢ 0) × (held ≢ N * rows p))
      ∷ ground 10 (out ≢ N * rows p)
      ∷ [])

  abbrev lent_numbers : List ℕ
  lent_numbers =
      refusal p.n p.r p.z p.counts
      ∷ number_if 7 (readers_refused p.n parties)
      ∷ number_if 7 (wanted_refused p.n wanted)
      ∷ number_if 17 (ltb (length parties) (enough p))
      ∷ number_if 9 (not (eqb (length shares) (length parties * share_bytes p told_blocks)))
      ∷ number_if 9 (held_refused held (share_bytes p told_blocks))
      ∷ number_if 10 (not (eqb out (share_bytes p told_blocks)))
      ∷ []

  last_lines : told_blocks ≡ N → Tested (number_if 9 (held_refused held (share_bytes p told_blocks)) ∷ number_if 10 (not (eqb out (share_bytes p told_blocks))) ∷ [])
      (ground 9 ((held ≢ 0) × (held ≢ N * rows p)) ∷ ground 10 (out ≢ N * rows p) ∷ [])
  last_lines e = rw e (line (wrong_copy held (N * rows p)) (line other end))

  lent_tested : Tested lent_numbers lent_lines
  lent_tested =
      after-accepted p.n p.r p.z p.counts
      (λ A.
      line (not-rising p.n parties)
      (line (no_party_lem p wanted)
      (line_then above
      (λ many.
      let some = some_bytes p A (length parties) (ltb-false (length parties) (enough p) many) in
      line_then (not_whole_lem p (length parties) (length shares) A some)
      (λ whole. last_lines (quotient p (length parties) (length shares) some (eqb-true _ _ (not-false _ whole))))))))

  not_eighteen : FirstApplies 18 lent_lines → ⊥
  not_eighteen = first_other 18 lent_lines (refl, (refl, (refl, (refl, (refl, (refl, (refl, (refl, (refl, (refl, tt))))))))))

  -- 18 comes behind them
  abbrev last_line : List Ground
  last_line = ground 18 (Agree p parties N shares → ⊥) ∷ []

  first-line : 0 < first_of lent_numbers → FirstApplies (first_of lent_numbers) (lent_lines ++ last_line) × (first_of lent_numbers ≢ 18)
  first-line h =
      let first = (first_applies lent_tested h).0 refl in
      (first-before lent_lines last_line (first_of lent_numbers) first, λ e. not_eighteen (rw e at first))

  -- what holds where none of them applies: the blocks that are told are those of the words
  record Passed : Type 0 where
    good : AcceptedScheme p
    rising : Rising 0 p.n parties
    many : enough p ≤ length parties
    blocks_told : told_blocks ≡ N
    whole : length shares ≡ length parties * (rows p * N)

  passed : first_of lent_numbers ≡ 0 → Passed
  passed e =
      let scheme = first_none _ _ e in
      let seven = first_if 6 (readers_refused p.n parties) _ scheme.1 in
      let wanted-seven = first_if 6 (wanted_refused p.n wanted) _ seven.1 in
      let seventeen = first_if 16 (ltb (length parties) (enough p)) _ wanted-seven.1 in
      let nine = first_if 8 (not (eqb (length shares) (length parties * share_bytes p told_blocks))) _ seventeen.1 in
      let many : enough p ≤ length parties = ltb-false _ _ seventeen.0 in
      let whole : length shares ≡ length parties * share_bytes p told_blocks = eqb-true _ _ (not-false _ nine.0) in
      let blocks_told : told_blocks ≡ N = quotient p (length parties) (length shares) (some_bytes p scheme.0 (length parties) many) whole in
      record {
        good = scheme.0;
        rising = readers_rise p.n parties seven.0;
        many = many;
        blocks_told = blocks_told;
        whole = whole ∙ ap (λ (x : ℕ). length parties * x) (mul_comm told_blocks (rows p) ∙ ap (λ (x : ℕ). rows p * x) blocks_told);
      }

  module _ (bytes : Each Byte shares) (P : Passed) where
    lent : Lent p parties N shares
    lent = rising-lent p P.good parties P.rising N shares (P.whole, bytes)

    decided : Agreement p parties N shares
    decided = agreement p parties N shares lent P.many

    disagree : agrees p parties N shares ≡ false → Agree p parties N shares → ⊥
    disagree = (agree_tested decided).fails

    no_line : first_of lent_numbers ≡ 0 → agrees p parties N shares ≡ true → NoneApplies (lent_lines ++ last_line)
    no_line e t = each_append (λ (g : Ground). g.applies → ⊥) lent_lines last_line ((none_applies lent_tested).0 e) ((λ h. h (decided.agreed t)), tt)

    eighteen : first_of lent_numbers ≡ 0 → agrees p parties N shares ≡ false → FirstApplies 18 (lent_lines ++ last_line)
    eighteen e t = first-after lent_lines last_line 18 ((none_applies lent_tested).0 e) (inl (disagree t, refl))

    named_exactly : (Agree p parties N shares → ⊥) → NamedExactly p parties N shares (named p parties N shares)
    named_exactly not-all =
        ⊎_elim
        (λ (l : length parties < enough p + 2).
        let nobody = names_none p parties N shares l in
        record { few = λ _. nobody; names = λ many. absurd (let n : ⊥ = omega arith in n); is = λ some. absurd (some nobody) })
        (λ (l : enough p + 2 ≤ length parties).
        let found = names_one p parties N shares lent l not-all in
        record { few = λ h. absurd (let n : ⊥ = omega arith in n); names = λ _. found.names; is = found.is })
        (lt_or_le (length parties) (enough p + 2))

    rebuilt_exactly : (h : List ℕ) → agrees p parties N shares ≡ true
        → RebuiltExactly p parties N shares wanted h (differing h (rebuilt p parties N shares wanted)) (rebuilt p parties N shares wanted)
    rebuilt_exactly h e =
        record {
          agree = decided.agreed e;
          one = λ G H. (
            decided.blocks_unique G.blocks G.keys G.blocks_are G.keys_are G.give
                ∙ sym (decided.blocks_unique H.blocks H.keys H.blocks_are H.keys_are H.give),
            decided.keys_unique G.blocks G.keys G.blocks_are G.keys_are G.give
                ∙ sym (decided.keys_unique H.blocks H.keys H.blocks_are H.keys_are H.give),
          );
          output = λ G. decided.share_rebuilt G.blocks G.keys G.blocks_are G.keys_are G.give wanted;
          long = rebuilt_long p parties N shares lent P.many wanted ∙ mul_comm (rows p) N;
          different_is = refl;
          none_held = differing_empty h (rebuilt p parties N shares wanted);
        }

-- ---- the answer

-- what an answer tells of the first refusal q before 18, of the test t for 18, and of the values of an accepted call and of 18
abbrev Tells : ℕ → Bool → ℕ → ℕ → Result ℕ RebuildRefusal → Type 0
Tells q t different party (Ok d) = (q ≡ 0) × (t ≡ true) × (d ≡ different)
Tells q t different party (Err (Disagreeing s)) = (q ≡ 0) × (t ≡ false) × (s ≡ party)
Tells q t different party (Err (Refused k)) = (0 < q) × (q ≡ refusals.number k)

tells_passed : (t : Bool) (different party : ℕ) (a : Result ℕ RebuildRefusal)
    → rebuild_outcome a ≡ cond t (accepted (different ∷ [])) (disagreeing party) → Tells 0 t different party a
tells_passed true different party (Ok d) e = (refl, refl, ap (λ (o : Outcome). get_or o.values 0 0) e)
tells_passed false different party (Ok d) e = absurd (let n : ◌≡◌ {A = ℕ} 0 18 = ap (λ (o : Outcome). o.number) e in omega arith)
tells_passed true different party (Err (Disagreeing s)) e = absurd (let n : ◌≡◌ {A = ℕ} 18 0 = ap (λ (o : Outcome). o.number) e in omega arith)
tells_passed false different party (Err (Disagreeing s)) e = (refl, refl, ap (λ (o : Outcome). get_or o.values 0 0) e)
tells_passed true different party (Err (Refused k)) e = absurd (let n : ◌≡◌ {A = ℕ} 0 1 = ap (λ (o : Outcome). length o.values) e in omega arith)
tells_passed false different party (Err (Refused k)) e = absurd (let n : ◌≡◌ {A = ℕ} 0 1 = ap (λ (o : Outcome). length o.values) e in omega arith)

tells_refused : (q : ℕ) (t : Bool) (different party : ℕ) (a : Result ℕ RebuildRefusal) → rebuild_outcome a ≡ refused (suc q) → Tells (suc q) t different party a
tells_refused q t different party (Ok d) e = absurd (let n : 0 ≡ suc q = ap (λ (o : Outcome). o.number) e in omega arith)
tells_refused q t different party (Err (Disagreeing s)) e = absurd (let n : ◌≡◌ {A = ℕ} 1 0 = ap (λ (o : Outcome). length o.values) e in omega arith)
tells_refused q t different party (Err (Refused k)) e = (omega arith, sym (ap (λ (o : Outcome). o.number) e))

tells : (q : ℕ) (t : Bool) (different party : ℕ) (a : Result ℕ RebuildRefusal)
    → rebuild_outcome a ≡ cond (eqb q 0) (cond t (accepted (different ∷ [])) (disagreeing party)) (refused q) → Tells q t different party a
tells zero t different party a e = tells_passed t different party a e
tells (suc q) t different party a e = tells_refused q t different party a (e ∙ sym (kept {k = suc q} _ (omega arith)))

-- what an answer says of the lines; all else that the record of it says follows
abbrev LineOf : List Ground → Result ℕ RebuildRefusal → Type 0
LineOf grounds (Ok d) = NoneApplies grounds
LineOf grounds (Err (Disagreeing s)) = FirstApplies 18 grounds
LineOf grounds (Err (Refused k)) = FirstApplies (refusals.number k) grounds

-- 18 is no number of another refusal
never_18 : (q : Refusal) → refusals.number q ≡ 18 → ⊥
never_18 q e = omega (arith, (number_between q).1)

module _ (grounds : List Ground) where
  accepted_by : (a : Result ℕ RebuildRefusal) → LineOf grounds a → NoneApplies grounds → (d : ℕ) × (a ≡ Ok d)
  accepted_by (Ok d) l n = (d, refl)
  accepted_by (Err (Disagreeing s)) l n = absurd (none_first grounds 18 n l)
  accepted_by (Err (Refused k)) l n = absurd (none_first grounds (refusals.number k) n l)

  disagreed_by : (a : Result ℕ RebuildRefusal) → LineOf grounds a → FirstApplies 18 grounds → (s : ℕ) × (a ≡ Err (Disagreeing s))
  disagreed_by (Ok d) l f = absurd (none_first grounds 18 l f)
  disagreed_by (Err (Disagreeing s)) l f = (s, refl)
  disagreed_by (Err (Refused k)) l f = absurd (never_18 k (first-once grounds (refusals.number k) 18 l f))

  refused_by : (q : Refusal) (a : Result ℕ RebuildRefusal) → LineOf grounds a → FirstApplies (refusals.number q) grounds → a ≡ Err (Refused q)
  refused_by q (Ok d) l f = absurd (none_first grounds (refusals.number q) l f)
  refused_by q (Err (Disagreeing s)) l f = absurd (never_18 q (first-once grounds (refusals.number q) 18 f l))
  refused_by q (Err (Refused k)) l f =
      ap (λ (x : Refusal). Err (Refused x)) (number_same k q (first-once grounds (refusals.number k) (refusals.number q) l f))

  answered_of : (a : Result ℕ RebuildRefusal) → LineOf grounds a → RebuildAnsweredBy grounds a
  answered_of a l =
      record {
        accepts = (λ t. rw t.1 at l, accepted_by a l);
        disagrees = (λ t. rw t.1 at l, disagreed_by a l);
        refuses = λ q. (λ t. rw t at l, refused_by q a l);
      }

module _ (p : Parameters) (parties shares : List ℕ) (wanted : ℕ) (held before : List ℕ) (bytes : Each Byte shares) where
  abbrev lent_blocks : ℕ
  lent_blocks = blocks_lent p (length parties) (length shares)

  abbrev q : ℕ
  q = lent_refusal p parties (length shares) wanted (length held) (length before)

  call_told : (a : Result ℕ RebuildRefusal) → rebuild_outcome a ≡ rebuild_answer p parties shares wanted held (length before)
      → Tells q (agrees p parties lent_blocks shares) (differing held (rebuilt p parties lent_blocks shares wanted)) (named p parties lent_blocks shares) a
  unfolding rebuild_answer
  call_told a e = tells q (agrees p parties lent_blocks shares) _ _ a e

  at-passed : q ≡ 0 → Passed p parties shares wanted (length held) (length before)
  unfolding lent_refusal
  at-passed e = passed p parties shares wanted (length held) (length before) e

  did : (a : Result ℕ RebuildRefusal) (after : List ℕ) → RebuildCall p parties shares wanted held before a after → Rebuilds p parties shares wanted held before a after
  unfolding rebuild_output
  did (Ok d) after C =
      let T = call_told (Ok d) C.0 in
      let P = at-passed T.0 in
      let is : after ≡ rebuilt p parties lent_blocks shares wanted = C.1 ∙ rw (T.0, T.1) in
      rw (is, T.2, P.blocks_told) (rebuilt_exactly p parties shares wanted (length held) (length before) bytes P held (rw P.blocks_told at T.1))
  did (Err (Disagreeing s)) after C =
      let T = call_told (Err (Disagreeing s)) C.0 in
      let P = at-passed T.0 in
      let not-all = disagree p parties shares wanted (length held) (length before) bytes P (rw P.blocks_told at T.1) in
      (rw (T.2, P.blocks_told) (named_exactly p parties shares wanted (length held) (length before) bytes P not-all), C.1 ∙ rw (T.0, T.1))
  did (Err (Refused k)) after C = C.1 ∙ sym (kept _ (call_told (Err (Refused k)) C.0).0)

  line_of : (a : Result ℕ RebuildRefusal) → rebuild_outcome a ≡ rebuild_answer p parties shares wanted held (length before)
      → LineOf (rebuild_lines p parties shares wanted (length held) (length before)) a
  unfolding lent_refusal
  line_of (Ok d) e =
      let T = call_told (Ok d) e in
      let P = at-passed T.0 in
      no_line p parties shares wanted (length held) (length before) bytes P T.0 (rw P.blocks_told at T.1)
  line_of (Err (Disagreeing s)) e =
      let T = call_told (Err (Disagreeing s)) e in
      let P = at-passed T.0 in
      eighteen p parties shares wanted (length held) (length before) bytes P T.0 (rw P.blocks_told at T.1)
  line_of (Err (Refused k)) e =
      let T = call_told (Err (Refused k)) e in
      rw T.1 at (first-line p parties shares wanted (length held) (length before) T.0).0

pub rebuild_in_words : (p : Parameters) → EveryRebuild p
rebuild_in_words p parties shares wanted held before a after bytes C =
    record {
      answered =
          answered_of (rebuild_lines p parties shares wanted (length held) (length before)) a (line_of p parties shares wanted held before bytes a C.0);
      wrote = did p parties shares wanted held before bytes a after C;
    }

-- the form without a scheme
pub default_rebuild_in_words : EveryRebuild default_parameters
default_rebuild_in_words = rebuild_in_words default_parameters

-- ---- the words settle a call

one_party : {p : Parameters} {parties : List ℕ} {N : ℕ} {shares : List ℕ} {s s' : ℕ}
    → NamedExactly p parties N shares s → NamedExactly p parties N shares s' → s ≡ s'
one_party {p} {parties} {s = s} {s' = s'} X X' =
    ⊎_elim (λ (l : length parties < enough p + 2). X.few l ∙ sym (X'.few l))
    (λ (l : enough p + 2 ≤ length parties). by l (ℕ_discrete s 0) (ℕ_discrete s' 0))
    (lt_or_le (length parties) (enough p + 2))
  where
    by : enough p + 2 ≤ length parties → Dec (s ≡ 0) → Dec (s' ≡ 0) → s ≡ s'
    by l (no n) d = sym (X'.names l s (X.is n))
    by l (yes e) (no n) = X.names l s' (X'.is n)
    by l (yes e) (yes e') = e ∙ sym e'

pub rebuild_words_settle : (p : Parameters) → RebuildWordsSettle p
rebuild_words_settle p parties shares wanted held before (Ok d) a' after after' R R' =
    let other = R'.answered.accepts.1 (R.answered.accepts.0 (d, refl)) in
    let W' : Rebuilds p parties shares wanted held before (Ok other.0) after' = rw other.1 at R'.wrote in
    let same = R.wrote.output R.wrote.agree ∙ sym (W'.output R.wrote.agree) in
    (ap Ok (R.wrote.different_is ∙ ap (differing held) same ∙ sym W'.different_is) ∙ sym other.1, same)
rebuild_words_settle p parties shares wanted held before (Err (Disagreeing s)) a' after after' R R' =
    let other = R'.answered.disagrees.1 (R.answered.disagrees.0 (s, refl)) in
    let W' : Rebuilds p parties shares wanted held before (Err (Disagreeing other.0)) after' = rw other.1 at R'.wrote in
    (ap (λ (x : ℕ). Err (Disagreeing x)) (one_party R.wrote.0 W'.0) ∙ sym other.1, R.wrote.1 ∙ sym W'.1)
rebuild_words_settle p parties shares wanted held before (Err (Refused k)) a' after after' R R' =
    let other = (R'.answered.refuses k).1 ((R.answered.refuses k).0 refl) in
    let W' : Rebuilds p parties shares wanted held before (Err (Refused k)) after' = rw other at R'.wrote in
    (sym other, R.wrote ∙ sym W')
