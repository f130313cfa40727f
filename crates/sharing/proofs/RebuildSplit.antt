-- A share rebuilt from shares that were split, in both forms of message: it is the one that was split, one wrong share is named, and several
-- are noticed as long as enough right ones are lent.
-- Assumes nothing.
use mathlib.Core.Path.{◌≡◌, refl, sym, ap, ◌∙◌}
use mathlib.Core.Bool.{true}
use mathlib.Core.Logic.{⊎_elim, ◌≢◌}
use mathlib.Core.List.{List, [], ◌∷◌, map}
use Prim.Native.Nat.{ℕ, ◌*◌, ◌≤◌, ◌<◌}
use native.Mathlib.Nat.{le_trans, mul_comm}
use native.Mathlib.Omega.{arith}
use lib.ListN.{length, get_or, length-map}
use Rattle.lists.specs.Each.{Each, Distinct, Byte}
use Rattle.lists.specs.Table.{joined, piece}
use Rattle.lists.specs.Without.{without}
use Rattle.lists.specs.Differing.{differing}
use Rattle.lists.proofs.Each.{each_get_d, each_imp, each_joined, each_mapped}
use Rattle.lists.proofs.Joined.{length-joined, joined_same, piece-joined}
use Rattle.lists.proofs.Without.{length_without, without_each, each_without, distinct_without}
use Rattle.scheme.specs.Readers.{Rising}
use Rattle.scheme.specs.Padding.{most_padded}
use Rattle.scheme.specs.Outcome.{accepted}
use Rattle.scheme.proofs.Laws.{default_accepted, refuted, readers_pass, parties_distinct, done, pass, pass_within, pass_false, pass_same, numbered, padded_count_most}
use Rattle.family.specs.Message.{Bytes, padded}
use Rattle.family.specs.Padding.{marked}
use Rattle.family.specs.Family.{shares_of_blocks}
use Rattle.family.proofs.Message.{padded-bytes}
use Rattle.family.proofs.Padding.{marked-bytes}
use Rattle.family.proofs.Shares.{length_share}
use Rattle.staircase.specs.Parameters.{Parameters, AcceptedScheme, Party, default_parameters, block, rows, blocks_of, padded_blocks_of, key_bytes, share_bytes}
use Rattle.staircase.specs.Shares.{staircase, shares, padded_shares, part_of}
use Rattle.staircase.proofs.Construction.{share_bytes_lem}
use Rattle.staircase.proofs.Hiding.{part_is_share}
use Rattle.staircase.proofs.Sizes.{block_some}
use Rattle.agreement.specs.Agreement.{share_in, GiveAll, Agree, enough, rebuilt, agrees, named, Agreement}
use Rattle.agreement.proofs.Laws.{agreement, same_share, names_one, to_all}
use Rattle.dealer.proofs.Laws.{none_applies, written, padded_none_applies, padded-written}
use Rattle.agreement.specs.Rebuild.{disagreeing, blocks_lent, lent_refusal, rebuild_answer, rebuild_output}
use Rattle.sharing.specs.Rebuild.{OfSplit, OfSplitPadded, Asked, ComesBack, NamesTheWrong, NoticesTheWrong, RebuiltIsSplit, PaddedRebuiltIsSplit, WrongNamed, PaddedWrongNamed, WrongNoticed, PaddedWrongNoticed}
use Rattle.sharing.proofs.RebuildCalls.{no_party_lem, wrong_copy, blocks_few, told_of, some_bytes, rising-lent, agree_tested}
use Rattle.lists.proofs.Places.{distinct_few, places-apart}

-- ---- whole shares of N blocks that are lent

module _ (p : Parameters) (A : AcceptedScheme p) (N : ℕ) (fits : N ≤ most_padded (block p)) (parties : List ℕ) (rising : Rising 0 p.n parties)
    (many : enough p ≤ length parties) (shares : List ℕ) (whole : Bytes (length parties * (rows p * N)) shares) where
  decided : Agreement p parties N shares
  decided = agreement p parties N shares (rising-lent p A parties rising N shares whole) many

  long : length shares ≡ length parties * share_bytes p N
  long = whole.0 ∙ ap (λ (x : ℕ). length parties * x) (mul_comm (rows p) N)

  told : blocks_lent p (length parties) (length shares) ≡ N
  told = told_of p (length parties) (length shares) (some_bytes p A (length parties) many) N fits long

  module _ (wanted : ℕ) (held out : List ℕ) (Q : Asked p N wanted held out) where
    passes : lent_refusal p parties (length shares) wanted (length held) (length out) ≡ 0
    unfolding lent_refusal
    passes =
        numbered
        (pass A
        (pass_false 7 (readers_pass p.n parties rising)
        (pass_false 7 (refuted (no_party_lem p wanted) (λ n. n Q.party))
        (pass_within 17 many
        (pass_same 9 (long ∙ rw told)
        (pass_false 9 (refuted (wrong_copy (length held) _) (λ h. ⊎_elim h.0 (λ e. h.1 (e ∙ rw told)) Q.held_long))
        (pass_same 10 (Q.room ∙ rw told) done)))))))

    -- where they agree
    answer-rebuilt : agrees p parties N shares ≡ true
        → rebuild_answer p parties shares wanted held (length out) ≡ accepted (differing held (rebuilt p parties N shares wanted) ∷ [])
    unfolding rebuild_answer
    answer-rebuilt e = simp (passes, told, e)

    output-rebuilt : agrees p parties N shares ≡ true → rebuild_output p parties shares wanted (length held) out ≡ rebuilt p parties N shares wanted
    unfolding rebuild_output
    output-rebuilt e = simp (passes, told, e)

  -- and where they do not
  module _ (none : Agree p parties N shares → ⊥) where
    disagreed : (wanted : ℕ) (held out : List ℕ) → Asked p N wanted held out
        → (rebuild_answer p parties shares wanted held (length out) ≡ disagreeing (named p parties N shares))
        × (rebuild_output p parties shares wanted (length held) out ≡ out)
    unfolding rebuild_answer rebuild_output
    disagreed wanted held out Q =
        let e = refuted (agree_tested decided) none in
        (simp (passes wanted held out Q, told, e), simp (passes wanted held out Q, told, e))

-- ---- shares of N whole blocks under their keys

module _ (p : Parameters) (A : AcceptedScheme p) (N : ℕ) (fits : N ≤ most_padded (block p)) (blocks keys : List ℕ) (B : Bytes (N * block p) blocks)
    (K : Bytes (key_bytes p N) keys) where
  abbrev output : List ℕ
  output = shares_of_blocks (staircase p) p.n N blocks keys

  abbrev size : ℕ
  size = rows p * N

  part_at : (s : ℕ) → Party p s → part_of p N s output ≡ share_in p N blocks keys s
  part_at s P = part_is_share p N blocks keys s P

  party_at : (parties : List ℕ) → Rising 0 p.n parties → (a : ℕ) → a < length parties → Party p (get_or parties a 0)
  party_at parties rising a h = each_get_d {A = ℕ} (Party p) parties a 0 h (parties_distinct p.n parties rising).1

  share_long : (s : ℕ) → length (share_in p N blocks keys s) ≡ size
  unfolding staircase
  share_long s = length_share (staircase p) N blocks keys s

  comes_back : ComesBack p N output
  comes_back parties rising many wanted held out Q =
      let sent : List ℕ = joined (length parties) (λ a. part_of p N (get_or parties a 0) output) in
      let is : sent ≡ joined (length parties) (λ a. share_in p N blocks keys (get_or parties a 0)) =
      joined_same {A = ℕ} (length parties) _ _ (λ a h. part_at (get_or parties a 0) (party_at parties rising a h)) in
      let whole : Bytes (length parties * size) sent = (
        ap length is ∙ length-joined {A = ℕ} (length parties) size _ (λ a _. share_long (get_or parties a 0)),
        rw is (each_joined {A = ℕ} Byte (length parties) _ (λ a _. share_bytes_lem p A N blocks keys B K (get_or parties a 0))),
      ) in
      let give : GiveAll p parties N sent blocks keys =
      λ a h. sym (ap (piece size a) is ∙ piece-joined {A = ℕ} (length parties) size _ (λ a _. share_long (get_or parties a 0)) a h) in
      let X = decided p A N fits parties rising many sent whole in
      let agree = X.tested record { blocks = blocks; keys = keys; blocks_are = B; keys_are = K; give = give } in
      let share : rebuilt p parties N sent wanted ≡ part_of p N wanted output =
      X.share_rebuilt blocks keys B K give wanted ∙ sym (part_at wanted Q.party) in (
        answer-rebuilt p A N fits parties rising many sent whole wanted held out Q agree ∙ ap (λ (l : List ℕ). accepted (differing held l ∷ [])) share,
        output-rebuilt p A N fits parties rising many sent whole wanted held out Q agree ∙ share,
      )

  -- one of the shares is not that of the blocks and keys, and those of enough parties are: no blocks and keys give all, since they would give every party
  -- the same
  module _ (parties : List ℕ) (rising : Rising 0 p.n parties) (shares : List ℕ) (i : ℕ) (inside : i < length parties)
      (wrong : piece (rows p * N) i shares ≢ part_of p N (get_or parties i 0) output) where
    as_split : (G : Agree p parties N shares) (a : ℕ) → a < length parties → piece (rows p * N) a shares ≡ part_of p N (get_or parties a 0) output
        → share_in p N G.blocks G.keys (get_or parties a 0) ≡ share_in p N blocks keys (get_or parties a 0)
    as_split G a h right = G.give a h ∙ right ∙ part_at (get_or parties a 0) (party_at parties rising a h)

    not-all : (among : List ℕ) → enough p ≤ length among → Distinct among → Each (Party p) among
        → ((G : Agree p parties N shares) → Each (λ s. share_in p N G.blocks G.keys s ≡ share_in p N blocks keys s) among) → Agree p parties N shares → ⊥
    not-all among many apart parties-all same G =
        let s : ℕ = get_or parties i 0 in
        wrong
        (sym (G.give i inside)
        ∙ same_share p A among many apart parties-all N G.blocks blocks G.keys keys G.blocks_are B G.keys_are K (same G) s
        ∙ sym (part_at s (party_at parties rising i inside)))

  names_the_wrong : NamesTheWrong p N output
  names_the_wrong parties rising many shares whole i inside wrong right wanted held out Q =
      let enough-all : enough p ≤ length parties = omega arith in
      let left : enough p ≤ length (without i parties) = omega (arith, length_without parties i inside) in
      let L = rising-lent p A parties rising N shares whole in
      let none =
      not-all parties rising shares i inside wrong (without i parties) left (distinct_without parties i L.distinct)
      (each_without (Party p) parties i L.inside)
      (λ G.
      without_each (λ s. share_in p N G.blocks G.keys s ≡ share_in p N blocks keys s) parties i 0
      (λ a h n. as_split parties rising shares i inside wrong G a h (right a h n))) in
      let others = to_all p parties N shares L i blocks keys (λ a h n. sym (right a h n ∙ part_at (get_or parties a 0) (party_at parties rising a h))) in
      let named_is = (names_one p parties N shares L many none).names (get_or parties i 0)
      record {
        place = i;
        inside = inside;
        party_is = refl;
        others = record { blocks = blocks; keys = keys; blocks_are = B; keys_are = K; give = others };
      } in
      let said = disagreed p A N fits parties rising enough-all shares whole none wanted held out Q in
      (said.0 ∙ ap disagreeing named_is, said.1)

  notices_the_wrong : NoticesTheWrong p N output
  notices_the_wrong parties rising shares whole right apart many given i inside wrong wanted held out Q =
      let at : ℕ → ℕ = λ a. get_or parties a 0 in
      let Given : ℕ → Type 0 = λ a. (a < length parties) × (piece (rows p * N) a shares ≡ part_of p N (get_or parties a 0) output) in
      let below : Each (λ a. a < length parties) right = each_imp Given (λ a. a < length parties) (λ a h. h.0) right given in
      let enough-all : enough p ≤ length parties = le_trans many (distinct_few (length parties) right apart below) in
      let L = rising-lent p A parties rising N shares whole in
      let none =
      not-all parties rising shares i inside wrong (map at right) (rw length-map many) (places-apart parties L.distinct right apart below)
      (each_mapped (Party p) at right (each_imp Given (λ a. Party p (at a)) (λ a h. party_at parties rising a h.0) right given))
      (λ G.
      each_mapped (λ s. share_in p N G.blocks G.keys s ≡ share_in p N blocks keys s) at right
      (each_imp Given (λ a. share_in p N G.blocks G.keys (at a) ≡ share_in p N blocks keys (at a))
      (λ a h. as_split parties rising shares i inside wrong G a h.0 h.1) right given)) in
      let said = disagreed p A N fits parties rising enough-all shares whole none wanted held out Q in
      ((named p parties N shares, said.0), said.1)

-- ---- what the splitters write is that, in both forms of message

module _ (p : Parameters) (A : AcceptedScheme p) (Holds : ℕ → List ℕ → Type 0)
    (holds : (N : ℕ) → N ≤ most_padded (block p) → (blocks keys : List ℕ) → Bytes (N * block p) blocks → Bytes (key_bytes p N) keys
    → Holds N (shares_of_blocks (staircase p) p.n N blocks keys)) where
  of_split : OfSplit p Holds
  unfolding shares
  of_split message keys bytes short K before room =
      rw (written p message keys before (none_applies p A (length message) (length keys) (length before) short K.0 room))
      (holds (blocks_of p (length message)) (blocks_few p A (length message) short) (padded (block p) message) keys
      (padded-bytes (block p) message (block_some p A) bytes) K)

  of_split_padded : OfSplitPadded p Holds
  unfolding padded_shares
  of_split_padded message keys bytes short K before room =
      rw (padded-written p message keys before (padded_none_applies p A (length message) (length keys) (length before) short K.0 room))
      (holds (padded_blocks_of p (length message)) (padded_count_most (block p) (length message) short (block_some p A)) (marked (block p) message) keys
      (marked-bytes (block p) message (block_some p A) bytes) K)

pub rebuilt_is_split : (p : Parameters) → AcceptedScheme p → RebuiltIsSplit p
rebuilt_is_split p A = of_split p A (ComesBack p) (comes_back p A)

pub padded_rebuilt_is_split : (p : Parameters) → AcceptedScheme p → PaddedRebuiltIsSplit p
padded_rebuilt_is_split p A = of_split_padded p A (ComesBack p) (comes_back p A)

pub wrong_named : (p : Parameters) → AcceptedScheme p → WrongNamed p
wrong_named p A = of_split p A (NamesTheWrong p) (names_the_wrong p A)

pub padded_wrong_named : (p : Parameters) → AcceptedScheme p → PaddedWrongNamed p
padded_wrong_named p A = of_split_padded p A (NamesTheWrong p) (names_the_wrong p A)

pub wrong_noticed : (p : Parameters) → AcceptedScheme p → WrongNoticed p
wrong_noticed p A = of_split p A (NoticesTheWrong p) (notices_the_wrong p A)

pub padded_wrong_noticed : (p : Parameters) → AcceptedScheme p → PaddedWrongNoticed p
padded_wrong_noticed p A = of_split_padded p A (NoticesTheWrong p) (notices_the_wrong p A)

-- ---- the forms without a scheme

pub default_rebuilt_is_split : RebuiltIsSplit default_parameters
default_rebuilt_is_split = rebuilt_is_split default_parameters default_accepted

pub default_padded_rebuilt_is_split : PaddedRebuiltIsSplit default_parameters
default_padded_rebuilt_is_split = padded_rebuilt_is_split default_parameters default_accepted

pub default_wrong_named : WrongNamed default_parameters
default_wrong_named = wrong_named default_parameters default_accepted

pub default_padded_wrong_named : PaddedWrongNamed default_parameters
default_padded_wrong_named = padded_wrong_named default_parameters default_accepted

pub default_wrong_noticed : WrongNoticed default_parameters
default_wrong_noticed = wrong_noticed default_parameters default_accepted

pub default_padded_wrong_noticed : PaddedWrongNoticed default_parameters
default_padded_wrong_noticed = padded_wrong_noticed default_parameters default_accepted
