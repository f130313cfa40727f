-- Request h of document 02, a party's share rebuilt from whole shares, in words: the lines of the table that apply to a call in their order, what it
-- answers by them, and what it leaves; that what was split comes back; that one wrong share is named, and several are noticed. Nothing is asked of the
-- scheme, the parties or the lengths of a call: one that was accepted has shown what it takes. proofs/RebuildCalls.antt proves what a call did,
-- proofs/RebuildSplit.antt what comes of shares that were split. When shares agree is `Agree` in crates/agreement/specs/Agreement.antt.
-- Assumes nothing.
use Rattle.std.specs.Prelude.{◌≡◌, ◌⊎◌, ◌↔◌, ◌≢◌, List, [], ◌∷◌, ◌++◌, ℕ, ◌+◌, ◌*◌, ◌/◌, ◌≤◌, ◌<◌, length, get_or, Err, Ok, Result}
use Rattle.lists.specs.Each.{Each, Distinct, Byte}
use Rattle.lists.specs.Table.{joined, piece}
use Rattle.lists.specs.Differing.{differing}
use Rattle.scheme.specs.Refusals as refusals
use Rattle.scheme.specs.Limits.{max_message}
use Rattle.scheme.specs.Outcome.{accepted}
use Rattle.scheme.specs.Readers.{Rising}
use Rattle.scheme.specs.Grounds.{Ground, ground, NoneApplies, FirstApplies}
use Rattle.family.specs.Message.{Bytes}
use Rattle.staircase.specs.Parameters.{Parameters, Party, rows, blocks_of, padded_blocks_of, share_bytes, output_bytes}
use Rattle.staircase.specs.Shares.{part_of, KeyString, PaddedKeyString}
use Rattle.agreement.specs.Agreement.{share_in, Agree, AgreeWithout, enough}
use Rattle.dealer.specs.Split.{split_output}
use Rattle.dealer.specs.SplitPadded.{split_padded_output}
use Rattle.scheme.specs.declared.refusal.Refusal.{Refusal}
use Rattle.reader.specs.declared.rebuilding.RebuildRefusal.{RebuildRefusal}
use Rattle.reader.specs.declared.rebuilding.RebuildRefusal.TheVariants.{Disagreeing, Refused}
use Rattle.agreement.specs.Rebuild.{disagreeing, rebuild_answer, rebuild_output}
use Rattle.reader.specs.Rebuild.{RebuildCall}
use Rattle.sharing.specs.Calls.{scheme_lines, not_rising}

-- ---- the lines of the table

-- N of whole shares of so many parties: a block has b bytes of each
abbrev pub whole_blocks : Parameters → ℕ → ℕ → ℕ
whole_blocks p parties shares = shares / (parties * rows p)

-- line 7 again: the wanted party is outside 1 to n
abbrev pub no_party : Parameters → ℕ → Ground
no_party p wanted = ground 7 (Party p wanted → ⊥)

-- line 9: no message of an accepted length, in either form, gives so many parties whole shares of so many bytes. It gives each N blocks, and every N from 0
-- up to 16,384 ÷ m rounded down, plus 1, is that of such a message
abbrev pub not_whole : Parameters → ℕ → ℕ → Ground
not_whole p parties shares =
    ground 9
    ((message : ℕ) → message ≤ max_message
    → (shares ≢ parties * share_bytes p (blocks_of p message)) × (shares ≢ parties * share_bytes p (padded_blocks_of p message)))

-- a list of parties, their shares, the wanted party, and a held copy and an output of so many bytes
abbrev pub rebuild_lines : Parameters → List ℕ → List ℕ → ℕ → ℕ → ℕ → List Ground
rebuild_lines p parties shares wanted held out =
    let N : ℕ = whole_blocks p (length parties) (length shares) in
    scheme_lines p
    ++ (not_rising p parties
    ∷ no_party p wanted
    ∷ ground 17 (length parties < enough p)
    ∷ not_whole p (length parties) (length shares)
    ∷ ground 9 ((held ≢ 0) × (held ≢ N * rows p))
    ∷ ground 10 (out ≢ N * rows p)
    ∷ ground 18 (Agree p parties N shares → ⊥)
    ∷ [])

-- its answer: accepted exactly if none applies, that the shares disagree exactly if 18 is the first that does, and else refused with the number of the
-- first. The numbers that come with the first two are what `Rebuilds` says
pub record RebuildAnsweredBy (grounds : List Ground) (a : Result ℕ RebuildRefusal) : Type 0 where
  pub accepts : ((different : ℕ) × (a ≡ Ok different)) ↔ NoneApplies grounds
  pub disagrees : ((party : ℕ) × (a ≡ Err (Disagreeing party))) ↔ FirstApplies 18 grounds
  pub refuses : (q : Refusal) → (a ≡ Err (Refused q)) ↔ FirstApplies (refusals.number q) grounds

-- ---- what a call did

-- an accepted one that answered `different`, of shares of N blocks
pub record RebuiltExactly (p : Parameters) (parties : List ℕ) (N : ℕ) (shares : List ℕ) (wanted : ℕ) (held : List ℕ) (different : ℕ) (after : List ℕ) : Type 0 where
  -- some whole blocks and keys give all the shares, and no others do
  pub agree : Agree p parties N shares
  pub one : (given given' : Agree p parties N shares) → (given.blocks ≡ given'.blocks) × (given.keys ≡ given'.keys)
  -- the output is the share that they give the wanted party
  pub output : (given : Agree p parties N shares) → after ≡ share_in p N given.blocks given.keys wanted
  pub long : length after ≡ N * rows p
  -- the held copy differs from it in so many places, an empty one in none
  pub different_is : different ≡ differing held after
  pub none_held : length held ≡ 0 → different ≡ 0

-- one that named a party, or 0, of shares that do not agree: with fewer than n − r + 2 it names nobody; with as many, the party without whose share all
-- others agree, so that no two are such; and nobody else
pub record NamedExactly (p : Parameters) (parties : List ℕ) (N : ℕ) (shares : List ℕ) (party : ℕ) : Type 0 where
  pub few : length parties < enough p + 2 → party ≡ 0
  pub names : enough p + 2 ≤ length parties → (s : ℕ) → AgreeWithout p parties N shares s → party ≡ s
  pub is : party ≢ 0 → AgreeWithout p parties N shares party

-- by the answer: a call that is not accepted left the output as it was
abbrev pub Rebuilds : Parameters → List ℕ → List ℕ → ℕ → List ℕ → List ℕ → Result ℕ RebuildRefusal → List ℕ → Type 0
Rebuilds p parties shares wanted held before (Ok different) after =
    RebuiltExactly p parties (whole_blocks p (length parties) (length shares)) shares wanted held different after
Rebuilds p parties shares wanted held before (Err (Disagreeing party)) after =
    NamedExactly p parties (whole_blocks p (length parties) (length shares)) shares party × (after ≡ before)
Rebuilds p parties shares wanted held before (Err (Refused number)) after = after ≡ before

pub record RebuildInWords (p : Parameters) (parties shares : List ℕ) (wanted : ℕ) (held before : List ℕ) (a : Result ℕ RebuildRefusal) (after : List ℕ) : Type 0 where
  pub answered : RebuildAnsweredBy (rebuild_lines p parties shares wanted (length held) (length before)) a
  pub wrote : Rebuilds p parties shares wanted held before a after

-- every call with shares that are bytes (`rebuild_in_words` in proofs/RebuildCalls.antt), whatever else it is given
abbrev pub EveryRebuild : Parameters → Type 0
EveryRebuild p =
    (parties shares : List ℕ) (wanted : ℕ) (held before : List ℕ) (a : Result ℕ RebuildRefusal) (after : List ℕ) → Each Byte shares
    → RebuildCall p parties shares wanted held before a after → RebuildInWords p parties shares wanted held before a after

-- the words settle a call (`rebuild_words_settle`): two that fit them, given the same, answered and left the same
abbrev pub RebuildWordsSettle : Parameters → Type 0
RebuildWordsSettle p =
    (parties shares : List ℕ) (wanted : ℕ) (held before : List ℕ) (a a' : Result ℕ RebuildRefusal) (after after' : List ℕ)
    → RebuildInWords p parties shares wanted held before a after → RebuildInWords p parties shares wanted held before a' after'
    → (a ≡ a') × (after ≡ after')

-- ---- shares that were split

-- what holds of all that the splitter writes for a message of an accepted length under keys of the right number: of its N, and of its output
abbrev pub OfSplit : Parameters → (ℕ → List ℕ → Type 0) → Type 0
OfSplit p Holds =
    (message keys : List ℕ) → Each Byte message → length message ≤ max_message → KeyString p (length message) keys
    → (before : List ℕ) → length before ≡ output_bytes p (blocks_of p (length message))
    → Holds (blocks_of p (length message)) (split_output p message keys before)

-- and for a padded message
abbrev pub OfSplitPadded : Parameters → (ℕ → List ℕ → Type 0) → Type 0
OfSplitPadded p Holds =
    (message keys : List ℕ) → Each Byte message → length message ≤ max_message → PaddedKeyString p (length message) keys
    → (before : List ℕ) → length before ≡ output_bytes p (padded_blocks_of p (length message))
    → Holds (padded_blocks_of p (length message)) (split_padded_output p message keys before)

-- what a call asks for: the share of a party, of N blocks, in an output of its length, with a copy of its length or none, whatever that holds
pub record Asked (p : Parameters) (N wanted : ℕ) (held out : List ℕ) : Type 0 where
  pub party : Party p wanted
  pub held_long : (length held ≡ 0) ⊎ (length held ≡ share_bytes p N)
  pub room : length out ≡ share_bytes p N

-- lent whole shares of n − r parties or more, as they were written, the call rebuilds the share that was written for the party asked for, one of them or
-- not, and answers in how many bytes the held copy differs from it
abbrev pub ComesBack : Parameters → ℕ → List ℕ → Type 0
ComesBack p N output =
    (parties : List ℕ) → Rising 0 p.n parties → enough p ≤ length parties
    → (wanted : ℕ) (held out : List ℕ) → Asked p N wanted held out
    → let shares : List ℕ = joined (length parties) (λ a. part_of p N (get_or parties a 0) output) in
    (rebuild_answer p parties shares wanted held (length out) ≡ accepted (differing held (part_of p N wanted output) ∷ []))
    × (rebuild_output p parties shares wanted (length held) out ≡ part_of p N wanted output)

-- of an accepted scheme (`rebuilt_is_split`, `padded_rebuilt_is_split` in proofs/RebuildSplit.antt), what was split comes back
abbrev pub RebuiltIsSplit : Parameters → Type 0
RebuiltIsSplit p = OfSplit p (ComesBack p)

abbrev pub PaddedRebuiltIsSplit : Parameters → Type 0
PaddedRebuiltIsSplit p = OfSplitPadded p (ComesBack p)

-- lent whole shares of n − r + 2 parties or more, as they were written but for the one at place i, which is any other string of bytes of its length, the
-- call answers 18 and names the party at that place, and leaves the output as it was
abbrev pub NamesTheWrong : Parameters → ℕ → List ℕ → Type 0
NamesTheWrong p N output =
    (parties : List ℕ) → Rising 0 p.n parties → enough p + 2 ≤ length parties
    → (shares : List ℕ) → Bytes (length parties * (rows p * N)) shares
    → (i : ℕ) → i < length parties → piece (rows p * N) i shares ≢ part_of p N (get_or parties i 0) output
    → ((a : ℕ) → a < length parties → a ≢ i → piece (rows p * N) a shares ≡ part_of p N (get_or parties a 0) output)
    → (wanted : ℕ) (held out : List ℕ) → Asked p N wanted held out
    → (rebuild_answer p parties shares wanted held (length out) ≡ disagreeing (get_or parties i 0))
    × (rebuild_output p parties shares wanted (length held) out ≡ out)

-- of an accepted scheme (`wrong_named`, `padded_wrong_named`), one wrong share is named
abbrev pub WrongNamed : Parameters → Type 0
WrongNamed p = OfSplit p (NamesTheWrong p)

abbrev pub PaddedWrongNamed : Parameters → Type 0
PaddedWrongNamed p = OfSplitPadded p (NamesTheWrong p)

-- lent whole shares of which n − r or more are as they were written, those at the places `right`, and one is not, that at place i, the call answers 18,
-- whomever it names, and leaves the output as it was. All others are any bytes
abbrev pub NoticesTheWrong : Parameters → ℕ → List ℕ → Type 0
NoticesTheWrong p N output =
    (parties : List ℕ) → Rising 0 p.n parties
    → (shares : List ℕ) → Bytes (length parties * (rows p * N)) shares
    → (right : List ℕ) → Distinct right → enough p ≤ length right
    → Each (λ a. (a < length parties) × (piece (rows p * N) a shares ≡ part_of p N (get_or parties a 0) output)) right
    → (i : ℕ) → i < length parties → piece (rows p * N) i shares ≢ part_of p N (get_or parties i 0) output
    → (wanted : ℕ) (held out : List ℕ) → Asked p N wanted held out
    → ((party : ℕ) × (rebuild_answer p parties shares wanted held (length out) ≡ disagreeing party))
    × (rebuild_output p parties shares wanted (length held) out ≡ out)

-- of an accepted scheme (`wrong_noticed`, `padded_wrong_noticed`), wrong shares are noticed
abbrev pub WrongNoticed : Parameters → Type 0
WrongNoticed p = OfSplit p (NoticesTheWrong p)

abbrev pub PaddedWrongNoticed : Parameters → Type 0
PaddedWrongNoticed p = OfSplitPadded p (NoticesTheWrong p)
