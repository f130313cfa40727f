-- The opener for a range of the message (document 02, e): its answer, and its output, that range of what the full opening writes.
-- Assumes nothing.
use Rattle.std.specs.Prelude.{◌≡◌, true, cond, not, List, [], ◌∷◌, ℕ, ◌+◌, ◌*◌, ◌≤◌, ◌<◌, ltb, eqb, length, get_or, take, drop, Result}
use Rattle.lists.specs.Each.{occurs}
use Rattle.scheme.specs.Limits.{max_message}
use Rattle.scheme.specs.declared.refusal.Refusal.{Refusal}
use Rattle.scheme.specs.Outcome.{Outcome, number_if, first_of, answer, outcome}
use Rattle.scheme.specs.Check.{refusal}
use Rattle.scheme.specs.Readers.{readers_refused}
use Rattle.family.specs.Message.{Bytes}
use Rattle.staircase.specs.Parameters.{Parameters, AcceptedScheme, block, prefix_rows, blocks_of}
use Rattle.staircase.specs.Exactness.{prefix_bytes, opened_string}
use Rattle.order.specs.ReadingOrder.{row_in_turn, Turns}
use Rattle.order.specs.RowsTaken.{rows_taken, Wanted, Earliest}

-- the number of rows that are taken of each block, of the P rows of d parties
abbrev pub taken_rows : Parameters → ℕ → ℕ → ℕ → ℕ
taken_rows p d start long = rows_taken (block p) p.z p.counts d start long

-- the first refusal that applies to a message's length, the start and the length of a range, a list of parties, and prefixes and an output of so
-- many bytes
unfoldable pub range_refusal : Parameters → ℕ → ℕ → ℕ → List ℕ → ℕ → ℕ → ℕ
range_refusal p message start long parties prefixes out =
    first_of
    (refusal p.n p.r p.z p.counts
    ∷ number_if 5 (ltb max_message message)
    ∷ number_if 6 (not (occurs (length parties) p.counts))
    ∷ number_if 7 (readers_refused p.n parties)
    ∷ number_if 15 (ltb message (start + long))
    ∷ number_if 9 (not (eqb prefixes (prefix_bytes p (length parties) (blocks_of p message))))
    ∷ number_if 10 (not (eqb out long))
    ∷ [])

-- accepted: the number of prefix bytes used, those of the rows taken of all blocks, d × rows taken × N
unfoldable pub range_answer : Parameters → ℕ → ℕ → ℕ → List ℕ → ℕ → ℕ → Outcome
range_answer p message start long parties prefixes out =
    answer (range_refusal p message start long parties prefixes out)
    (length parties * taken_rows p (length parties) start long * blocks_of p message ∷ [])

-- the output after the call: that range of the opened message, or what it held before where the call is refused
unfoldable pub range_output : Parameters → ℕ → ℕ → ℕ → List ℕ → List ℕ → List ℕ → List ℕ
range_output p message start long parties prefixes before =
    cond (eqb (range_refusal p message start long parties (length prefixes) (length before)) 0)
    (take long (drop start (take message (opened_string p parties (blocks_of p message) prefixes))))
    before

-- a call of it, as its contract has it: what it answers, and what an output that held `before` holds after it
abbrev pub RangeCall : Parameters → ℕ → ℕ → ℕ → List ℕ → List ℕ → List ℕ → Result ℕ Refusal → List ℕ → Type 0
RangeCall p message start long parties prefixes before a after =
    (outcome a ≡ range_answer p message start long parties (length prefixes) (length before))
    × (after ≡ range_output p message start long parties prefixes before)

-- ---- what is not taken does not matter

-- two strings of prefixes of d parties, of N blocks, have the same bytes in the rows of the first t turns, of every party and block
abbrev pub SameInTurns : Parameters → ℕ → ℕ → ℕ → List ℕ → List ℕ → Type 0
SameInTurns p d N t prefixes prefixes' =
    (u k a : ℕ) → u < t → k < N → a < d
    → let place : ℕ = a * (prefix_rows p d * N) + (row_in_turn (block p) p.z p.counts d u * N + k) in
    get_or prefixes place 0 ≡ get_or prefixes' place 0

-- whatever bytes stand in the rows that are not taken, the answer and the output are the same (`rows_not_taken` in proofs/RangeLaws.antt)
abbrev pub RowsNotTaken : Parameters → Type 0
RowsNotTaken p =
    (message start long size : ℕ) (parties prefixes prefixes' before : List ℕ) → Bytes size prefixes → Bytes size prefixes'
    → SameInTurns p (length parties) (blocks_of p message) (taken_rows p (length parties) start long) prefixes prefixes'
    → (range_answer p message start long parties (length prefixes) (length before)
    ≡ range_answer p message start long parties (length prefixes') (length before))
    × (range_output p message start long parties prefixes before ≡ range_output p message start long parties prefixes' before)

-- ---- the count, in words

pub record CountedRows (p : Parameters) (d start long : ℕ) : Type 0 where
  -- the turns are those of the reader's order
  pub turns : Turns (block p) p.z p.counts d
  -- the rows taken are the fewest of them that reach the range
  pub earliest : Earliest (block p) p.z p.counts d start long (taken_rows p d start long)
  -- no more bytes are used than the full opening uses, for any number of blocks
  pub most : (N : ℕ) → d * taken_rows p d start long * N ≤ prefix_bytes p d N
  -- an empty range takes no row
  pub none : long ≡ 0 → taken_rows p d start long ≡ 0
  -- a range that wants every place of a block takes them all, and so does each that is as long as a block: as many bytes are used as by the full
  -- opening
  pub all : ((q : ℕ) → q < block p → Wanted (block p) start long q) → taken_rows p d start long ≡ prefix_rows p d
  pub whole : block p ≤ long → (N : ℕ) → d * taken_rows p d start long * N ≡ prefix_bytes p d N

-- of an accepted scheme and each of its counts (`range_count` in proofs/RangeLaws.antt)
abbrev pub RangeCount : Parameters → Type 0
RangeCount p = AcceptedScheme p → (d : ℕ) → occurs d p.counts ≡ true → (start long : ℕ) → CountedRows p d start long
