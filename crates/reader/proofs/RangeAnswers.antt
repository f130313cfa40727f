-- What the opener answers and writes where no refusal applies, for a range and for the whole message.
-- Assumes nothing.
use mathlib.Core.Path.{◌≡◌, refl, sym, ap, ◌∙◌}
use mathlib.Core.Bool.{true, false, not}
use mathlib.Core.List.{List, [], ◌∷◌}
use Prim.Native.Nat.{ℕ, ◌+◌, ◌-◌, ◌*◌, ◌≤◌}
use native.Mathlib.Nat.{mul_assoc, le_refl}
use native.Mathlib.Omega.{arith}
use lib.Dec.{ltb, eqb}
use lib.ListN.{length, take, drop}
use lib.Seq.{take-take}
use borrow.Author.Tests.{le-ltb}
use Rattle.lists.specs.Each.{occurs}
use Rattle.lists.proofs.Parts.{drop-take}
use Rattle.scheme.specs.declared.accepted.Scheme.{Scheme}
use Rattle.scheme.specs.declared.refusal.Refusal.{Refusal}
use Rattle.scheme.specs.Limits.{max_message}
use Rattle.scheme.specs.Refusals.{number}
use Rattle.scheme.specs.Outcome.{Outcome, accepted, refused, number_if, first_of}
use Rattle.scheme.specs.Check.{refusal, block_count}
use Rattle.scheme.specs.Readers.{readers_refused}
use Rattle.scheme.proofs.Laws.{Way, scheme_own, answer_none, refuses, numbered, pass, pass_within, pass_false}
use Rattle.staircase.specs.Parameters.{Parameters, blocks_of, prefix_rows, parameters_of}
use Rattle.staircase.specs.Exactness.{prefix_bytes, opened_string}
use Rattle.staircase.proofs.Sizes.{blocks_are}
use Rattle.order.specs.RowsTaken.{rows_taken}
use Rattle.order.proofs.RowsTaken.{reached_all, taken_earliest}
use Rattle.std.proofs.Common.{Option, Ok, Err}
use Rattle.reader.specs.declared.ending.Ending.TheVariants.{Told}
use Rattle.reader.specs.declared.taking.Take.{Take}
use Rattle.reader.specs.declared.taking.Take.TheVariants.{All, Needed}
use Rattle.reader.specs.Decoding.{sent_rows, Counted}
use Rattle.reader.specs.Ending.{written_by, OpenedBy, TurnsReach}
use Rattle.reader.specs.Reconstruct.{reconstruct_refusal, reconstruct_answer, reconstruct_output}
use Rattle.reader.specs.Range.{taken_rows, range_refusal, range_answer, range_output}
use Rattle.reader.specs.Opening.{rows_by, opened_answer, OpenedCall}
use Rattle.reader.proofs.CountedScheme.{count_in}

-- the rows that are to be taken reach the range
pub turns_reach : {s : Scheme} {ds : List ℕ} {d : ℕ} → Counted s ds d → (rows : Take) (start long many : ℕ)
    → many ≡ rows_by rows (sent_rows s d) (rows_taken s.block s.z ds d start long) → TurnsReach s ds d many start long
turns_reach C All start long many e = rw e (record { within = le_refl _; reached = reached_all (count_in C) start long })
turns_reach C Needed start long many e =
    let E = taken_earliest (count_in C) start long in
    rw e (record { within = E.within; reached = E.enough })

-- a range of the beginning of a list is that range of the list
pub range_cut : (message start long : ℕ) (l : List ℕ) → start + long ≤ message → take long (drop start l) ≡ take long (drop start (take message l))
range_cut message start long l h =
    let whole : start + (message - start) ≡ message = omega arith in
    sym (rw whole at (ap (take long) (drop-take start (message - start) l)) ∙ take-take long (message - start) (drop start l) (omega arith))

-- where the end is told, the output is the bytes from `start` on
told-written : (m start : ℕ) (blocks before : List ℕ) (end : Option ℕ) (after : List ℕ) → OpenedBy Told m start blocks before end after
    → after ≡ take (length before) (drop start blocks)
told-written m start blocks before end after O = O.output_is ∙ ap (λ (e : Option ℕ). written_by e start blocks before) O.end_is

-- ---- a way out

-- what is tested, in the table's order
abbrev pub lines : Parameters → ℕ → ℕ → ℕ → List ℕ → ℕ → ℕ → List ℕ
lines p message start long parties prefixes out =
    refusal p.n p.r p.z p.counts
    ∷ number_if 5 (ltb max_message message)
    ∷ number_if 6 (not (occurs (length parties) p.counts))
    ∷ number_if 7 (readers_refused p.n parties)
    ∷ number_if 15 (ltb message (start + long))
    ∷ number_if 9 (not (eqb prefixes (prefix_bytes p (length parties) (blocks_of p message))))
    ∷ number_if 10 (not (eqb out long))
    ∷ []

module _ (rows : Take) (p : Parameters) (message start long : ℕ) (parties prefixes out : List ℕ) where
  -- a refusal: nothing is written
  pub stops : (q : Refusal)
      → Way (length parties * rows_by rows (prefix_rows p (length parties)) (taken_rows p (length parties) start long) * blocks_of p message ∷ [])
      (lines p message start long parties (length prefixes) (length out)) (refused (number q))
      → OpenedCall rows p message start long parties prefixes out (Err q) out
  unfolding range_refusal opened_answer range_output
  stops q w = refuses _ w

-- past the lines before 9
pub to_sizes : (s : Scheme) (message start long : ℕ) (parties : List ℕ) {vs qs : List ℕ} {o : Outcome}
    → message ≤ max_message → occurs (length parties) s.counts.now ≡ true → readers_refused s.n parties ≡ false → ltb message (start + long) ≡ false
    → Way vs qs o
    → Way vs
    (refusal s.n s.r s.z s.counts.now
    ∷ number_if 5 (ltb max_message message)
    ∷ number_if 6 (not (occurs (length parties) s.counts.now))
    ∷ number_if 7 (readers_refused s.n parties)
    ∷ number_if 15 (ltb message (start + long))
    ∷ qs) o
to_sizes s message start long parties short counted rising inside w =
    pass s.accepted.passed (pass_within 5 short (pass_false 6 (ap not counted) (pass_false 7 rising (pass_false 15 inside w))))

-- accepted: the prefix bytes used are answered, and the range is written
pub opens : (s : Scheme) (rows : Take) (message start long : ℕ) (parties prefixes out : List ℕ) (N many : ℕ)
    → N ≡ block_count s.block message
    → many ≡ rows_by rows (sent_rows s (length parties)) (rows_taken s.block s.z s.counts.now (length parties) start long)
    → Way [] (lines (parameters_of s) message start long parties (length prefixes) (length out)) (refused 0) → length out ≡ long → start + long ≤ message
    → (used : ℕ) (end : Option ℕ) (w : List ℕ)
    → used ≡ length parties * (many * N)
    → OpenedBy Told s.block start (opened_string (parameters_of s) parties N prefixes) out end w
    → OpenedCall rows (parameters_of s) message start long parties prefixes out (Ok used) w
unfolding range_refusal opened_answer range_output
opens s rows message start long parties prefixes out N many N_is many_is way room inside used end w used_is opened =
    let p : Parameters = parameters_of s in
    let none = numbered {q = 0} way in
    let blocks : N ≡ blocks_of p message = blocks_are p s (scheme_own s) message N N_is in
    let d : ℕ = length parties in
    let taken : ℕ = rows_by rows (prefix_rows p d) (taken_rows p d start long) in
    let same : used ≡ d * taken * blocks_of p message =
    used_is ∙ rw (many_is, s.accepted.block_is, blocks) (sym (mul_assoc d taken (blocks_of p message))) in (
      ap (λ (x : ℕ). accepted (x ∷ [])) same ∙ sym (answer_none _ _ none),
      told-written _ start _ _ end w opened
          ∙ rw (none, room, blocks)
          (range_cut message start long (opened_string p parties (blocks_of p message) prefixes) inside),
    )

-- ---- a range that takes the rows that it needs

module _ (p : Parameters) (message start long : ℕ) (parties : List ℕ) where
  pub needed-answer : (prefixes out : ℕ) → opened_answer Needed p message start long parties prefixes out ≡ range_answer p message start long parties prefixes out
  unfolding opened_answer range_answer
  needed-answer prefixes out = refl

-- ---- the whole message, for which all rows are taken: 15 does not apply

module _ (p : Parameters) (message : ℕ) (parties : List ℕ) where
  pub whole_refusal : (prefixes out : ℕ) → range_refusal p message 0 message parties prefixes out ≡ reconstruct_refusal p message parties prefixes out
  unfolding range_refusal reconstruct_refusal first_of
  whole_refusal prefixes out = rw (le-ltb message (0 + message) (omega arith))

  pub whole_answer : (prefixes out : ℕ) → opened_answer All p message 0 message parties prefixes out ≡ reconstruct_answer p message parties prefixes out
  unfolding opened_answer reconstruct_answer prefix_bytes
  whole_answer prefixes out = rw whole_refusal

  pub whole_output : (prefixes before : List ℕ) → range_output p message 0 message parties prefixes before ≡ reconstruct_output p message parties prefixes before
  unfolding range_output reconstruct_output
  whole_output prefixes before = rw (whole_refusal, take-take message message (opened_string p parties (blocks_of p message) prefixes) (le_refl message))
