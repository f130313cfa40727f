-- Each way out is a way through the refusals, and the products fit since the scheme is accepted, the message is not too long and the parties are at
-- most 16; the rows that are taken reach the range.
use Rattle.std.proofs.Common.{◌≡◌, ℕ, ◌+◌, ◌*◌, ◌≤◌, true, false, not, ltb, length, sym, ap, ◌∙◌, arith}
use Rattle.std.proofs.lemmas.Result.{err_from_is_err_and}
use borrow.Author.Tests.{ltb-false}
use Rattle.lists.specs.Each.{occurs}
use Rattle.interpolation.specs.Interpolation.{side}
use Rattle.scheme.specs.declared.accepted.Scheme.{Scheme}
use Rattle.scheme.specs.declared.forms.Form.TheVariants.{Earlier}
use Rattle.scheme.specs.declared.refusal.Refusal.TheVariants.{MessageLength, Readers, PartyNumbers, ShareLength, OutputLength, Range}
use Rattle.scheme.specs.Limits.{max_message}
use Rattle.scheme.specs.Check.{block_count}
use Rattle.scheme.specs.Readers.{readers_refused}
use Rattle.scheme.proofs.Laws.{scheme_own, blocks_told, blocks_refused, done, pass, stop_scheme, stop_over, pass_within, stop_true, pass_false, stop_other, pass_same}
use Rattle.staircase.specs.Parameters.{given_parameters, parameters_of, blocks_of}
use Rattle.staircase.specs.Exactness.{prefix_bytes}
use Rattle.staircase.proofs.Sizes.{blocks_are}
use Rattle.reader.specs.Decoding.{Counted}
use Rattle.reader.proofs.CountedScheme.{given_own, counted_own, count_high}
use Rattle.reader.proofs.OpenerAnswers.{bytes_are, bytes_parts, rows_small, bytes_small, told_few, told_fits}
use Rattle.reader.proofs.RangeAnswers.{turns_reach, stops, to_sizes, opens}
use Rattle.reader.proofs.range.open_range.Goals as goal
use Rattle.reader.proofs.range.open_range.Goals.{In_ok-s, In_ok-blocks, Else-not-counted, Else-past, After-prefix_rows}

own : (c : In_ok-s) → given_parameters c.args.given ≡ parameters_of c.in_ok-s.s
own c = given_own c.args.given c.in_ok-s.s c.in_ok-s.ensures.answer c.in_ok-s.ensures.lent

-- the tests that do not apply
not_long : (c : In_ok-blocks) → c.args.message_length ≤ max_message
not_long c = (blocks_told Earlier _ _ _ c.in_ok-blocks.ensures).1

is_count : (c : Else-not-counted) → occurs (length c.args.parties.now) c.in_ok-s.s.counts.now ≡ true
is_count c = sym c.is_count-counted.ensures ∙ c.if-not-counted.false

within : (c : Else-past) → ltb c.args.message_length (c.args.start + c.args.range_length) ≡ false
within c = sym c.ends_past-past.ensures ∙ c.if-past.false

-- past refusal 7
module _ (c : After-prefix_rows) where
  abbrev s : Scheme
  s = c.in_ok-s.s

  abbrev d : ℕ
  d = length c.args.parties.now

  told : (c.in_ok-blocks.blocks ≡ block_count s.block c.args.message_length) × (c.args.message_length ≤ max_message)
  told = blocks_told Earlier _ _ _ c.in_ok-blocks.ensures

  counted : Counted s s.counts.now d
  counted = counted_own s d (sym c.is_count-counted.ensures ∙ c.if-not-counted.false)

  rising : readers_refused s.n c.args.parties.now ≡ false
  rising = sym c.readers_refused-unordered.ensures ∙ c.if-unordered.false

  few : d ≤ side
  few = count_high counted

  -- what is tested for refusal 9
  sent_are : d * c.prefix_rows.result * c.in_ok-blocks.blocks ≡ prefix_bytes (parameters_of s) d (blocks_of (parameters_of s) c.args.message_length)
  sent_are =
      bytes_are s _ _ c.prefix_rows.ensures _ ∙ ap (prefix_bytes (parameters_of s) _) (blocks_are (parameters_of s) s (scheme_own s) _ _ told.0)

pub returns-in_err-s : goal.returns-in_err-s
returns-in_err-s c =
    let p = err_from_is_err_and c.from_residual.result c.from_residual.ensures.1 in
    rw (p.1, p.2) (stops _ _ _ _ _ _ _ _ _ (stop_scheme _ _ _ _ _ c.in_err-s.ensures.answer))

pub returns-in_err-blocks : goal.returns-in_err-blocks
returns-in_err-blocks c =
    let p = err_from_is_err_and c.from_residual-in_err-blocks.result c.from_residual-in_err-blocks.ensures.1 in
    let over = blocks_refused Earlier _ _ _ c.in_err-blocks.ensures in
    rw (p.1, p.2, over.0, own (goal.at.returns-in_err-blocks c).In_ok-s)
    (stops _ _ _ _ _ _ _ _ MessageLength (pass c.in_ok-s.s.accepted.passed (stop_over over.1)))

pub returns-then-not-counted : goal.returns-then-not-counted
returns-then-not-counted c =
    let g = goal.at.returns-then-not-counted c in
    rw (own g.In_ok-s)
    (stops _ _ _ _ _ _ _ _ Readers
    (pass c.in_ok-s.s.accepted.passed (pass_within 5 (not_long g.In_ok-blocks)
    (stop_true (ap not (sym c.is_count-counted.ensures ∙ c.if-not-counted.true))))))

pub returns-then-unordered : goal.returns-then-unordered
returns-then-unordered c =
    let g = goal.at.returns-then-unordered c in
    rw (own g.In_ok-s)
    (stops _ _ _ _ _ _ _ _ PartyNumbers
    (pass c.in_ok-s.s.accepted.passed (pass_within 5 (not_long g.In_ok-blocks)
    (pass_false 6 (ap not (is_count g.Else-not-counted)) (stop_true (sym c.readers_refused-unordered.ensures ∙ c.if-unordered.true))))))

pub returns-then-past : goal.returns-then-past
returns-then-past c =
    let g = goal.at.returns-then-past c in
    rw (own g.In_ok-s)
    (stops _ _ _ _ _ _ _ _ Range
    (pass c.in_ok-s.s.accepted.passed (pass_within 5 (not_long g.In_ok-blocks) (pass_false 6 (ap not (is_count g.Else-not-counted))
    (pass_false 7 (sym c.readers_refused-unordered.ensures ∙ c.if-unordered.false) (stop_true (sym c.ends_past-past.ensures ∙ c.if-past.true)))))))

pub overflow_mul-sent : goal.overflow_mul-sent
overflow_mul-sent c = omega (arith, rows_small c.in_ok-s.s _ _ c.prefix_rows.ensures (few (goal.at.overflow_mul-sent c).After-prefix_rows))

pub overflow_mul-sent-2 : goal.overflow_mul-sent-2
overflow_mul-sent-2 c =
    let e = (goal.at.overflow_mul-sent-2 c).After-prefix_rows in
    omega (arith, bytes_small c.in_ok-s.s _ _ c.prefix_rows.ensures (few e) _ (told_few c.in_ok-s.s _ _ (told e).0 (told e).1))

pub returns-then-prefixes-sent : goal.returns-then-prefixes-sent
returns-then-prefixes-sent c =
    let g = goal.at.returns-then-prefixes-sent c in
    let e = g.After-prefix_rows in
    rw (own g.In_ok-s)
    (stops _ _ _ _ _ _ _ _ ShareLength
    (to_sizes c.in_ok-s.s _ _ _ _ (told e).1 (counted e).count (rising e) (within g.Else-past) (stop_other (λ q. c.if-prefixes-sent.true (q ∙ sym (sent_are e))))))

pub returns-then-out-range_length : goal.returns-then-out-range_length
returns-then-out-range_length c =
    let g = goal.at.returns-then-out-range_length c in
    let e = g.After-prefix_rows in
    rw (own g.In_ok-s)
    (stops _ _ _ _ _ _ _ _ OutputLength
    (to_sizes c.in_ok-s.s _ _ _ _ (told e).1 (counted e).count (rising e) (within g.Else-past)
    (pass_same 9 (c.if-prefixes-sent.false ∙ sent_are e) (stop_other c.if-out-range_length.true))))

pub invariant_of-readers : goal.invariant_of-readers
invariant_of-readers c =
    let e = (goal.at.invariant_of-readers c).After-prefix_rows in
    record { counted = counted e; rising = rising e }

pub invariant_of-readers-2 : goal.invariant_of-readers-2
invariant_of-readers-2 c =
    let e = (goal.at.invariant_of-readers-2 c).After-prefix_rows in
    record { counted = counted e; rising = rising e }

pub open-found-requires-clause-sizes : goal.open-found-requires-clause-sizes
open-found-requires-clause-sizes c =
    let a = c.args in
    let s = c.in_ok-s.s in
    let g = goal.at.open-found-requires-clause-sizes c in
    let e = g.After-prefix_rows in
    told_fits s a.message_length _ (told e).0 (told e).1 _ a.prefixes.now a.start a.out.now
    (c.if-prefixes-sent.false ∙ bytes_parts s _ _ c.prefix_rows.ensures _) (rw c.if-out-range_length.false (ltb-false _ _ (within g.Else-past)))

pub open-found-requires-clause-rows : goal.open-found-requires-clause-rows
open-found-requires-clause-rows c =
    let e = (goal.at.open-found-requires-clause-rows c).After-prefix_rows in
    rw c.if-out-range_length.false (turns_reach (counted e) c.args.take c.args.start c.args.range_length _ c.rows_by-many.ensures)

pub returns : goal.returns
returns c =
    let a = c.args in
    let g = goal.at.returns c in
    let e = g.After-prefix_rows in
    rw (own g.In_ok-s)
    (opens c.in_ok-s.s a.take a.message_length a.start a.range_length a.parties.now a.prefixes.now a.out.now _ _ (told e).0 c.rows_by-many.ensures
    (to_sizes c.in_ok-s.s _ _ _ _ (told e).1 (counted e).count (rising e) (within g.Else-past)
    (pass_same 9 (c.if-prefixes-sent.false ∙ sent_are e) (pass_same 10 c.if-out-range_length.false done)))
    c.if-out-range_length.false (ltb-false _ _ (within g.Else-past)) _ _ _ c.open-found.ensures.counted c.open-found.ensures.opened)
