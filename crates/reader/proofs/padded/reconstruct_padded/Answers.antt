-- Each way out is a way through the refusals, and the products fit since the scheme is accepted, the parties are at most 16 and the blocks at most
-- those of the longest message.
use Rattle.std.proofs.Common.{◌≡◌, ◌≤◌, true, false, not, length, sym, ap, ◌∙◌, arith}
use Rattle.std.proofs.lemmas.Result.{err_from_is_err_and}
use borrow.Author.Tests.{eq-eqb}
use Rattle.lists.specs.Each.{occurs}
use Rattle.interpolation.specs.Interpolation.{side}
use Rattle.scheme.specs.declared.refusal.Refusal.TheVariants.{Readers, PartyNumbers, ShareLength, Padding}
use Rattle.scheme.specs.Readers.{readers_refused}
use Rattle.scheme.proofs.Laws.{pass, stop_scheme, stop_true, pass_false}
use Rattle.staircase.specs.Parameters.{given_parameters, parameters_of}
use Rattle.staircase.proofs.Sizes.{count_most}
use Rattle.reader.specs.ReconstructPadded.{blocks_sent}
use Rattle.reader.proofs.CountedScheme.{given_own, counted_own}
use Rattle.reader.proofs.OpenerAnswers.{rows_small}
use Rattle.reader.proofs.PaddedAnswers.{told_blocks_lem, size_small, stops, to_blocks, BlocksTold, sought_fits, sought_turns, other_size, ends_nowhere, ends_at}
use Rattle.reader.proofs.padded.reconstruct_padded.Goals as goal
use Rattle.reader.proofs.padded.reconstruct_padded.Goals.{In_ok-s, Else-unordered, After-blocks_held-blocks, Else-blocks-eq0}

own : (c : In_ok-s) → given_parameters c.args.given ≡ parameters_of c.in_ok-s.s
own c = given_own c.args.given c.in_ok-s.s c.in_ok-s.ensures.answer c.in_ok-s.ensures.lent

-- past refusal 7
module _ (c : Else-unordered) where
  counted : occurs (length c.args.parties.now) c.in_ok-s.s.counts.now ≡ true
  counted = sym c.is_count-counted.ensures ∙ c.if-not-counted.false

  rising : readers_refused c.in_ok-s.s.n c.args.parties.now ≡ false
  rising = sym c.readers_refused-unordered.ensures ∙ c.if-unordered.false

  few : length c.args.parties.now ≤ side
  few = count_most (parameters_of c.in_ok-s.s) c.in_ok-s.s.accepted.passed (length c.args.parties.now) counted

-- the blocks that the length of the prefixes tells
told_is : (c : After-blocks_held-blocks)
    → c.blocks_held-blocks.result ≡ blocks_sent (parameters_of c.in_ok-s.s) (length c.args.parties.now) (length c.args.prefixes.now)
told_is c = told_blocks_lem c.in_ok-s.s _ _ c.prefix_rows-rows.ensures _ _ (rw (← c.most_blocks-most.ensures) c.blocks_held-blocks.ensures)

-- past refusal 9
told : (c : Else-blocks-eq0) → BlocksTold c.in_ok-s.s c.args.parties.now c.args.prefixes.now c.blocks_held-blocks.result
told c =
    record {
      count = sym c.is_count-counted.ensures ∙ c.if-not-counted.false;
      rising = sym c.readers_refused-unordered.ensures ∙ c.if-unordered.false;
      N_is = told_blocks_lem c.in_ok-s.s _ _ c.prefix_rows-rows.ensures _ _ (rw (← c.most_blocks-most.ensures) c.blocks_held-blocks.ensures);
      some = omega (arith, c.if-blocks-eq0.false);
    }

pub returns-in_err-s : goal.returns-in_err-s
returns-in_err-s c =
    let p = err_from_is_err_and c.from_residual.result c.from_residual.ensures.1 in
    rw (p.1, p.2) (stops _ _ _ _ _ (stop_scheme _ _ _ _ _ c.in_err-s.ensures.answer))

pub returns-then-not-counted : goal.returns-then-not-counted
returns-then-not-counted c =
    rw (own (goal.at.returns-then-not-counted c).In_ok-s)
    (stops _ _ _ _ Readers
    (pass c.in_ok-s.s.accepted.passed (stop_true (ap not (sym c.is_count-counted.ensures ∙ c.if-not-counted.true)))))

pub returns-then-unordered : goal.returns-then-unordered
returns-then-unordered c =
    rw (own (goal.at.returns-then-unordered c).In_ok-s)
    (stops _ _ _ _ PartyNumbers
    (pass c.in_ok-s.s.accepted.passed (pass_false 6 (ap not (sym c.is_count-counted.ensures ∙ c.if-not-counted.false))
    (stop_true (sym c.readers_refused-unordered.ensures ∙ c.if-unordered.true)))))

pub overflow_mul-d : goal.overflow_mul-d
overflow_mul-d c = omega (arith, rows_small c.in_ok-s.s _ _ c.prefix_rows-rows.ensures (few (goal.at.overflow_mul-d c).Else-unordered))

pub overflow_mul-size : goal.overflow_mul-size
overflow_mul-size c = omega (arith, size_small c.in_ok-s.s _ _ _ (told_is (goal.at.overflow_mul-size c).After-blocks_held-blocks))

pub returns-then-blocks-eq0 : goal.returns-then-blocks-eq0
returns-then-blocks-eq0 c =
    let g = goal.at.returns-then-blocks-eq0 c in
    let u = g.Else-unordered in
    let h = g.After-blocks_held-blocks in
    rw (own g.In_ok-s)
    (stops _ _ _ _ ShareLength
    (to_blocks c.in_ok-s.s _ (counted u) (rising u) (stop_true (eq-eqb _ 0 (sym (told_is h) ∙ c.if-blocks-eq0.true)))))

pub returns-then-out-size : goal.returns-then-out-size
returns-then-out-size c =
    let g = goal.at.returns-then-out-size c in
    rw (own g.In_ok-s) (other_size (told g.Else-blocks-eq0) c.args.out.now c.if-out-size.true)

pub invariant_of-readers : goal.invariant_of-readers
invariant_of-readers c =
    let u = (goal.at.invariant_of-readers c).Else-unordered in
    record { counted = counted_own c.in_ok-s.s _ (counted u); rising = rising u }

pub open-found-requires-clause-sizes : goal.open-found-requires-clause-sizes
open-found-requires-clause-sizes c = sought_fits (told (goal.at.open-found-requires-clause-sizes c).Else-blocks-eq0) c.args.out.now c.if-out-size.false

pub open-found-requires-clause-rows : goal.open-found-requires-clause-rows
open-found-requires-clause-rows c =
    sought_turns (told (goal.at.open-found-requires-clause-rows c).Else-blocks-eq0) _ (length c.args.out.now) c.prefix_rows-rows.ensures

pub returns-in_err-length : goal.returns-in_err-length
returns-in_err-length c =
    let g = goal.at.returns-in_err-length c in
    let p = err_from_is_err_and c.from_residual-in_err-length.result c.from_residual-in_err-length.ensures.1 in
    let none = c.in_err-length.ensures.ok_part in
    let value = rw none at c.in_err-length.ensures.value in
    let padding : p.0 ≡ Padding = p.2 ∙ cc value in
    rw (p.1, padding, own g.In_ok-s)
    (ends_nowhere (told g.Else-blocks-eq0) c.args.out.now _ _ c.if-out-size.false c.open-found.ensures.opened none)

pub returns : goal.returns
returns c =
    let g = goal.at.returns c in
    rw (own g.In_ok-s)
    (ends_at (told g.Else-blocks-eq0) c.args.out.now _ _ c.if-out-size.false c.open-found.ensures.opened _ _ _ c.prefix_rows-rows.ensures
    c.open-found.ensures.counted c.in_ok-length.ensures.ok_part)
