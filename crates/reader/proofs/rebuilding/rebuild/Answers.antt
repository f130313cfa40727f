use Rattle.std.proofs.Common.{length, refl, sym, ◌∙◌, subst, arith}
use native.Mathlib.Nat.{mul_comm}
use Rattle.std.proofs.lemmas.Result.{err_from_is_err_and}
use Rattle.scheme.specs.declared.refusal.Refusal.TheVariants.{PartyNumbers, ShareLength, OutputLength, TooFewShares}
use Rattle.scheme.proofs.Laws.{pass, pass_false, stop_scheme, stop_true, stop_over}
use Rattle.staircase.specs.Parameters.{Parameters, given_parameters}
use Rattle.reader.specs.declared.lent.Lent.{Lent}
use Rattle.reader.specs.Rebuild.{RebuildCall}
use Rattle.reader.proofs.RebuildAnswers.{refuses_call, ends, given_are, turned, unit_few, blocks_are, blocks_high, room_fits, size_small, all_small, lends, stop_length, stop_copy, stop_output, pass_all}
use Rattle.reader.proofs.rebuilding.rebuild.Goals as goal

pub returns-in_err-s : goal.returns-in_err-s
returns-in_err-s c =
    let a = c.args in
    let p = err_from_is_err_and c.from_residual.result c.from_residual.ensures.1 in
    rw (p.1, p.2)
    (refuses_call (given_parameters a.given) a.parties.now a.shares.now a.party a.held.now a.out.now c.in_err-s.field-0.0 (stop_scheme _ _ _ _ _ c.in_err-s.ensures.answer))

pub returns-then-readers_refused : goal.returns-then-readers_refused
returns-then-readers_refused c =
    let a = c.args in
    let s = c.in_ok-s.s in
    rw c.into.ensures
    (turned a.given s c.in_ok-s.ensures.answer c.in_ok-s.ensures.lent a.parties.now a.shares.now a.party a.held.now a.out.now
    PartyNumbers (pass s.accepted.passed (stop_true (sym c.readers_refused.ensures ∙ c.if-readers_refused.true))))

pub returns-then-wanted_refused : goal.returns-then-wanted_refused
returns-then-wanted_refused c =
    let a = c.args in
    let s = c.in_ok-s.s in
    let rising = sym c.readers_refused.ensures ∙ c.if-readers_refused.false in
    rw c.into-then-wanted_refused.ensures
    (turned a.given s c.in_ok-s.ensures.answer c.in_ok-s.ensures.lent a.parties.now a.shares.now a.party a.held.now a.out.now
    PartyNumbers (pass s.accepted.passed (pass_false 7 rising (stop_true (sym c.wanted_refused.ensures ∙ c.if-wanted_refused.true)))))

pub returns-then-many-fewest_readers : goal.returns-then-many-fewest_readers
returns-then-many-fewest_readers c =
    let a = c.args in
    let s = c.in_ok-s.s in
    let rising = sym c.readers_refused.ensures ∙ c.if-readers_refused.false in
    let inside = sym c.wanted_refused.ensures ∙ c.if-wanted_refused.false in
    rw c.into-then-many-fewest_readers.ensures
    (turned a.given s c.in_ok-s.ensures.answer c.in_ok-s.ensures.lent a.parties.now a.shares.now a.party a.held.now a.out.now
    TooFewShares (pass s.accepted.passed (pass_false 7 rising (pass_false 7 inside (stop_over (omega arith))))))

pub overflow_mul-many : goal.overflow_mul-many
overflow_mul-many c = omega (arith, unit_few c.in_ok-s.s c.args.parties.now (sym c.readers_refused.ensures ∙ c.if-readers_refused.false))

pub overflow_mul-size : goal.overflow_mul-size
overflow_mul-size c =
    let a = c.args in
    let s = c.in_ok-s.s in
    let N = c.blocks_held-blocks.result in
    let N_is = rw c.most_blocks-most.ensures at c.blocks_held-blocks.ensures in
    omega (arith, size_small s (length a.parties.now) (length a.shares.now) N N_is)

pub overflow_mul-many-2 : goal.overflow_mul-many-2
overflow_mul-many-2 c =
    let a = c.args in
    let s = c.in_ok-s.s in
    let rising = sym c.readers_refused.ensures ∙ c.if-readers_refused.false in
    let N = c.blocks_held-blocks.result in
    let N_is = rw c.most_blocks-most.ensures at c.blocks_held-blocks.ensures in
    omega (arith, all_small s (length a.parties.now) (length a.shares.now) N N_is a.parties.now refl rising)

pub returns-then-shares-many : goal.returns-then-shares-many
returns-then-shares-many c =
    let a = c.args in
    let s = c.in_ok-s.s in
    let rising = sym c.readers_refused.ensures ∙ c.if-readers_refused.false in
    let inside = sym c.wanted_refused.ensures ∙ c.if-wanted_refused.false in
    let N = c.blocks_held-blocks.result in
    let N_is = rw c.most_blocks-most.ensures at c.blocks_held-blocks.ensures in
    rw c.into-then-shares-many.ensures
    (turned a.given s c.in_ok-s.ensures.answer c.in_ok-s.ensures.lent a.parties.now a.shares.now a.party a.held.now a.out.now
    ShareLength (stop_length s a.parties.now a.shares.now a.party (length a.held.now) (length a.out.now) N N_is rising inside (omega arith) c.if-shares-many.true))

pub returns-then-unlike : goal.returns-then-unlike
returns-then-unlike c =
    let a = c.args in
    let s = c.in_ok-s.s in
    let rising = sym c.readers_refused.ensures ∙ c.if-readers_refused.false in
    let inside = sym c.wanted_refused.ensures ∙ c.if-wanted_refused.false in
    let N = c.blocks_held-blocks.result in
    let N_is = rw c.most_blocks-most.ensures at c.blocks_held-blocks.ensures in
    let unlike = sym c.held_refused-unlike.ensures ∙ c.if-unlike.true in
    rw c.into-then-unlike.ensures
    (turned a.given s c.in_ok-s.ensures.answer c.in_ok-s.ensures.lent a.parties.now a.shares.now a.party a.held.now a.out.now
    ShareLength (stop_copy s a.parties.now a.shares.now a.party (length a.held.now) (length a.out.now) N N_is rising inside (omega arith) c.if-shares-many.false unlike))

pub returns-then-out-size : goal.returns-then-out-size
returns-then-out-size c =
    let a = c.args in
    let s = c.in_ok-s.s in
    let rising = sym c.readers_refused.ensures ∙ c.if-readers_refused.false in
    let inside = sym c.wanted_refused.ensures ∙ c.if-wanted_refused.false in
    let N = c.blocks_held-blocks.result in
    let N_is = rw c.most_blocks-most.ensures at c.blocks_held-blocks.ensures in
    rw c.into-then-out-size.ensures
    (turned a.given s c.in_ok-s.ensures.answer c.in_ok-s.ensures.lent a.parties.now a.shares.now a.party a.held.now a.out.now
    OutputLength (stop_output s a.parties.now a.shares.now a.party (length a.held.now) (length a.out.now) N N_is rising inside (omega arith) c.if-shares-many.false (sym c.held_refused-unlike.ensures ∙ c.if-unlike.false) c.if-out-size.true))

pub invariant_of-lent : goal.invariant_of-lent
invariant_of-lent c =
    let a = c.args in
    let s = c.in_ok-s.s in
    let rising = sym c.readers_refused.ensures ∙ c.if-readers_refused.false in
    let N = c.blocks_held-blocks.result in
    let N_is = rw c.most_blocks-most.ensures at c.blocks_held-blocks.ensures in
    record { lending = lends s a.parties.now a.shares.now N rising (omega arith) (blocks_high s (length a.parties.now) (length a.shares.now) N N_is) c.if-shares-many.false (λ i. (c.type_inv.shares i).fits) }

pub rebuild_agreeing-requires-clause-room : goal.rebuild_agreeing-requires-clause-room
rebuild_agreeing-requires-clause-room c =
    let a = c.args in
    let s = c.in_ok-s.s in
    let N = c.blocks_held-blocks.result in
    let N_is = rw c.most_blocks-most.ensures at c.blocks_held-blocks.ensures in
    (room_fits s (length a.parties.now) (length a.shares.now) N N_is, c.if-out-size.false ∙ mul_comm N s.rows)

pub returns : goal.returns
returns c =
    let a = c.args in
    let s = c.in_ok-s.s in
    let rising = sym c.readers_refused.ensures ∙ c.if-readers_refused.false in
    let inside = sym c.wanted_refused.ensures ∙ c.if-wanted_refused.false in
    let N = c.blocks_held-blocks.result in
    let N_is = rw c.most_blocks-most.ensures at c.blocks_held-blocks.ensures in
    let like = sym c.held_refused-unlike.ensures ∙ c.if-unlike.false in
    let l : Lent =
    record {
      scheme = s;
      blocks = N;
      parties = a.parties;
      shares = a.shares;
      skip = length a.parties.now;
      lending = lends s a.parties.now a.shares.now N rising (omega arith) (blocks_high s (length a.parties.now) (length a.shares.now) N N_is) c.if-shares-many.false (λ i. (c.type_inv.shares i).fits);
    } in
    subst (λ (p : Parameters). RebuildCall p a.parties.now a.shares.now a.party a.held.now a.out.now c.rebuild_agreeing.result c.rebuild_agreeing.new.out)
    (given_are a.given s c.in_ok-s.ensures.answer c.in_ok-s.ensures.lent)
    (ends l a.party a.held.now a.out.now (blocks_are s (length a.parties.now) (length a.shares.now) N N_is)
    (pass_all s a.parties.now a.shares.now a.party (length a.held.now) (length a.out.now) N N_is rising inside (omega arith) c.if-shares-many.false like c.if-out-size.false) c.rebuild_agreeing.result c.rebuild_agreeing.new.out c.rebuild_agreeing.ensures)
