-- Each way out is a way through the refusals.
use Rattle.std.proofs.Common.{◌≡◌, true, not, length, sym, ap, ◌∙◌}
use Rattle.std.proofs.lemmas.Result.{err_from_is_err_and}
use Rattle.lists.specs.Each.{occurs}
use Rattle.scheme.proofs.Laws.{done, pass, stop_scheme, stop_true, pass_false}
use Rattle.staircase.specs.Parameters.{given_parameters, parameters_of}
use Rattle.reader.proofs.BasisAnswers.{size_answers}
use Rattle.reader.proofs.CountedScheme.{given_own}
use Rattle.reader.proofs.bases.basis_size.Goals as goal
use Rattle.reader.proofs.bases.basis_size.Goals.{In_ok-s, Else-not-counted}

own : (c : In_ok-s) → given_parameters c.args.given ≡ parameters_of c.in_ok-s.s
own c = given_own c.args.given c.in_ok-s.s c.in_ok-s.ensures.answer c.in_ok-s.ensures.lent

is_count : (c : Else-not-counted) → occurs (length c.args.parties.now) c.in_ok-s.s.counts.now ≡ true
is_count c = sym c.is_count-counted.ensures ∙ c.if-not-counted.false

pub returns-in_err-s : goal.returns-in_err-s
returns-in_err-s c =
    let p = err_from_is_err_and c.from_residual.result c.from_residual.ensures.1 in
    rw (p.1, p.2) (size_answers (given_parameters c.args.given) _ _ (stop_scheme _ _ _ _ _ c.in_err-s.ensures.answer))

pub returns-then-not-counted : goal.returns-then-not-counted
returns-then-not-counted c =
    rw (own (goal.at.returns-then-not-counted c).In_ok-s)
    (size_answers (parameters_of c.in_ok-s.s) _ _
    (pass c.in_ok-s.s.accepted.passed (stop_true (ap not (sym c.is_count-counted.ensures ∙ c.if-not-counted.true)))))

pub returns-then-unordered : goal.returns-then-unordered
returns-then-unordered c =
    let g = goal.at.returns-then-unordered c in
    rw (own g.In_ok-s)
    (size_answers (parameters_of c.in_ok-s.s) _ _ (pass c.in_ok-s.s.accepted.passed
    (pass_false 6 (ap not (is_count g.Else-not-counted)) (stop_true (sym c.readers_refused-unordered.ensures ∙ c.if-unordered.true)))))

pub returns : goal.returns
returns c =
    let g = goal.at.returns c in
    rw (own g.In_ok-s)
    (size_answers (parameters_of c.in_ok-s.s) _ _ (pass c.in_ok-s.s.accepted.passed
    (pass_false 6 (ap not (is_count g.Else-not-counted)) (pass_false 7 (sym c.readers_refused-unordered.ensures ∙ c.if-unordered.false) done))))
