use Rattle.std.proofs.Common.{◌≡◌, length, arith, ap, sym, ◌∙◌}
use mathlib.Core.Bool.{not}
use borrow.Author.Tests.{eq-eqb, ne_eqb}
use Rattle.std.proofs.lemmas.Result.{err_from_is_err_and}
use Rattle.lists.specs.Each.{occurs}
use Rattle.scheme.specs.Facts.{SchemeIs}
use Rattle.scheme.specs.Padding.{most_padded, blocks_held}
use Rattle.scheme.proofs.Laws.{accepted-scheme, answers, done, pass, stop_scheme, stop_true, pass_false}
use Rattle.staircase.specs.Parameters.{given_parameters}
use Rattle.staircase.proofs.Sizes.{prefix_small}
use Rattle.party.specs.PrefixPadded.{prefix_padded_refusal, prefix_padded_answer}
use Rattle.party.proofs.Handing.{kept_is, kept_few, padded_length_is}
use Rattle.party.proofs.padded.prefix_padded_length.Goals as goal
use Rattle.party.proofs.padded.prefix_padded_length.Goals.{In_ok-s, After-blocks_held-blocks, After-is_count}

-- the scheme is accepted
scheme_is : (c : In_ok-s) → let g = c.args.given in SchemeIs c.in_ok-s.s g.n g.r g.z g.counts.now
scheme_is c = accepted-scheme c.in_ok-s.ensures.answer

-- the blocks that the share's length tells
held_is : (c : After-blocks_held-blocks) → let s = c.in_ok-s.s in c.blocks_held-blocks.result ≡ blocks_held (most_padded s.block) s.rows (length c.args.share.now)
held_is c = rw (← c.most_blocks-most.ensures) c.blocks_held-blocks.ensures

-- what is tested for refusal 6
count-test : (c : After-is_count) → not (occurs c.args.d c.args.given.counts.now) ≡ not c.is_count.result
count-test c = ap not (sym (c.is_count.ensures ∙ ap (λ ds. occurs c.args.d ds.now) c.in_ok-s.ensures.lent))

pub returns-in_err-s : goal.returns-in_err-s
unfolding prefix_padded_answer prefix_padded_refusal
returns-in_err-s c =
    let p = err_from_is_err_and c.from_residual.result c.from_residual.ensures.1 in
    rw (p.1, p.2) (answers (stop_scheme _ _ _ _ _ c.in_err-s.ensures.answer))

pub returns-then-not-is_count : goal.returns-then-not-is_count
unfolding prefix_padded_answer prefix_padded_refusal
returns-then-not-is_count c =
    let at = goal.at.returns-then-not-is_count c in
    answers (pass (scheme_is at.In_ok-s).passed (stop_true (count-test at.After-is_count ∙ ap not c.if-not-is_count.true)))

pub returns-then-blocks-eq0 : goal.returns-then-blocks-eq0
unfolding prefix_padded_answer prefix_padded_refusal
returns-then-blocks-eq0 c =
    let at = goal.at.returns-then-blocks-eq0 c in
    let is = scheme_is at.In_ok-s in
    let none = sym (kept_is (given_parameters c.args.given) _ is _ _ (held_is at.After-blocks_held-blocks)) ∙ c.if-blocks-eq0.true in
    answers (pass is.passed (pass_false 6 (count-test at.After-is_count ∙ ap not c.if-not-is_count.false) (stop_true (eq-eqb _ 0 none))))

pub overflow_mul-result : goal.overflow_mul-result
overflow_mul-result c =
    let at = goal.at.overflow_mul-result c in
    let is = scheme_is at.In_ok-s in
    let few = kept_few (given_parameters c.args.given) _ is _ _ (held_is at.After-blocks_held-blocks) (omega (arith, c.if-blocks-eq0.false)) in
    omega (arith, prefix_small _ _ is _ few _ _ _ c.prefix_rows.ensures)

pub returns : goal.returns
unfolding prefix_padded_answer prefix_padded_refusal
returns c =
    let at = goal.at.returns c in
    let is = scheme_is at.In_ok-s in
    let held = held_is at.After-blocks_held-blocks in
    let same = kept_is (given_parameters c.args.given) _ is _ _ held in
    rw (padded_length_is (given_parameters c.args.given) _ is _ _ held _ _ c.prefix_rows.ensures)
    (answers (pass is.passed
    (pass_false 6 (count-test at.After-is_count ∙ ap not c.if-not-is_count.false) (pass_false 9 (ne_eqb _ 0 (λ e. c.if-blocks-eq0.false (same ∙ e))) done))))
