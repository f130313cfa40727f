use Rattle.std.proofs.Common.{◌≡◌, ◌≤◌, arith, ap, sym, ◌∙◌}
use mathlib.Core.Bool.{not}
use Rattle.std.proofs.lemmas.Result.{err_from_is_err_and}
use Rattle.lists.specs.Each.{occurs}
use Rattle.scheme.specs.Facts.{SchemeIs}
use Rattle.scheme.specs.Limits.{max_message, max_blocks}
use Rattle.scheme.specs.Check.{block_count}
use Rattle.scheme.specs.declared.forms.Form.TheVariants.{Earlier}
use Rattle.scheme.proofs.Laws.{blocks_told, blocks_refused, accepted-scheme, answers, done, pass, stop_scheme, stop_over, pass_within, stop_true, pass_false, stop_other, pass_same}
use Rattle.staircase.specs.Parameters.{given_parameters}
use Rattle.staircase.proofs.Sizes.{share_length, blocks_few, share_small, prefix_small}
use Rattle.party.specs.Prefix.{prefix_refusal, prefix_answer}
use Rattle.party.proofs.Handing.{prefix_length_is}
use Rattle.party.proofs.prefix_length.Goals as goal
use Rattle.party.proofs.prefix_length.Goals.{In_ok-s, In_ok-blocks, After-is_count}

-- the scheme is accepted
scheme_is : (c : In_ok-s) → let g = c.args.given in SchemeIs c.in_ok-s.s g.n g.r g.z g.counts.now
scheme_is c = accepted-scheme c.in_ok-s.ensures.answer

-- the message is not too long, and its blocks are so many
told : (c : In_ok-blocks) → (c.in_ok-blocks.blocks ≡ block_count c.in_ok-s.s.block c.args.message_length) × (c.args.message_length ≤ max_message)
told c = blocks_told Earlier _ _ _ c.in_ok-blocks.ensures

few : (c : In_ok-blocks) → c.in_ok-blocks.blocks ≤ max_blocks
few c = blocks_few (given_parameters c.args.given) c.in_ok-s.s (accepted-scheme c.in_ok-s.ensures.answer) _ _ (told c).0 (told c).1

-- what is tested for refusal 6
count-test : (c : After-is_count) → not (occurs c.args.d c.args.given.counts.now) ≡ not c.is_count.result
count-test c = ap not (sym (c.is_count.ensures ∙ ap (λ ds. occurs c.args.d ds.now) c.in_ok-s.ensures.lent))

pub returns-in_err-s : goal.returns-in_err-s
unfolding prefix_answer prefix_refusal
returns-in_err-s c =
    let p = err_from_is_err_and c.from_residual.result c.from_residual.ensures.1 in
    rw (p.1, p.2) (answers (stop_scheme _ _ _ _ _ c.in_err-s.ensures.answer))

pub returns-in_err-blocks : goal.returns-in_err-blocks
unfolding prefix_answer prefix_refusal
returns-in_err-blocks c =
    let p = err_from_is_err_and c.from_residual-in_err-blocks.result c.from_residual-in_err-blocks.ensures.1 in
    let over = blocks_refused Earlier _ _ _ c.in_err-blocks.ensures in
    rw (p.1, p.2, over.0) (answers (pass (scheme_is (goal.at.returns-in_err-blocks c).In_ok-s).passed (stop_over over.1)))

pub overflow_mul-share_bytes : goal.overflow_mul-share_bytes
overflow_mul-share_bytes c = omega (arith, share_small _ _ (scheme_is (goal.at.overflow_mul-share_bytes c).In_ok-s) _ (few c))

pub returns-then-not-is_count : goal.returns-then-not-is_count
unfolding prefix_answer prefix_refusal
returns-then-not-is_count c =
    let at = goal.at.returns-then-not-is_count c in
    answers (pass (scheme_is at.In_ok-s).passed (pass_within 5 (told at.In_ok-blocks).1
    (stop_true (count-test at.After-is_count ∙ ap not c.if-not-is_count.true))))

pub returns-then-share-share_bytes : goal.returns-then-share-share_bytes
unfolding prefix_answer prefix_refusal
returns-then-share-share_bytes c =
    let at = goal.at.returns-then-share-share_bytes c in
    let is = scheme_is at.In_ok-s in
    let bytes = share_length _ _ is _ _ (told at.In_ok-blocks).0 in
    answers (pass is.passed (pass_within 5 (told at.In_ok-blocks).1
    (pass_false 6 (count-test at.After-is_count ∙ ap not c.if-not-is_count.false) (stop_other (λ e. c.if-share-share_bytes.true (e ∙ sym bytes))))))

pub overflow_mul-result : goal.overflow_mul-result
overflow_mul-result c =
    let at = goal.at.overflow_mul-result c in
    omega (arith, prefix_small _ _ (scheme_is at.In_ok-s) _ (few at.In_ok-blocks) _ _ _ c.prefix_rows.ensures)

pub returns : goal.returns
unfolding prefix_answer prefix_refusal
returns c =
    let at = goal.at.returns c in
    let is = scheme_is at.In_ok-s in
    let bytes = c.if-share-share_bytes.false ∙ share_length _ _ is _ _ (told at.In_ok-blocks).0 in
    rw (prefix_length_is (given_parameters c.args.given) _ is _ _ _ _ (told at.In_ok-blocks).0 c.prefix_rows.ensures)
    (answers (pass is.passed (pass_within 5 (told at.In_ok-blocks).1
    (pass_false 6 (count-test at.After-is_count ∙ ap not c.if-not-is_count.false) (pass_same 9 bytes done)))))
