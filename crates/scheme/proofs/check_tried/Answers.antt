use Rattle.std.proofs.Common.{arith, sym, ◌∙◌}
use Rattle.scheme.proofs.Counts.{counts_fit, fit_low}
use Rattle.scheme.proofs.Refusals.{tests-stopped, tests-left, sizes, block_long, all-passed, accepted_left}
use Rattle.scheme.proofs.Tried.{tried_none, tried_past, tried-found}
use Rattle.scheme.proofs.check_tried.Goals as goal

pub returns-in-Err-clause-answer : goal.returns-in-Err-clause-answer
returns-in-Err-clause-answer c =
    let s = tests-stopped _ _ _ _ c.in-Err.refusal (sym c.tested.ensures ∙ c.in-Err.is) in
    tried_none _ _ _ _ s.some s.before_search s.refused_is

-- past the tests before the search n, r and z leave room, and the counts fall to n − r
pub overflow_sub-k : goal.overflow_sub-k
overflow_sub-k c =
    let left = tests-left _ _ _ _ (sym c.tested.ensures ∙ c.in_default.is) in
    omega (arith, (sizes _ _ _ left.parties left.thresholds).room)

pub overflow_sub-k-2 : goal.overflow_sub-k-2
overflow_sub-k-2 c =
    let left = tests-left _ _ _ _ (sym c.tested.ensures ∙ c.in_default.is) in
    omega (arith, (sizes _ _ _ left.parties left.thresholds).room)

pub bounds-counts-0 : goal.bounds-counts-0
bounds-counts-0 c =
    let left = tests-left _ _ _ _ (sym c.tested.ensures ∙ c.in_default.is) in
    (counts_fit _ _ _ left.counts).some

pub overflow_sub-first : goal.overflow_sub-first
overflow_sub-first c =
    let left = tests-left _ _ _ _ (sym c.tested.ensures ∙ c.in_default.is) in
    let fit = counts_fit _ _ _ left.counts in
    omega (arith, fit_low _ _ _ fit 0 fit.some, (sizes _ _ _ left.parties left.thresholds).room)

pub block_length-search-requires : goal.block_length-search-requires
block_length-search-requires c =
    let left = tests-left _ _ _ _ (sym c.tested.ensures ∙ c.in_default.is) in
    let fit = counts_fit _ _ _ left.counts in
    let room = (sizes _ _ _ left.parties left.thresholds).room in
    (fit.some, c.from.ensures, λ k h. omega (arith, fit_low _ _ _ fit k h, room))

pub returns-in_default-block-clause-answer : goal.returns-in_default-block-clause-answer
returns-in_default-block-clause-answer c =
    let left = tests-left _ _ _ _ (sym c.tested.ensures ∙ c.in_default.is) in
    let past = rw c.in_default-block.is at c.block_length-search.ensures in
    tried_past _ _ _ _ past.1 (block_long _ _ _ _ left past.0)

pub nonzero_div-scheme : goal.nonzero_div-scheme
nonzero_div-scheme c =
    let left = tests-left _ _ _ _ (sym c.tested.ensures ∙ c.in_default.is) in
    omega (arith, c.from-2.ensures, (sizes _ _ _ left.parties left.thresholds).room)

pub invariant_of-scheme : goal.invariant_of-scheme
invariant_of-scheme c =
    let left = tests-left _ _ _ _ (sym c.tested.ensures ∙ c.in_default.is) in
    let found = rw c.in-Some.is at c.block_length-search.ensures in
    record { accepted = accepted_left _ _ _ _ left _ _ found.0 c.from-2.ensures found.1 }

pub returns-clause-answer : goal.returns-clause-answer
returns-clause-answer c =
    let left = tests-left _ _ _ _ (sym c.tested.ensures ∙ c.in_default.is) in
    let found = rw c.in-Some.is at c.block_length-search.ensures in
    tried-found _ _ _ _ found.0 found.2 (all-passed _ _ _ _ left _ _ found.0 c.from-2.ensures found.1)
