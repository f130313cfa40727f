use Rattle.std.proofs.Common.{ℕ, ◌+◌, ◌-◌, ◌%◌, ◌≤◌, ◌<◌, get_or, refl, rules, tests}
use Rattle.std.proofs.lemmas.Iterator.{cases_from_any, YieldsList-from_range}
use Rattle.reader.proofs.TurnSearch.{holds_by}
use Rattle.reader.proofs.taking.holds_wanted.Goals as goal

pub returns : goal.returns
returns c start is =
    let a = c.args in
    let by_call =
    cases_from_any _ _ _ (λ (e : ℕ). (get_or a.places.now e 0 + (a.block - a.from)) % a.block < a.range_length)
    (λ (e : ℕ). a.range_length ≤ (get_or a.places.now e 0 + (a.block - a.from)) % a.block) c.any.ensures.ran (YieldsList-from_range a.z a.d _ refl refl)
    (λ x q k. search (rules, tests)) (λ x q k. search (rules, tests)) in
    holds_by a.block a.from a.range_length a.z a.d start a.places.now _ c.requires.3 is by_call
