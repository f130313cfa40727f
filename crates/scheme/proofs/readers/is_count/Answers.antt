use Rattle.std.proofs.Common.{rules, tests, nat_eq, ◌∙◌}
use Rattle.std.proofs.lemmas.Iterator.{YieldsList-from_slice}
use Rattle.std.proofs.lemmas.Iterator.Search.{any_from_yields_List}
use Rattle.lists.proofs.Search.{occurs_any}
use Rattle.scheme.proofs.readers.is_count.Goals as goal

pub returns : goal.returns
returns c =
    any_from_yields_List (nat_eq c.args.d) _ _ _ c.any.ensures.ran (YieldsList-from_slice c.args.counts.now cc) (λ x b q k. search (rules, tests))
    ∙ occurs_any c.args.d c.args.counts.now
