use Rattle.std.proofs.Common.{refl}
use Rattle.staircase.specs.Parameters.{given_parameters}
use Rattle.party.proofs.Handing.{prefix_none, prefix_long, prefix_is}
use Rattle.party.proofs.prefix.Goals as goal

pub returns-in_default : goal.returns-in_default
returns-in_default c = (prefix_none (given_parameters c.args.given) _ _ _ _ c.prefix_length.ensures c.in_default.is, refl)

pub slice_bounds-result-end-2 : goal.slice_bounds-result-end-2
slice_bounds-result-end-2 c = prefix_long (given_parameters c.args.given) _ _ c.args.share.now _ c.prefix_length.ensures _ c.in-Ok.is

pub returns : goal.returns
returns c = (prefix_is (given_parameters c.args.given) _ _ c.args.share.now _ c.prefix_length.ensures _ c.in-Ok.is, refl)
