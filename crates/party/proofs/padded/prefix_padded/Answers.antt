use Rattle.std.proofs.Common.{refl}
use Rattle.staircase.specs.Parameters.{given_parameters}
use Rattle.party.proofs.Handing.{padded_none, padded_long, padded_is}
use Rattle.party.proofs.padded.prefix_padded.Goals as goal

pub returns-in_default : goal.returns-in_default
returns-in_default c = (padded_none (given_parameters c.args.given) _ _ _ c.prefix_padded_length.ensures c.in_default.is, refl)

pub slice_bounds-result-end-2 : goal.slice_bounds-result-end-2
slice_bounds-result-end-2 c = padded_long (given_parameters c.args.given) _ c.args.share.now _ c.prefix_padded_length.ensures _ c.in-Ok.is

pub returns : goal.returns
returns c = (padded_is (given_parameters c.args.given) _ c.args.share.now _ c.prefix_padded_length.ensures _ c.in-Ok.is, refl)
