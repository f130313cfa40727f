use Rattle.std.proofs.Common.{◌≡◌, ◌+◌, ◌-◌, ◌≤◌, ◌<◌, length, drop}
use Rattle.scheme.specs.Limits.{max_block}
use Rattle.scheme.specs.BlockLength.{divides}
use Rattle.scheme.proofs.Multiples.{Searching}
use Rattle.scheme.proofs.search.block_length.Given as goal

-- the multiples up to m were tried, and all d − z divide none of them
abbrev pub invariant-search : goal.invariant-search
invariant-search l = record { step : 0 < l.first; few : l.tried ≤ l.m; searching : Searching l.z l.counts l.first l.m l.tried }

abbrev pub decreases-search : goal.decreases-search
decreases-search l = max_block + 1 - l.m

-- the counts before place i pass m, so it is seen from those that are left whether all do
abbrev pub invariant-loop-i : goal.invariant-loop-i
invariant-loop-i l = record { within : l.i ≤ length l.counts; left : divides l.z (drop l.i l.counts) l.m ≡ divides l.z l.counts l.m }

abbrev pub decreases-loop-i : goal.decreases-loop-i
decreases-loop-i l = length l.counts - l.i
