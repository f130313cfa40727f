use Rattle.std.proofs.Common.{◌≡◌, min, drop}
use Rattle.interpolation.specs.Polynomial.{eval, lowest}
use Rattle.interpolation.specs.Interpolation.{side}
use Rattle.interpolation.proofs.opening.value_below.Given as goal

-- the value of the coefficients from degree e on
abbrev pub invariant-loop-e : goal.invariant-loop-e
invariant-loop-e l = l.value ≡ eval l.x (drop l.e (lowest (min l.fn.d side) l.coefficients))
