use Rattle.reader.specs.Decoding.{KnownColumns}
use Rattle.reader.proofs.row.Row.known.Given as goal

-- the columns of the degrees below e are right
abbrev pub invariant-loop-e : goal.invariant-loop-e
invariant-loop-e l = KnownColumns l.work l.self.places.now l.self.sizes.d l.e l.t l.m l.columns
