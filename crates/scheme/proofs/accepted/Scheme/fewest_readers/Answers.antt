use Rattle.std.proofs.Common.{arith}
use Rattle.scheme.proofs.SchemeFacts.{accepted}
use Rattle.scheme.proofs.accepted.Scheme.fewest_readers.Goals as goal

pub overflow_sub-self : goal.overflow_sub-self
overflow_sub-self c = omega (arith, (accepted _ _ _ _ c.args.self.accepted.passed).sizes.room)
