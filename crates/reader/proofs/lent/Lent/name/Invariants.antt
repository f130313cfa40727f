use Rattle.std.proofs.Common.{◌≡◌, ◌-◌, length}
use Rattle.lists.specs.FirstFrom.{first_from}
use Rattle.staircase.specs.Parameters.{parameters_of}
use Rattle.agreement.specs.Agreement.{agrees_without}
use Rattle.reader.proofs.lent.Lent.name.Given as goal

-- the search has reached place i
abbrev pub invariant-loop-i : goal.invariant-loop-i
invariant-loop-i l =
    first_from (agrees_without (parameters_of l.self.scheme) l.self.parties.now l.self.blocks l.self.shares.now) (length l.self.parties.now - l.i) l.i
    ≡ first_from (agrees_without (parameters_of l.self.scheme) l.self.parties.now l.self.blocks l.self.shares.now) (length l.self.parties.now) 0
