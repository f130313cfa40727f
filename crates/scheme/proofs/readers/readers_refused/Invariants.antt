use Rattle.std.proofs.Common.{◌≡◌, drop}
use Rattle.scheme.specs.Readers.{readers_refused}
use Rattle.scheme.proofs.Parties.{refused_from}
use Rattle.scheme.proofs.readers.readers_refused.Given as goal

-- the parties that are left are to rise from the one before
abbrev pub invariant-loop-party : goal.invariant-loop-party
invariant-loop-party l = readers_refused l.n l.parties ≡ refused_from l.n l.below (drop l.party-index l.parties)
