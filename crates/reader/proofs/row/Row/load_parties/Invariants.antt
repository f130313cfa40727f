use Rattle.std.proofs.Common.{◌≡◌, ◌+◌, ◌*◌}
use Rattle.reader.specs.Decoding.{SentColumns}
use Rattle.reader.specs.Rows.{read_in}
use Rattle.reader.proofs.row.Row.load_parties.Given as goal

-- the columns of the first a parties are loaded, and their bytes counted
abbrev pub invariant-loop-a : goal.invariant-loop-a
invariant-loop-a l =
    (l.used ≡ l.initial.used + l.a * l.many)
    × SentColumns (read_in l.self) l.sizes.prefix (l.self.q + l.t) l.many l.a l.initial.columns l.columns
