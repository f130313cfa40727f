-- `archive::reading::entry_place` meets its contract: the file's refusals come first, and past them every pair stands in the file.
use Rattle.std.proofs.Common.{arith}
use Rattle.std.proofs.lemmas.Result.{err_from_is_err_and}
use Rattle.archive.proofs.Lookup.{file-refused, no_entry, pair_within, entry_here}
use Rattle.archive.proofs.reading.entry_place.Goals as goal

pub returns-in_err-entries : goal.returns-in_err-entries
returns-in_err-entries c =
    let p = err_from_is_err_and c.from_residual.result c.from_residual.ensures.1 in
    rw (p.1, p.2) (file-refused _ _ _ c.count.ensures c.in_err-entries.was)

pub returns-then-entries-number : goal.returns-then-entries-number
returns-then-entries-number c = no_entry _ _ _ c.count.ensures c.in_ok-entries.was c.if-entries-number.true

pub pair_at-requires : goal.pair_at-requires
pair_at-requires c =
    let within = pair_within _ _ _ c.count.ensures c.in_ok-entries.was c.if-entries-number.false in
    (omega (arith, within.0), omega (arith, within.1))

pub returns : goal.returns
returns c = entry_here _ _ _ c.count.ensures c.in_ok-entries.was c.if-entries-number.false c.pair_at.ensures
