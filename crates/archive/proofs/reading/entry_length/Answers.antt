-- `archive::reading::entry_length` meets its contract: it is the length of the place that is found.
use Rattle.std.proofs.lemmas.Result.{err_from_is_err_and}
use Rattle.archive.proofs.Lookup.{length-refused, length-told}
use Rattle.archive.proofs.reading.entry_length.Goals as goal

pub returns-in_err-entry_place : goal.returns-in_err-entry_place
returns-in_err-entry_place c =
    let p = err_from_is_err_and c.from_residual.result c.from_residual.ensures.1 in
    rw (p.1, p.2) (length-refused _ _ _ c.entry_place.ensures c.in_err-entry_place.was)

pub returns : goal.returns
returns c = length-told _ _ _ c.entry_place.ensures c.in_ok-entry_place.was
