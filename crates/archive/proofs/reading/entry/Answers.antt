-- `archive::reading::entry` meets its contract: the part from the offset on, of the length that was found, and nothing on a refusal.
use Rattle.std.proofs.Common.{arith}
use Rattle.archive.proofs.Lookup.{no_part, at-start, part-within, part-told, start-told}
use Rattle.archive.proofs.reading.entry.Goals as goal

pub returns-in_default : goal.returns-in_default
returns-in_default c =
    let e = c.entry_place.ensures in
    let told = c.in_default.is in
    (no_part _ _ _ e told, at-start _ _ _ e told c.args.file.ref_ptr)

pub overflow_add-end : goal.overflow_add-end
overflow_add-end c = omega (arith, part-within _ _ _ c.entry_place.ensures c.in-Ok.is)

pub slice_bounds-result-end-2 : goal.slice_bounds-result-end-2
slice_bounds-result-end-2 c = omega (arith, part-within _ _ _ c.entry_place.ensures c.in-Ok.is)

pub returns : goal.returns
returns c =
    let e = c.entry_place.ensures in
    let told = c.in-Ok.is in
    (part-told _ _ _ e told, start-told _ _ _ e told c.args.file.ref_ptr)
