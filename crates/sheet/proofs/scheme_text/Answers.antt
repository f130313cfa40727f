-- The words, numbers and spaces of the lines are added in order to the empty text, and the check's answer says which lines.
use Rattle.std.proofs.Common.{ap}
use Rattle.scheme.proofs.Laws.{accepted-scheme}
use Rattle.sheet.specs.Sheet.{line}
use Rattle.sheet.proofs.Written.{adds_then}
use Rattle.sheet.proofs.SheetText.{accepted_text, refused_text}
use mathlib.Core.List.{[]}
use Rattle.sheet.proofs.scheme_text.Goals as goal

pub returns-in-Err : goal.returns-in-Err
unfolding line
returns-in-Err c =
    rw (refused_text _ _ _ _ _ c.in-Err.ensures.answer, ← c.number.ensures, ← c.from-number.ensures)
    ((adds_then c.word.ensures (adds_then c.number-in-Err.ensures c.byte.ensures)).holds [] c.new.ensures)

pub returns : goal.returns
unfolding line
returns c =
    rw (accepted_text _ _ _ _ c.in-Ok.s (accepted-scheme c.in-Ok.ensures.answer) (ap (λ ds. ds.now) c.in-Ok.ensures.lent))
    ((adds_then
    (adds_then c.word-2.ensures (adds_then c.number-2.ensures (adds_then c.word-3.ensures (adds_then c.number-3.ensures c.byte-first.ensures))))
    c.with_counts.ensures).holds [] c.new-2.ensures)
