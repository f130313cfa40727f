-- The digits of a number but the last are those of its tenth, which is less.
use native.Mathlib.Nat.{mod-eq_of_lt}
use Rattle.sheet.proofs.Written.{adds_then}
use Rattle.sheet.proofs.Decimal.{decimal_low, decimal_high}
use Rattle.sheet.proofs.writer.Text.+number.Goals as goal

pub returns-then-x-lt10 : goal.returns-then-x-lt10
returns-then-x-lt10 t c = rw (decimal_low _ c.if-x-lt10.true, ← mod-eq_of_lt c.if-x-lt10.true) c.byte.ensures

pub returns : goal.returns
returns t c = rw (decimal_high _ c.if-x-lt10.false) (adds_then c.number.ensures c.byte-2.ensures)
