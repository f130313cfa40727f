-- `sheet` meets its contract: the text fits, so nothing of it was dropped.
use Rattle.std.proofs.Common.{sym, ◌∙◌}
use Rattle.std.proofs.lemmas.Bool.{eqb-true, eqb-false}
use Rattle.sheet.proofs.Written.{whole}
use Rattle.sheet.proofs.SheetText.{sheet_default, sheet-given, scheme_text_short}
use Rattle.sheet.proofs.sheet.Goals as goal

pub returns-then-is_empty : goal.returns-then-is_empty
returns-then-is_empty c =
    rw (sheet_default c.args.input.now (eqb-true _ _ (sym c.is_empty.ensures ∙ c.if-is_empty.true)) _ _ _ _ c.default.ensures) (whole c.scheme_text.ensures (scheme_text_short _ _ _ _))

pub returns : goal.returns
returns c =
    let holds = rw (c.byte_or_0.ensures, c.byte_or_0-2.ensures, c.counts_of.ensures) at c.scheme_text-2.ensures in
    rw (sheet-given c.args.input.now (eqb-false _ _ (sym c.is_empty.ensures ∙ c.if-is_empty.false))) (whole holds (scheme_text_short _ _ _ _))
