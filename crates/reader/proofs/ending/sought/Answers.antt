-- The bytes that are lent are the last block, and where its last byte that is not 0 is the marker, its place is the end.
use Rattle.std.proofs.Common.{sym, ◌∙◌, arith}
use Rattle.reader.proofs.EndSearch.{found_last, after_some, end_missing_lem, end_at, end_far, end_near}
use Rattle.reader.proofs.ending.sought.Goals as goal

pub returns-then-last-from : goal.returns-then-last-from
returns-then-last-from c N some whole =
    end_missing_lem (found_last _ _ _ c.requires c.last_nonzero-last.ensures) N some whole (λ e. c.if-last-from.true (e ∙ sym c.from.ensures))

pub overflow_sub-length : goal.overflow_sub-length
overflow_sub-length c = omega (arith, after_some (found_last _ _ _ c.requires c.last_nonzero-last.ensures) (omega arith))

pub returns-then-length-gt-MAX_MESSAGE : goal.returns-then-length-gt-MAX_MESSAGE
returns-then-length-gt-MAX_MESSAGE c N some whole =
    end_far (found_last _ _ _ c.requires c.last_nonzero-last.ensures) N some whole (c.if-last-from.false ∙ c.from.ensures) c.if-length-gt-MAX_MESSAGE.true

pub returns : goal.returns
returns c N some whole =
    let f = found_last c.args.m c.args.blocks.now c.last_nonzero-last.result c.requires c.last_nonzero-last.ensures in
    let marker = c.if-last-from.false ∙ c.from.ensures in
    (end_near f N some whole marker c.if-length-gt-MAX_MESSAGE.false, end_at f N some whole marker)
