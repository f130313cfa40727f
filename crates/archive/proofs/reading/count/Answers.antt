-- `archive::reading::count` meets its contract: each way out answers as the table has it.
use Rattle.std.proofs.Common.{rules, arith}
use Rattle.archive.proofs.Scanning.{no_count_lem, too_many, no_pair, none_scanned, unkept, scanned_next, ends_elsewhere, ends_here, breaks, counts}
use Rattle.archive.proofs.reading.count.Goals as goal

pub returns-then-file-lt2 : goal.returns-then-file-lt2
returns-then-file-lt2 c = no_count_lem _ c.if-file-lt2.true

pub returns-then-entries-gt-MAX_ENTRIES : goal.returns-then-entries-gt-MAX_ENTRIES
returns-then-entries-gt-MAX_ENTRIES c = too_many _ _ c.number_at-entries.ensures.0 c.if-file-lt2.false c.if-entries-gt-MAX_ENTRIES.true

pub returns-then-file-start : goal.returns-then-file-start
returns-then-file-start c =
    no_pair _ _ c.number_at-entries.ensures.0 c.if-file-lt2.false c.if-entries-gt-MAX_ENTRIES.false (rw c.head_bytes-start.ensures at c.if-file-start.true)

pub loop-i-init : goal.loop-i-init
loop-i-init c = rw (c.head_bytes-start.ensures, c.number_at-entries.ensures.0) (none_scanned _)

pub returns-then-pair-start : goal.returns-then-pair-start
returns-then-pair-start c =
    breaks _ _ c.number_at-entries.ensures.0 c.if-file-lt2.false c.if-entries-gt-MAX_ENTRIES.false (rw c.head_bytes-start.ensures at c.if-file-start.false)
    (unkept _ c.loop-i.invariant (omega (arith, c.loop-i-test.true, c.number_at-entries.ensures.0)) c.pair_at-pair.ensures c.then-pair-start.either)

pub loop-i-preserved : goal.loop-i-preserved
loop-i-preserved c = scanned_next _ c.loop-i.invariant c.pair_at-pair.ensures (search rules) (search rules)

pub returns-then-start-file : goal.returns-then-start-file
returns-then-start-file c =
    breaks _ _ c.number_at-entries.ensures.0 c.if-file-lt2.false c.if-entries-gt-MAX_ENTRIES.false (rw c.head_bytes-start.ensures at c.if-file-start.false)
    (ends_elsewhere _ c.loop-i.invariant (omega (arith, c.number_at-entries.ensures.0)) c.if-start-file.true)

pub returns : goal.returns
returns c =
    counts _ _ c.number_at-entries.ensures.0 c.if-file-lt2.false c.if-entries-gt-MAX_ENTRIES.false (rw c.head_bytes-start.ensures at c.if-file-start.false)
    (ends_here _ c.loop-i.invariant (omega (arith, c.number_at-entries.ensures.0)) c.if-start-file.false)
