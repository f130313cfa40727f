-- `Text::byte` meets its contract: with room left the byte is written after the text, and with none it is dropped.
use Rattle.sheet.proofs.Written.{holds_byte, holds_full}
use Rattle.sheet.proofs.writer.Text.byte.Goals as goal

pub returns-then-at-lt-MAX_TEXT : goal.returns-then-at-lt-MAX_TEXT
returns-then-at-lt-MAX_TEXT c = record { holds = λ text h. holds_byte _ text _ h c.if-at-lt-MAX_TEXT.true }

pub returns-else-at-lt-MAX_TEXT : goal.returns-else-at-lt-MAX_TEXT
returns-else-at-lt-MAX_TEXT c = record { holds = λ text h. holds_full _ text _ h c.if-at-lt-MAX_TEXT.false }
