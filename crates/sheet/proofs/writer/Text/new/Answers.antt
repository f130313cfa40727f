-- `Text::new` meets its contract: zeros alone are the empty text.
use Rattle.std.proofs.Common.{refl, sym}
use Rattle.sheet.specs.Writing.{max_text}
use Rattle.sheet.proofs.Written.{zeros_none}
use Rattle.sheet.proofs.writer.Text.new.Goals as goal

pub returns : goal.returns
returns c = record { long = refl; bytes = sym (zeros_none max_text) }
