use Rattle.std.proofs.Common.{◌≡◌, ℕ, List, length, get_or, sym, ap, ◌∙◌, arith}
use Rattle.lists.proofs.Table.{tabulate_is}
use Rattle.gf256.specs.Lanes.{lanes}
use Rattle.columns.specs.Columns.{flat_column}
use Rattle.reader.proofs.copying.copy.Goals as goal

-- the first column of 64 bytes is all of them
column-whole : (bytes : List ℕ) → length bytes ≡ lanes → bytes ≡ flat_column bytes 0
unfolding flat_column
column-whole bytes long = tabulate_is bytes lanes _ 0 long (λ k l. ap (λ (i : ℕ). get_or bytes i 0) (omega arith))

pub returns-then-out-eq-LANES : goal.returns-then-out-eq-LANES
returns-then-out-eq-LANES c =
    c.store.ensures ∙ c.column.ensures ∙ sym (column-whole c.args.from.now (omega (arith, c.if-out-eq-LANES.true, c.requires)))
