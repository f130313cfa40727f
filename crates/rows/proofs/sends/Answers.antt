use Rattle.std.proofs.Common.{arith, ap, ◌∙◌, ◌+◌, ◌*◌, ℕ}
use lib.Dec.{leb}
use Rattle.rows.proofs.Groups.{sends_low, sends_past, sends-product}
use Rattle.rows.proofs.sends.Goals as goal

pub returns-then-d-z : goal.returns-then-d-z
returns-then-d-z c = sends_low _ _ _ _ c.if-d-z.true

pub returns-then-block-row : goal.returns-then-block-row
returns-then-block-row c = sends_past _ _ _ _ c.if-block-row.true

pub returns : goal.returns
returns c =
    let a = c.args in
    ap (λ (w : ℕ). leb ((a.row + 1) * w) a.block) c.from-2.ensures ∙ sends-product a.block a.z a.d a.row (omega arith)
