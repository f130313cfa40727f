use Rattle.std.proofs.Common.{◌≡◌, ℕ, ◌+◌, ◌-◌, ◌*◌, List, take, drop, eqb, ap, ap₂, ◌∙◌, arith, ne_eqb}
use Rattle.lists.specs.Differing.{differing}
use Rattle.lists.specs.Table.{piece}
use Rattle.reader.proofs.lent.Lent.same_share.Goals as goal

-- the part at place a
part_is : (shares : List ℕ) (a size : ℕ) → take (a * size + size - a * size) (drop (a * size) shares) ≡ piece size a shares
unfolding piece
part_is shares a size =
    let e : a * size + size - a * size ≡ size = omega arith in
    rw e

pub returns : goal.returns
returns c =
    let l = c.args.self.now in
    rw (ne_eqb _ _ c.if-a-self.false)
    (ap (λ (x : ℕ). eqb x 0) (c.differing.ensures ∙ ap₂ differing c.rebuild_share.ensures (part_is l.shares.now c.args.a (l.scheme.rows * l.blocks))))
