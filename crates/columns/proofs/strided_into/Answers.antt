use Rattle.std.proofs.Common.{◌≡◌, ◌≤◌, ◌+◌, ◌*◌, ◌/◌, length, sym, arith}
use native.Mathlib.Nat.{add-mul}
use Rattle.lists.proofs.Parts.{part_length, rest-length}
use Rattle.columns.proofs.Gathered.{taken_more, taken-all}
use Rattle.columns.proofs.strided_into.Goals as goal

pub fill_each-requires : goal.fill_each-requires
fill_each-requires c =
    let i = c.loop-turn.turn * 4 in
    let o = c.loop-turn.out in
    λ k h. omega (arith, add-mul i k c.args.step, c.requires (i + k) (omega (arith, c.loop-turn.auto.out, part_length i 4 o (omega (arith, c.loop-turn.auto.out)))))

pub loop-turn-preserved : goal.loop-turn-preserved
loop-turn-preserved c =
    let i = c.loop-turn.turn * 4 in
    let room : i + 4 ≤ length c.loop-turn.out = omega (arith, c.loop-turn.invariant.long) in
    taken_more c.loop-turn.invariant _ (i + 4) _ c.fill_each.new.out (omega (arith, part_length i 4 c.loop-turn.out room)) (omega arith) (omega arith) c.fill_each.ensures

pub fill_each-requires-then-done-out : goal.fill_each-requires-then-done-out
fill_each-requires-then-done-out c =
    let i = length c.args.out.now / 4 * 4 in
    λ k h. omega (arith, add-mul i k c.args.step, c.requires (i + k) (omega (arith, c.loop-turn.invariant.long, rest-length i c.loop-turn.out)))

-- the turns of four, and the rest
pub returns-then-done-out : goal.returns-then-done-out
returns-then-done-out c =
    let long = c.loop-turn.invariant.long in
    let i = length c.args.out.now / 4 * 4 in
    let e : c.loop-turn.turn ≡ length c.args.out.now / 4 = omega arith in
    taken-all
    (taken_more (rw e at c.loop-turn.invariant) _ (length c.loop-turn.out) _ c.fill_each-then-done-out.new.out (omega (arith, rest-length i c.loop-turn.out)) (sym long) (omega arith) c.fill_each-then-done-out.ensures)
    (omega arith)

pub returns-else-done-out : goal.returns-else-done-out
returns-else-done-out c = taken-all c.loop-turn.invariant (omega arith)
