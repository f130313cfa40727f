-- `put_contents`, by the invariant that is beside this file.
-- Assumes nothing.
use mathlib.Core.Path.{◌≡◌, ap, ◌∙◌}
use Prim.Native.Nat.{ℕ}
use native.Mathlib.Omega.{arith}
use lib.ListN.{length}
use lib.Seq.{paste, paste-zero}
use Rattle.archive.proofs.Put.{copied_next}
use Rattle.archive.proofs.writing.put_contents.Goals as goal

pub loop-i-init : goal.loop-i-init
loop-i-init c = paste-zero c.args.out.now c.args.at c.args.contents.now

pub loop-i-preserved : goal.loop-i-preserved
loop-i-preserved c =
    copied_next c.args.out.now c.args.at c.args.contents.now c.loop-i.i c.loop-i.out c.loop-i.invariant (omega (arith, c.requires, c.loop-i-test.true)) c.loop-i-test.true

pub returns : goal.returns
returns c =
    let all : c.loop-i.i ≡ length c.args.contents.now = omega (arith, c.loop-i-test.false, c.loop-i.auto.i-end) in
    c.loop-i.invariant ∙ ap (λ (n : ℕ). paste c.args.out.now c.args.at c.args.contents.now n) all
