use Rattle.std.proofs.Common.{◌≡◌, ℕ, ◌+◌, ◌≤◌, ◌<◌, cond, eqb, List, length, get_or, drop, ap, sym, ◌∙◌, arith, eq-eqb, ne_eqb}
use native.Mathlib.Decide.{ℕ_discrete}
use Rattle.std.proofs.lemmas.List.{length_push}
use Rattle.std.proofs.lemmas.Slice.Zip.{zip_turn, zip_end}
use Rattle.lists.specs.Differing.{differing}
use Rattle.lists.proofs.Differing.{differing_end, differing_here, differing-same}
use Rattle.gf256.specs.Byte.{◌⊕◌}
use Rattle.gf256.proofs.Laws.{⊕_self, ⊕_equal}
use Rattle.reader.proofs.agreeing.differing.Goals as goal

-- one place more, where the sum of the bytes was tested
module _ (xs ys : List ℕ) (i count total : ℕ) (hx : i < length xs) (hy : i < length ys) (few : count ≤ i)
    (so_far : count + differing (drop i xs) (drop i ys) ≡ total) where
  counted : (more : ℕ) → more ≡ cond (eqb (get_or xs i 0 ⊕ get_or ys i 0) 0) 0 1 → Dec (get_or xs i 0 ≡ get_or ys i 0)
      → (count + more ≤ i + 1) × (count + more + differing (drop (i + 1) xs) (drop (i + 1) ys) ≡ total)
  counted more is (yes e) =
      let none : more ≡ 0 = is ∙ rw (eq-eqb _ 0 (ap (◌⊕◌ (get_or xs i 0)) (sym e) ∙ ⊕_self (get_or xs i 0))) in
      (omega arith, omega (arith, differing-same xs ys i hx hy e))
  counted more is (no n) =
      let one : more ≡ 1 = is ∙ rw (ne_eqb _ 0 (λ q. n (⊕_equal (get_or xs i 0) (get_or ys i 0) q))) in
      (omega arith, omega (arith, differing_here xs ys i hx hy n))

pub loop-x-preserved : goal.loop-x-preserved
unfolding ◌⊕◌
loop-x-preserved c =
    let a = c.args.a.now in
    let b = c.args.b.now in
    let l = c.loop-x in
    let t = zip_turn a b l.yielded c.into_iter-x-iterator.result l.x-iterator c.next.new.self c.next.result (cc) (cc) l.yielded_by (c.in-Some.x, c.in-Some.y) c.in-Some.is c.next.ensures.steps in
    let is : c.nonzero-count.result ≡ cond (eqb (get_or a (length l.yielded) 0 ⊕ get_or b (length l.yielded) 0) 0) 0 1 = rw (← t.2 0, ← t.3 0) c.nonzero-count.ensures in
    rw (length_push l.yielded (c.in-Some.x, c.in-Some.y))
    (counted a b (length l.yielded) l.count _ t.0 t.1 l.invariant.0 l.invariant.1 c.nonzero-count.result is (ℕ_discrete _ _))

pub returns : goal.returns
returns c =
    let l = c.loop-x in
    let all = zip_end c.args.a.now c.args.b.now l.yielded c.into_iter-x-iterator.result l.x-iterator c.next.new.self c.next.result (cc) (cc) l.yielded_by c.in-None.is c.next.ensures.steps in
    omega (arith, l.invariant.1, differing_end c.args.a.now c.args.b.now (length l.yielded) (omega (arith, all)))
