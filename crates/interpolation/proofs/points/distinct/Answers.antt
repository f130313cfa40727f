use Rattle.std.proofs.Common.{◌≡◌, ℕ, ◌+◌, ◌-◌, ◌||◌, Bool, List, [], ◌∷◌, length, get_or, take, drop, arith, refl, sym, ap, ap₂, ◌∙◌}
use native.Mathlib.Decide.{ℕ_discrete}
use lib.Dec.{eqb}
use lib.ListN.{length-drop}
use lib.Seq.{take_all}
use borrow.Author.Tests.{eq-eqb, ne_eqb}
use Rattle.std.specs.List.{list_any}
use Rattle.lists.specs.Each.{occurs}
use Rattle.lists.proofs.Search.{distinct_end, distinct_here, distinct-next}
use Rattle.interpolation.proofs.points.distinct.Goals as goal

eqb-flip : (x y : ℕ) → eqb x y ≡ eqb y x
eqb-flip x y = at (ℕ_discrete x y)
  where
    at : Dec (x ≡ y) → eqb x y ≡ eqb y x
    at (yes e) = eq-eqb x y e ∙ sym (eq-eqb y x (sym e))
    at (no n) = ne_eqb x y n ∙ sym (ne_eqb y x (λ e. n (sym e)))

occurs-any : (x : ℕ) (l : List ℕ) → list_any (λ y. eqb y x) l ≡ occurs x l
unfolding occurs
occurs-any x [] = refl
occurs-any x (y ∷ ys) = ap₂ ◌||◌ (eqb-flip y x) (occurs-any x ys)

-- what `contains` answers of the points after place i
stands_again : (ps : List ℕ) (i : ℕ) {r : Bool} → r ≡ list_any (λ y. eqb y (get_or ps i 0)) (take (length ps - (i + 1)) (drop (i + 1) ps))
    → occurs (get_or ps i 0) (drop (i + 1) ps) ≡ r
stands_again ps i e =
    sym
    (e ∙ ap (list_any (λ y. eqb y (get_or ps i 0))) (take_all (length ps - (i + 1)) (drop (i + 1) ps) (omega (arith, length-drop (i + 1) ps)))
    ∙ occurs-any (get_or ps i 0) (drop (i + 1) ps))

pub loop-i-init : goal.loop-i-init
loop-i-init c = refl

pub returns-then-contains : goal.returns-then-contains
returns-then-contains c =
    sym (c.loop-i.invariant ∙ distinct_here _ _ c.loop-i-test.true (stands_again _ c.loop-i.i c.contains.ensures.value ∙ c.if-contains.true))

pub loop-i-preserved : goal.loop-i-preserved
loop-i-preserved c =
    c.loop-i.invariant ∙ distinct-next _ _ c.loop-i-test.true (stands_again _ c.loop-i.i c.contains.ensures.value ∙ c.if-contains.false)

pub returns : goal.returns
returns c = sym (c.loop-i.invariant ∙ distinct_end _ _ c.loop-i-test.false)
