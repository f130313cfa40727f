-- A row of the table of weights as the code makes it. `Divided` is the invariant: from degree e on, the product over all points divided by x + point i,
-- and the value there of what is found. The quotient is the product over the other points, and the row follows by `basis_formula`.
-- Assumes nothing.
use mathlib.Core.Path.{◌≡◌, refl, sym, ap, ap₂, ◌∙◌}
use mathlib.Core.Bool.{true}
use mathlib.Core.Logic.{◌≢◌}
use mathlib.Core.List.{List}
use Prim.Native.Nat.{ℕ, suc, ◌+◌, ◌≤◌, ◌<◌}
use native.Mathlib.Numerals.{add-one}
use native.Mathlib.Omega.{arith}
use lib.ListN.{length, get_or, drop, replicate, set, get_or-eq_default}
use lib.Seq.{drop-cons, drop-length}
use Rattle.lists.specs.Each.{Each, Byte, distinct}
use Rattle.lists.specs.Table.{tabulate}
use Rattle.lists.specs.Without.{without}
use Rattle.lists.proofs.Each.{distinct-true, replicate-at}
use Rattle.lists.proofs.Known.{Known, known_more}
use Rattle.lists.proofs.Table.{get_or-tabulate, tabulate-same}
use Rattle.lists.proofs.Without.{length_without}
use Rattle.std.specs.Prelude.{Some, None}
use Rattle.gf256.specs.Byte.{◌⊕◌, ◌⊗◌, inverse}
use Rattle.gf256.specs.Lanes.{lanes, scaled}
use Rattle.gf256.proofs.Laws.{⊕-back, ⊗_comm, ⊗-inverse}
use Rattle.interpolation.specs.Polynomial.{next, eval, vanishing, lowest}
use Rattle.interpolation.specs.Interpolation.{side, weight}
use Rattle.interpolation.specs.Divisors.{Divisors}
use Rattle.interpolation.proofs.Polynomial.{scale_at, linear-next, vanishing-length, vanishing-without}
use Rattle.interpolation.proofs.Divisors.{divisors}
use Rattle.interpolation.proofs.Lagrange.{basis_formula}
use Rattle.interpolation.proofs.Weights.{weight-within}

-- the product over the points other than point i
abbrev others : List ℕ → ℕ → List ℕ
others ps i = vanishing (without i ps)

pub record Divided (ps : List ℕ) (i e : ℕ) (quotient : List ℕ) (above value : ℕ) : Type 0 where
  pub within : e ≤ length ps
  pub found : Known 0 (λ k. get_or (others ps i) k 0) lanes (λ k. e ≤ k) quotient
  pub last : above ≡ get_or (others ps i) e 0
  pub at_own : value ≡ eval (get_or ps i 0) (drop e (others ps i))

module _ (ps : List ℕ) (i : ℕ) (inside : i < length ps) (short : length ps ≤ side) where
  others-length : length (others ps i) ≡ length ps
  others-length = vanishing-length (without i ps) ∙ length_without ps i inside

  -- nothing divided yet
  pub divided_none : Divided ps i (length ps) (replicate lanes 0) 0 0
  unfolding eval
  divided_none =
      record {
        within = omega arith;
        found =
            record {
              long = refl;
              is = λ k l b. replicate-at lanes k 0 ∙ sym (get_or-eq_default (others ps i) 0 (omega (arith, others-length)));
            };
        last = sym (get_or-eq_default (others ps i) 0 (omega (arith, others-length)));
        at_own = sym (ap (λ (n : ℕ). eval (get_or ps i 0) (drop n (others ps i))) (sym others-length) ∙ rw (drop-length (others ps i)));
      }

  -- the quotient's coefficient of degree e is what the next higher one leaves of the product's
  next_down : (e : ℕ) → get_or (vanishing ps) (suc e) 0 ⊕ get_or (others ps i) (suc e) 0 ⊗ get_or ps i 0 ≡ get_or (others ps i) e 0
  next_down e =
      ap₂ ◌⊕◌ (ap (λ (w : List ℕ). get_or w (suc e) 0) (vanishing-without ps i inside) ∙ linear-next (get_or ps i 0) 0 (others ps i) e)
      (⊗_comm (get_or (others ps i) (suc e) 0) (get_or ps i 0))
      ∙ ⊕-back (get_or (others ps i) e 0) (get_or ps i 0 ⊗ get_or (others ps i) (suc e) 0)

  -- one degree further down, where u and v are the products with point i
  pub divided_more : (e k : ℕ) (product quotient : List ℕ) (above value u v : ℕ) → k ≡ e + 1 → product ≡ lowest (side + 1) (vanishing ps)
      → Divided ps i k quotient above value → u ≡ above ⊗ get_or ps i 0 → v ≡ value ⊗ get_or ps i 0
      → Divided ps i e (set quotient e (get_or product k 0 ⊕ u)) (get_or product k 0 ⊕ u) (get_or product k 0 ⊕ u ⊕ v)
  unfolding next eval
  divided_more e k product quotient above value u v q p o eu ev =
      let s : k ≡ suc e = rw add-one at q in
      let read : get_or product k 0 ≡ get_or (vanishing ps) (suc e) 0 = rw (p, s) (get_or-tabulate (side + 1) (λ d. get_or (vanishing ps) d 0) (suc e) 0 (omega (arith, o.within))) in
      let here : get_or product k 0 ⊕ u ≡ get_or (others ps i) e 0 =
      ap₂ ◌⊕◌ read (eu ∙ ap (λ (c : ℕ). c ⊗ get_or ps i 0) (rw s at o.last)) ∙ next_down e in
      record {
        within = omega (arith, o.within);
        found = known_more o.found (omega (arith, o.within)) here (λ d l n. omega arith);
        last = here;
        at_own =
            ap₂ ◌⊕◌ here (ev ∙ ⊗_comm value (get_or ps i 0) ∙ ap (◌⊗◌ (get_or ps i 0)) (rw s at o.at_own))
            ∙ sym (ap (eval (get_or ps i 0)) (drop-cons (others ps i) e 0 (omega (arith, o.within, others-length))));
      }

  -- all divided
  module _ {e : ℕ} {quotient : List ℕ} {above value : ℕ} (d : distinct ps ≡ true) (bytes : Each Byte ps) (z : e ≤ 0) (o : Divided ps i e quotient above value) where
    -- the value is that of the product over the other points, at point i
    whole : value ≡ eval (get_or ps i 0) (others ps i)
    whole =
        let none : e ≡ 0 = omega arith in
        rw none at o.at_own

    -- so it has an inverse
    pub divided_invertible : inverse value ≢ None
    divided_invertible =
        let D : Divisors ps = divisors ps bytes (distinct-true ps d) in
        rw whole (D.invertible (eval (get_or ps i 0) (others ps i)) (D.of_row i inside))

    -- and the quotient times that is the row
    pub divided_row : (factor : ℕ) → inverse value ≡ Some factor → lowest side (scaled factor quotient) ≡ tabulate side (weight ps i)
    unfolding scaled
    divided_row factor found =
        let one : eval (get_or ps i 0) (others ps i) ⊗ factor ≡ 1 = rw whole at (⊗-inverse value factor found).1 in
        tabulate-same side _ _
        (λ k l.
        get_or-tabulate lanes (λ n. factor ⊗ get_or quotient n 0) k 0 (omega arith)
        ∙ ap (◌⊗◌ factor) (o.found.is k (omega arith) (omega arith))
        ∙ sym
        (weight-within ps i k inside short d
        ∙ ap (λ (w : List ℕ). get_or w k 0) (basis_formula ps bytes (distinct-true ps d) i factor inside one)
        ∙ scale_at factor (others ps i) k))
