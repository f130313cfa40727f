-- The table of an opening's weights as the code fills it: over that of the basis come the rows of the known coefficients, one after another. And the
-- weights of a value, from such a table.
-- Assumes nothing.
use mathlib.Core.Path.{◌≡◌, refl, sym, ap, ap₂, ◌∙◌}
use mathlib.Core.List.{List, [], ◌∷◌, ◌++◌}
use mathlib.Core.Logic.{⊎_elim}
use Prim.Native.Nat.{ℕ, zero, suc, ◌+◌, ◌-◌, ◌≤◌, ◌<◌, min}
use native.Mathlib.Numerals.{add-one}
use native.Mathlib.Omega.{arith}
use lib.ListN.{length, get_or, set, take, drop, replicate, length-replicate, length-append}
use lib.Seq.{get_or-take, drop-cons, drop-length}
use borrow.Author.Tests.{lt-ltb, le-ltb}
use Rattle.lists.specs.Table.{tabulate}
use Rattle.lists.proofs.Each.{replicate-at, get_or_beyond}
use Rattle.std.proofs.lemmas.List.{drop-replicate, length-take-le}
use Rattle.lists.proofs.Known.{Known, known-all, Written, written_more, written_all}
use Rattle.lists.proofs.Parts.{take_beyond}
use Rattle.lists.proofs.Table.{length-tabulate, get_or-tabulate, tabulate-same, tabulate_is}
use Rattle.lists.proofs.Tests.{lt_or_le}
use Rattle.gf256.specs.Byte.{◌⊕◌, ◌⊗◌, power}
use Rattle.gf256.proofs.Laws.{⊕-zero, ⊗_comm}
use Rattle.interpolation.specs.Polynomial.{next, eval, plus, scale, vanishing, lowest}
use Rattle.interpolation.specs.Interpolation.{side, weight, basis_table}
use Rattle.interpolation.specs.Opening.{remainder, opening_weight, opening_table, value_weight}
use Rattle.interpolation.proofs.Polynomial.{eval-same, vanishing-length}
use Rattle.interpolation.proofs.Table.{lowest-at}
use Rattle.interpolation.proofs.Weights.{weight_beyond}
use Rattle.interpolation.proofs.Remainders.{raised_at, remainder-length}

-- ---- one row

-- the first d coefficients are written over zeros: none yet
pub taken_none : (n d : ℕ) (cs : List ℕ) → Known 0 (λ k. get_or (take d cs) k 0) n (λ k. 0 ≤ k → d ≤ k) (replicate n 0)
taken_none n d cs =
    record { long = length-replicate {A = ℕ} n 0; is = λ k l b. replicate-at n k 0 ∙ sym (take_beyond d cs k 0 (b (omega arith))) }

pub taken-zero : (n d : ℕ) (cs : List ℕ) → d ≡ 0 → replicate n 0 ≡ lowest n (take d cs)
taken-zero n d cs z = known-all (taken_none n d cs) (λ k l j. omega arith)

-- the first d coefficients are copied over zeros
pub taken_over : (n d : ℕ) (cs : List ℕ) → d ≤ n → d ≤ length cs → take d cs ++ drop d (replicate {A = ℕ} n 0) ≡ lowest n (take d cs)
taken_over n d cs h l =
    rw (drop-replicate {X = ℕ} d n 0)
    (tabulate_is (take d cs ++ replicate (n - d) 0) n (λ e. get_or (take d cs) e 0) 0
    (length-append (take d cs) (replicate {A = ℕ} (n - d) 0) ∙ omega (arith, length-take-le d cs l, length-replicate {A = ℕ} (n - d) 0))
    (λ e b. get_or_beyond (take d cs) (n - d) e 0))

taken-same : (n d : ℕ) (cs ds : List ℕ) → ((e : ℕ) → get_or cs e 0 ≡ get_or ds e 0) → lowest n (take d cs) ≡ lowest n (take d ds)
taken-same n d cs ds same =
    tabulate-same n _ _
    (λ e _. ⊎_elim (λ (h : e < d). get_or-take d cs e 0 h ∙ same e ∙ sym (get_or-take d ds e 0 h))
    (λ (h : d ≤ e). take_beyond d cs e 0 h ∙ sym (take_beyond d ds e 0 h)) (lt_or_le e d))

module _ (ps product : List ℕ) (short : length ps ≤ side) (is : product ≡ lowest (side + 1) (vanishing ps)) where
  product_at : (e : ℕ) → get_or product e 0 ≡ get_or (vanishing ps) e 0
  product_at e = ap (λ (l : List ℕ). get_or l e 0) is ∙ lowest-at (side + 1) (vanishing ps) e (omega (arith, vanishing-length ps))

  pub first-row : lowest side (take (length ps) product) ≡ lowest side (remainder ps 0)
  unfolding remainder
  first-row = taken-same side (length ps) product (vanishing ps) product_at

  pub next_row : (k : ℕ) (last : List ℕ) → last ≡ lowest side (remainder ps k)
      → lowest side (take (length ps) (plus (0 ∷ last) (scale (get_or last (length ps - 1) 0) product))) ≡ lowest side (remainder ps (suc k))
  unfolding remainder
  next_row k last q =
      taken-same side (length ps) _ _
      (λ e.
      raised_at last highest product e
      ∙ ap₂ ◌⊕◌ (shifted e) (ap₂ ◌⊗◌ (last-at (length ps - 1)) (product_at e))
      ∙ sym (raised_at (remainder ps k) _ (vanishing ps) e))
    where
      highest : ℕ
      highest = get_or last (length ps - 1) 0

      last-at : (e : ℕ) → get_or last e 0 ≡ get_or (remainder ps k) e 0
      last-at e = ap (λ (l : List ℕ). get_or l e 0) q ∙ lowest-at side (remainder ps k) e (omega (arith, remainder-length ps k))

      shifted : (e : ℕ) → get_or (0 ∷ last) e 0 ≡ get_or (0 ∷ remainder ps k) e 0
      shifted zero = refl
      shifted (suc e) = last-at e

-- ---- the rows

-- of the rows of known coefficients, those below i are written; all end at `end`
abbrev pub KnownRows : List ℕ → ℕ → ℕ → ℕ → List (List ℕ) → Type 0
KnownRows ps top end i table = Written [] (λ k. tabulate side (opening_weight ps top k)) side end i table

module _ (ps : List ℕ) (top end : ℕ) (cut : end ≡ min top side) where
  -- the row of a known coefficient
  known-row : (i k : ℕ) → i ≡ length ps + k → i < end → tabulate side (opening_weight ps top i) ≡ lowest side (remainder ps k)
  unfolding opening_weight
  known-row i k q h =
      let low : length ps ≤ i = omega arith in
      let high : i < top = omega arith in
      let place : i - length ps ≡ k = omega arith in
      tabulate-same side _ _ (λ e _. simp (le-ltb i (length ps) low, lt-ltb i top high, place))

  -- none is written: the others have the basis' weights, or zeros
  pub opening_none : (table : List (List ℕ)) → table ≡ basis_table ps → KnownRows ps top end (length ps) table
  unfolding opening_weight basis_table
  opening_none table e =
      record {
        long = ap length e ∙ length-tabulate side _;
        is =
            λ k l b.
            ap (λ (t : List (List ℕ)). get_or t k []) e
            ∙ get_or-tabulate side (λ i. tabulate side (weight ps i)) k [] l
            ∙ tabulate-same side _ _
            (λ c _. ⊎_elim (λ (h : k < length ps). simp (lt-ltb k (length ps) h))
            (λ (h : length ps ≤ k).
            let t : top ≤ k = omega (arith, b h) in
            weight_beyond ps k c h ∙ simp (le-ltb k (length ps) h, le-ltb k top t)) (lt_or_le k (length ps)));
      }

  pub opening_more : (i k : ℕ) (table : List (List ℕ)) (row : List ℕ) → i ≡ length ps + k → i < end → row ≡ lowest side (remainder ps k)
      → KnownRows ps top end i table → KnownRows ps top end (i + 1) (set table i row)
  opening_more i k table row q h e o = written_more o h (omega arith) (e ∙ sym (known-row i k q h))

  -- the row before the next one
  pub opening_last : (i j k : ℕ) (table : List (List ℕ)) → j < i → j ≡ length ps + k → j < end → KnownRows ps top end i table
      → get_or table j [] ≡ lowest side (remainder ps k)
  opening_last i j k table n q h o = o.is j (omega arith) (λ l. omega arith) ∙ known-row j k q h

  pub opening_all : (i : ℕ) (table : List (List ℕ)) → end ≤ i → KnownRows ps top end i table → table ≡ opening_table ps top
  unfolding opening_table
  opening_all i table h o = written_all o h

-- ---- the weights of a value

-- the value of the n lowest coefficients, from the highest down: of none
pub value_none : (x n e : ℕ) (row : List ℕ) → e ≡ n → 0 ≡ eval x (drop e (lowest n row))
unfolding eval
value_none x n e row q =
    sym (ap (λ (k : ℕ). eval x (drop k (lowest n row))) (q ∙ sym (length-tabulate n _)) ∙ ap (eval x) (drop-length (lowest n row)))

-- one more, where u is the product with x
pub value_more : (x n e k : ℕ) (row : List ℕ) (value u : ℕ) → k ≡ e + 1 → k ≤ n → value ≡ eval x (drop k (lowest n row)) → u ≡ value ⊗ x
    → get_or row e 0 ⊕ u ≡ eval x (drop e (lowest n row))
unfolding next eval
value_more x n e k row value u q h o eu =
    let s : k ≡ suc e = rw add-one at q in
    let inside : e < n = omega arith in
    ap₂ ◌⊕◌ (sym (get_or-tabulate n (λ c. get_or row c 0) e 0 inside)) (eu ∙ ⊗_comm value x ∙ ap (◌⊗◌ x) (rw s at o))
    ∙ sym (ap (eval x) (drop-cons (lowest n row) e 0 (rw length-tabulate inside)))

-- a row has no coefficients past its end
pub value_cut : (x d : ℕ) (row : List ℕ) → length row ≡ side → eval x (lowest (min d side) row) ≡ eval x (lowest d row)
value_cut x d row long =
    ⊎_elim
    (λ (h : d < side). let q : min d side ≡ d = omega arith in ap (λ (n : ℕ). eval x (lowest n row)) q)
    (λ (h : side ≤ d).
    eval-same x (lowest (min d side) row) (lowest d row)
    (λ e. lowest-at (min d side) row e (omega arith) ∙ sym (lowest-at d row e (omega arith)))) (lt_or_le d side)

module _ (weights : List (List ℕ)) (d x i value : ℕ) (is : value ≡ eval x (lowest d (get_or weights i []))) where
  -- of a party
  pub value_party : i < d → value ≡ value_weight weights d x i
  unfolding value_weight
  value_party h = simp (lt-ltb i d h) (is ∙ sym (⊕-zero _))

  -- of a known coefficient
  pub value_known : (p : ℕ) → d ≤ i → p ≡ power x i → value ⊕ p ≡ value_weight weights d x i
  unfolding value_weight
  value_known p h ep = simp (le-ltb i d h) (ap₂ ◌⊕◌ is ep)
