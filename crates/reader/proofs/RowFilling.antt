-- One row of a party's share: the weighted sum of the parties' bytes and the known coefficients is the row's value at the party's point, in each block
-- of a batch, and the batches fill the row one after another.
-- Assumes nothing.
use mathlib.Core.Path.{◌≡◌, refl, sym, ap, ◌∙◌}
use mathlib.Core.List.{List, [], ◌++◌}
use mathlib.Core.Logic.{inl, inr, ⊎_elim}
use Prim.Native.Nat.{ℕ, ◌+◌, ◌-◌, ◌*◌, ◌≤◌, ◌<◌, zero-le}
use native.Mathlib.Nat.{not-suc-le-zero, add-sub_cancel_left}
use native.Mathlib.Omega.{arith}
use lib.ListN.{length, get_or, take, drop}
use Rattle.lists.proofs.Parts.{mid_length, mid_in, mid_outside}
use Rattle.lists.proofs.Table.{get_or-tabulate}
use Rattle.lists.proofs.Tests.{lt_or_le}
use Rattle.gf256.specs.Byte.{◌⊗◌}
use Rattle.gf256.specs.Lanes.{lanes}
use Rattle.interpolation.specs.Polynomial.{eval, sum_to}
use Rattle.interpolation.specs.Interpolation.{side}
use Rattle.interpolation.specs.Opening.{value_weight}
use Rattle.interpolation.proofs.Laws.{value_solved, chosen_party, chosen-known}
use Rattle.reader.specs.declared.decoding.Sizes.{Sizes}
use Rattle.reader.specs.Decoding.{combined, SolvesBatch, KnownColumns, SentColumns, SizesFit, RowFits, WeightsOf, RowOf, HasPlaces}
use Rattle.reader.specs.declared.row.Row.{Row}
use Rattle.reader.specs.Filling.{ChosenFor, FirstColumn, RowFilled}
use Rattle.reader.specs.Rows.{read_in, FillsBlocks}
use Rattle.reader.proofs.RowStep.{combined-at, sent-entry, known-entry}

chosen_at : (weights table : List (List ℕ)) (d x : ℕ) (chosen : List ℕ) → ChosenFor weights d x chosen → FirstColumn chosen table → (i : ℕ) → i < side
    → get_or (get_or table i []) 0 0 ≡ value_weight weights d x i
chosen_at weights table d x chosen C T i h =
    T i h ∙ ap (λ (l : List ℕ). get_or l i 0) C ∙ get_or-tabulate side (value_weight weights d x) i 0 h

-- ---- a batch

module _ {sizes : Sizes} {top q t many : ℕ} {points prefixes places work B before columns chosen : List ℕ} {weights : List (List ℕ)} (table : List (List ℕ)) (x : ℕ)
    (S : SizesFit sizes prefixes) (F : RowFits sizes top q places) (few : many ≤ lanes) (within : t + many ≤ sizes.blocks)
    (K : KnownColumns work places sizes.d top t sizes.block before) (G : SentColumns prefixes sizes.prefix (q + t) many sizes.d before columns)
    (W : WeightsOf points sizes.d top weights) (C : ChosenFor weights sizes.d x chosen) (T : FirstColumn chosen table) (R : RowOf sizes top q places points prefixes B)
    (H : HasPlaces t (t + many) sizes.block sizes.d top places B work) where
  pub value_step : (k : ℕ) → k < many → get_or (combined columns table 0 top) k 0 ≡ eval x (R.row (t + k))
  value_step k hk =
      let n : length points ≡ sizes.d = W.long in
      let long : length (R.row (t + k)) ≡ top = R.long (t + k) (omega arith) in
      combined-at columns table 0 top k (omega arith)
      ∙ ap (λ (y : ℕ). sum_to y (λ i. get_or (get_or table i []) 0 0 ⊗ get_or columns (i * lanes + k) 0)) (sym long)
      ∙ value_solved points (R.row (t + k)) W.bytes W.distinct (R.bytes (t + k) (omega arith)) (omega (arith, F.top_low)) x
      (λ i. get_or (get_or table i []) 0 0) (λ i. get_or columns (i * lanes + k) 0)
      (λ a h.
      chosen_at weights table sizes.d x chosen C T a (omega (arith, S.d_high))
      ∙ chosen_party points sizes.d weights x a n (omega arith) (λ e l. W.parties a e (omega arith) l))
      (λ a h. sent-entry S F few within K G W R H k a hk (omega arith))
      (λ i l h.
      rw n
      (chosen_at weights table sizes.d x chosen C T i (omega (arith, F.top_high))
      ∙ chosen-known points sizes.d weights x i n (omega arith) (λ e b. W.known i e (omega arith) (omega arith) b)))
      (λ i l h. known-entry S F few within K G W R H k i hk (omega arith) (omega arith))

-- ---- batches one after another

pub filled_none : (x q : ℕ) (row : ℕ → List ℕ) (o : List ℕ) → RowFilled x q 0 row o o
filled_none x q row o =
    record { long = refl; values = λ t h. absurd (not-suc-le-zero h); before-q = λ i h. refl; after-q = λ i h. refl }

-- what was lent came back with the sums of degree 0: one place a block, from the first on
pub sums_at : (columns : List ℕ) (table : List (List ℕ)) (first : List ℕ) (top many : ℕ) (y y' : List ℕ) → get_or first 0 0 ≡ 0
    → SolvesBatch columns table first 0 1 top 0 1 many y y' → (k : ℕ) → k < many → get_or y' k 0 ≡ get_or (combined columns table 0 top) k 0
sums_at columns table first top many y y' zero S k h =
    let sums : List ℕ = combined columns table 0 top in
    let place : (u : ℕ) → u * 1 + get_or first 0 0 ≡ u = λ u. omega arith in
    let done =
    S (combined columns table 0 top)
    (λ e u a b l.
    let is : e ≡ 0 = omega arith in
    let at : 0 * 1 + get_or first e 0 + u * 1 ≡ u = rw is (omega arith) in
    rw (at, is)) in
    rw (place k) at (done.new k 0 (omega arith) (omega arith) (omega arith) (omega arith))

-- the places of the next batch were lent and came back as y
pub filled_more : {x q t many : ℕ} {row : ℕ → List ℕ} {before o : List ℕ} (y : List ℕ) → RowFilled x q t row before o → q + t + many ≤ length before
    → length y ≡ many → ((k : ℕ) → k < many → get_or y k 0 ≡ eval x (row (t + k)))
    → RowFilled x q (t + many) row before (take (q + t) o ++ (y ++ drop (q + t + many - (q + t)) (drop (q + t) o)))
filled_more {x} {q} {t} {many} {row} {before} {o} y F inside long is =
    let room : q + t + many ≤ length o = rw F.long inside in
    rw add-sub_cancel_left
    (record {
      long = mid_length (q + t) many o y room long ∙ F.long;
      values = λ u h.
          ⊎_elim (λ (l : u < t). mid_outside (q + t) many o y room 0 (q + u) long (inl (omega arith)) ∙ F.values u l)
          (λ (l : t ≤ u).
          let r : t + (u - t) ≡ u = omega arith in
          let p : q + t + (u - t) ≡ q + u = omega arith in
          rw (p, r) at (mid_in (q + t) many o y room 0 (u - t) long (omega arith) ∙ is (u - t) (omega arith)))
          (lt_or_le u t);
      before-q = λ i h. mid_outside (q + t) many o y room 0 i long (inl (omega arith)) ∙ F.before-q i h;
      after-q = λ i h. mid_outside (q + t) many o y room 0 i long (inr (omega arith)) ∙ F.after-q i (omega arith);
    })

-- ---- a row as the code has it

pub fills_none : (row : Row) (table : List (List ℕ)) (work o : List ℕ) → FillsBlocks row table work 0 o o
fills_none row table work o B points chosen weights x W C T R H = filled_none x row.q R.row o

-- one batch more: the places of its blocks were lent as y, and came back as y'
module _ (row : Row) (t many : ℕ) (few : many ≤ lanes) (within : t + many ≤ row.sizes.blocks) {work before columns : List ℕ}
    (K : KnownColumns work row.places.now row.sizes.d row.top t row.sizes.block before)
    (G : SentColumns (read_in row) row.sizes.prefix (row.q + t) many row.sizes.d before columns) where
  pub fills_more : (table : List (List ℕ)) (first : List ℕ) (y y' o o' : List ℕ) → get_or first 0 0 ≡ 0
      → SolvesBatch columns table first 0 1 row.top 0 1 many y y' → length y' ≡ many → row.q + row.sizes.blocks ≤ length o
      → FillsBlocks row table work t o o'
      → FillsBlocks row table work (t + many) o (take (row.q + t) o' ++ (y' ++ drop (row.q + t + many - (row.q + t)) (drop (row.q + t) o')))
  fills_more table first y y' o o' zero S long room F B points chosen weights x W C T R H =
      filled_more y' (F B points chosen weights x W C T R H) (omega arith) long
      (λ i h.
      sums_at columns table first row.top many y y' zero S i h
      ∙ value_step table x row.sizes_fit row.row_fits few within K G W C T R (λ u e low high. H u e zero-le (omega arith)) i h)
