-- From 64 blocks at a time to one: a byte of a column is a coefficient, and a byte of the values of a batch's columns is the byte of the share.
-- Assumes nothing.
use mathlib.Core.Path.{◌≡◌, ap, ◌∙◌}
use mathlib.Core.Bool.{Bool, true, false, cond}
use mathlib.Core.List.{List, map}
use Prim.Native.Nat.{ℕ, ◌+◌, ◌*◌, ◌/◌, ◌%◌, ◌<◌}
use native.Mathlib.Nat.{add-mul, mul_assoc}
use native.Mathlib.Omega.{arith}
use lib.Dec.{ltb}
use lib.ListN.{get_or}
use Rattle.lists.specs.Table.{tabulate}
use Rattle.lists.proofs.Table.{tabulate-same, map-tabulate}
use Rattle.lists.proofs.Joined.{row_of, place_of, place_on}
use Rattle.gf256.specs.Lanes.{lanes}
use Rattle.interpolation.specs.Polynomial.{eval}
use Rattle.interpolation.specs.RowValue.{values_of}
use Rattle.interpolation.proofs.RowValues.{row_value}
use Rattle.staircase.specs.Coefficients.{count_of, origin, coefficient_at, share_byte}
use Rattle.columns.specs.Columns.{strided}
use Rattle.columns.proofs.Laws.{strided-at}
use Rattle.dealer.specs.Columns.{column}

-- the place of a key byte k blocks on
key_on : (t k b j z e : ℕ) → (t * b + j) * z + e + k * (b * z) ≡ ((t + k) * b + j) * z + e
key_on t k b j z e =
    let row : (t + k) * b + j ≡ t * b + j + k * b = omega (arith, add-mul t k b) in
    rw row (omega (arith, add-mul (t * b + j) (k * b) z, mul_assoc k b z))

module _ (m b z : ℕ) (ds message keys : List ℕ) where
  column-at : (t j e k : ℕ) → k < lanes → get_or (column m b z ds message keys t j e) k 0 ≡ coefficient_at m b z ds message keys (t + k) j e
  unfolding column coefficient_at
  column-at t j e k h = go (ltb e z)
    where
      go : (low : Bool)
          → get_or (cond low (strided keys ((t * b + j) * z + e) (b * z)) (strided message (t * m + origin m z ds j e) m)) k 0
          ≡ cond low (get_or keys (((t + k) * b + j) * z + e) 0) (get_or message ((t + k) * m + origin m z ds j e) 0)
      go true = strided-at keys ((t * b + j) * z + e) (b * z) k h ∙ ap (λ (i : ℕ). get_or keys i 0) (key_on t k b j z e)
      go false = strided-at message (t * m + origin m z ds j e) m k h ∙ ap (λ (i : ℕ). get_or message i 0) (place_on t k (origin m z ds j e) m)

  -- row j of block t + k, of N blocks: q is the place of block t of the row, and there are d coefficients
  pub batch_byte : (N d j t q x k : ℕ) (columns : List (List ℕ)) → k < lanes → t + k < N → q ≡ j * N + t → d ≡ count_of m z ds j
      → columns ≡ tabulate d (column m b z ds message keys t j)
      → get_or (values_of x columns) k 0 ≡ share_byte m b z ds message keys N x (q + k)
  unfolding share_byte
  batch_byte N d j t q x k columns h l q-is d-is are =
      let place : q + k ≡ j * N + (t + k) = omega arith in
      let row : (q + k) / N ≡ j = ap (λ (i : ℕ). i / N) place ∙ row_of j (t + k) N l in
      let block : (q + k) % N ≡ t + k = ap (λ (i : ℕ). i % N) place ∙ place_of j (t + k) N l in
      rw (row, block, ← d-is)
      (row_value x columns k h
      ∙ ap (eval x)
      (ap (map (λ c. get_or c k 0)) are
      ∙ map-tabulate (λ c. get_or c k 0) d (column m b z ds message keys t j)
      ∙ tabulate-same d _ _ (λ e _. column-at t j e k h)))
