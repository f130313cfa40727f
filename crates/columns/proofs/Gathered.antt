-- Bytes that are gathered into a slice: a part at a time, and zeros past the end.
-- Assumes nothing.
use mathlib.Core.Path.{◌≡◌, sym, ap, ◌∙◌}
use mathlib.Core.List.{List, ◌++◌}
use mathlib.Core.Logic.{inr, ⊎_elim}
use Prim.Native.Nat.{ℕ, ◌+◌, ◌-◌, ◌*◌, ◌≤◌, ◌<◌}
use native.Mathlib.Nat.{add-mul}
use native.Mathlib.Omega.{arith}
use lib.ListN.{length, get_or, take, drop, replicate, get_or-append, get_or-eq_default, length-replicate, get_or-replicate}
use Rattle.lists.proofs.Parts.{mid_length, mid_before, mid_in, mid_outside}
use Rattle.lists.proofs.Table.{tabulate_is, length-tabulate, get_or-tabulate}
use Rattle.lists.proofs.Tests.{lt_or_le}
use Rattle.columns.specs.Columns.{strided_for, Inside}

pub strided_for-at : (n : ℕ) (bytes : List ℕ) (at step k : ℕ) → k < n → get_or (strided_for n bytes at step) k 0 ≡ get_or bytes (at + k * step) 0
unfolding strided_for
strided_for-at n bytes at step k h = get_or-tabulate n _ k 0 h

pub length-strided : (n : ℕ) (bytes : List ℕ) (at step : ℕ) → length (strided_for n bytes at step) ≡ n
unfolding strided_for
length-strided n bytes at step = length-tabulate n _

-- ---- a part at a time: the first i of the n bytes are there

pub record Taken (bytes : List ℕ) (at step n i : ℕ) (out : List ℕ) : Type 0 where
  pub long : length out ≡ n
  pub first : (k : ℕ) → k < i → get_or out k 0 ≡ get_or bytes (at + k * step) 0

module _ {bytes : List ℕ} {at step n i : ℕ} {out : List ℕ} (T : Taken bytes at step n i out) where
  -- entry k of the next ones
  next-at : (m : ℕ) (y : List ℕ) → y ≡ strided_for m bytes (at + i * step) step → (k : ℕ) → k < m → get_or y k 0 ≡ get_or bytes (at + (i + k) * step) 0
  next-at m y is k h =
      let place : at + i * step + k * step ≡ at + (i + k) * step = omega (arith, add-mul i k step) in
      rw place at (ap (λ l. get_or l k 0) is ∙ strided_for-at m bytes (at + i * step) step k h)

  -- the next m, up to `end`, were lent and came back as y
  pub taken_more : (m end j : ℕ) (y : List ℕ) → end ≡ i + m → j ≡ end → end ≤ n → y ≡ strided_for m bytes (at + i * step) step
      → Taken bytes at step n j (take i out ++ (y ++ drop (end - i) (drop i out)))
  taken_more m end j y past same within is =
      let e : length y ≡ m = ap length is ∙ length-strided m bytes (at + i * step) step in
      let gap : end - i ≡ m = omega arith in
      let room : i + m ≤ length out = omega (arith, T.long) in
      rw (gap, same, past)
      (record {
        long = mid_length i m out y room e ∙ T.long;
        first = λ k h.
            ⊎_elim (λ (b : k < i). mid_before i m out y room 0 k b ∙ T.first k b)
            (λ (b : i ≤ k).
            let on : i + (k - i) ≡ k = omega arith in
            let low : k - i < m = omega arith in
            rw on at (mid_in i m out y room 0 (k - i) e low ∙ next-at m y is (k - i) low))
            (lt_or_le k i);
      })

  pub taken-all : n ≤ i → out ≡ strided_for n bytes at step
  unfolding strided_for
  taken-all h = tabulate_is out n _ 0 T.long (λ k l. T.first k (omega arith))

-- the first r are there, and zeros after them
pub inside_then_zeros : (bytes : List ℕ) (at step n r : ℕ) (o y : List ℕ) → Inside (length bytes) at step n r → o ≡ replicate n 0
    → y ≡ strided_for r bytes at step → y ++ drop r o ≡ strided_for n bytes at step
unfolding strided_for
inside_then_zeros bytes at step n r o y I zeros is =
    let e : length y ≡ r = ap length is ∙ length-tabulate r _ in
    let l : length o ≡ n = ap length zeros ∙ length-replicate {A = ℕ} n 0 in
    let room : 0 + r ≤ length o = omega (arith, I.within) in
    tabulate_is (y ++ drop r o) n _ 0
    (mid_length 0 r o y room e ∙ l)
    (λ k h.
    ⊎_elim (λ (b : k < r). get_or-append y (drop r o) 0 k (rw e b) ∙ ap (λ v. get_or v k 0) is ∙ get_or-tabulate r _ k 0 b)
    (λ (b : r ≤ k).
    mid_outside 0 r o y room 0 k e (inr (omega arith))
    ∙ ap (λ v. get_or v k 0) zeros
    ∙ get_or-replicate {A = ℕ} n k 0 0 h
    ∙ sym (get_or-eq_default bytes 0 (I.after k b h)))
    (lt_or_le k r))
