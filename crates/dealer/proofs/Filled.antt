-- Bytes are written at the same place of each part of a buffer, part after part. And where that is done place after place, the columns are filled.
-- Assumes nothing.
use mathlib.Core.Path.{◌≡◌, refl, ap, ◌∙◌}
use mathlib.Core.List.{List, ◌++◌}
use mathlib.Core.Logic.{◌⊎◌, inl, inr, ⊎_elim}
use Prim.Native.Nat.{ℕ, ◌+◌, ◌-◌, ◌*◌, ◌≤◌, ◌<◌}
use native.Mathlib.Nat.{not-suc-le-zero, eq-or-lt_of_le, add-sub_cancel_left, add-sub_of_le}
use native.Mathlib.Omega.{arith}
use lib.ListN.{length, get_or, take, drop}
use Rattle.lists.proofs.Tests.{lt_or_le}
use Rattle.lists.proofs.Joined.{row_room}
use Rattle.lists.proofs.Parts.{back, mid_length, mid_in, mid_outside}
use Rattle.lists.proofs.Columns.{Columns}
use Rattle.dealer.specs.Columns.{Filled}

pub filled_none : (m q many : ℕ) (g : ℕ → ℕ → ℕ) (o : List ℕ) → Filled m q many g 0 o o
filled_none m q many g o = record { long = refl; inside = λ a k h l. absurd (not-suc-le-zero h); outside = λ a i h l. refl }

-- in part s, the entries from `at` on came back as y
module _ {m q many : ℕ} {g : ℕ → ℕ → ℕ} {s : ℕ} {o w : List ℕ} {at : ℕ} (n : ℕ) (y : List ℕ)
    (S : Filled m q many g s o w) (below : s < n) (fits : q + many ≤ m) (whole : length o ≡ n * m) (place : at ≡ s * m + q) (long : length y ≡ many) where
  room : at + many ≤ length w
  room = omega (arith, S.long, row_room s n m below)

  earlier : (a i : ℕ) → a < s → i < m → a * m + i < at
  earlier a i h l = omega (arith, row_room a s m h)

  later : (a i : ℕ) → s < a → at + many ≤ a * m + i
  later a i h = omega (arith, row_room s a m h)

  -- in part s itself
  beside : (a i : ℕ) → s ≡ a → (i < q) ⊎ (q + many ≤ i) → (a * m + i < at) ⊎ (at + many ≤ a * m + i)
  beside a i e =
      let same : s * m ≡ a * m = ap (λ (x : ℕ). x * m) e in
      ⊎_elim (λ (h : i < q). inl (omega arith)) (λ (h : q + many ≤ i). inr (omega arith))

  off : (a i : ℕ) → i < m → (s + 1 ≤ a) ⊎ ((i < q) ⊎ (q + many ≤ i)) → (a * m + i < at) ⊎ (at + many ≤ a * m + i)
  off a i l =
      ⊎_elim (λ (h : s + 1 ≤ a). inr (later a i (omega arith)))
      (λ (h : (i < q) ⊎ (q + many ≤ i)).
      ⊎_elim (λ (b : a < s). inl (earlier a i b l))
      (λ (b : s ≤ a). ⊎_elim (λ (e : s ≡ a). beside a i e h) (λ (b : s < a). inr (later a i b)) (eq-or-lt_of_le b))
      (lt_or_le a s))

  -- what is said of the parts before, of the same places
  before : (a i : ℕ) → (s + 1 ≤ a) ⊎ ((i < q) ⊎ (q + many ≤ i)) → (s ≤ a) ⊎ ((i < q) ⊎ (q + many ≤ i))
  before a i = ⊎_elim (λ (h : s + 1 ≤ a). inl (omega arith)) (λ h. inr h)

  within : ((k : ℕ) → k < many → get_or y k 0 ≡ g s k)
      → (a k : ℕ) → a < s + 1 → k < many → get_or (back at many w y) (a * m + (q + k)) 0 ≡ g a k
  within r a k h l =
      ⊎_elim
      (λ (b : a < s).
      mid_outside at many w y room 0 (a * m + (q + k)) long (inl (earlier a (q + k) b (omega arith))) ∙ S.inside a k b l)
      (λ (b : s ≤ a).
      let e : s ≡ a = omega arith in
      let i : a * m + (q + k) ≡ at + k = omega (arith, ap (λ (x : ℕ). x * m) e) in
      rw i (mid_in at many w y room 0 k long l ∙ r k l ∙ ap (λ (x : ℕ). g x k) e))
      (lt_or_le a s)

  pub filled_more : ((k : ℕ) → k < many → get_or y k 0 ≡ g s k) → Filled m q many g (s + 1) o (take at w ++ (y ++ drop (at + many - at) (drop at w)))
  filled_more r =
      rw add-sub_cancel_left
      (record {
        long = mid_length at many w y room long ∙ S.long;
        inside = within r;
        outside = λ a i l h.
            mid_outside at many w y room 0 (a * m + i) long (off a i l h) ∙ S.outside a i l (before a i h);
      })

-- filled after columns that are done: more columns are done
pub filled_columns : {n m q many : ℕ} {f g : ℕ → ℕ → ℕ} {o w : List ℕ} → Columns f n m q o → Filled m q many g n o w
    → ((a k : ℕ) → a < n → k < many → g a k ≡ f a (q + k)) → Columns f n m (q + many) w
filled_columns {n} {m} {q} {many} {f} {g} {o} {w} C S r =
    record {
      long = S.long ∙ C.long;
      done = λ a i ha hi l.
          ⊎_elim (λ (b : i < q). S.outside a i hi (inr (inl b)) ∙ C.done a i ha hi b)
          (λ (b : q ≤ i).
          let e : q + (i - q) ≡ i = add-sub_of_le b in
          rw e at (S.inside a (i - q) ha (omega arith) ∙ r a (i - q) ha (omega arith)))
          (lt_or_le i q);
    }
