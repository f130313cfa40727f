-- Writes of bytes of B into the work buffer: the degrees of a batch of blocks, and batches one after another.
-- Assumes nothing.
use mathlib.Core.Path.{◌≡◌, refl, ap₂, ◌∙◌}
use mathlib.Core.List.{List}
use mathlib.Core.Logic.{⊎_elim}
use Prim.Native.Nat.{ℕ, ◌+◌, ◌-◌, ◌*◌, ◌≤◌, ◌<◌}
use native.Mathlib.Nat.{not-suc-le-zero}
use native.Mathlib.Omega.{arith}
use lib.ListN.{get_or}
use Rattle.lists.proofs.Joined.{place_on}
use Rattle.lists.proofs.Tests.{lt_or_le}
use Rattle.reader.specs.Decoding.{WroteFrom, Solved}

pub solved_none : (s n m z : ℕ) (places B w : List ℕ) → Solved s n m z z places B w w
solved_none s n m z places B w = record { long = refl; still = λ k h. h; new = λ t e a b p q. absurd (omega arith) }

pub solved-start : (m z d : ℕ) (places B w : List ℕ) → Solved 0 0 m z d places B w w
solved-start m z d places B w = record { long = refl; still = λ k h. h; new = λ t e a b p q. absurd (not-suc-le-zero b) }

pub solved_degree : {t many m z e : ℕ} {places B w w' w'' : List ℕ} → Solved t (t + many) m z e places B w w'
    → WroteFrom B w' w'' many (λ k. t * m + get_or places e 0 + k * m) → Solved t (t + many) m z (e + 1) places B w w''
solved_degree {t} {many} {m} {z} {e} {places} {B} {w} {w'} {w''} S W =
    record {
      long = W.long ∙ S.long;
      still = λ k h. W.still k (S.still k h);
      new = λ u f a b p q.
          ⊎_elim (λ (l : f < e). W.still (u * m + get_or places f 0) (S.new u f a b p l))
          (λ (l : e ≤ f).
          let s : e ≡ f = omega arith in
          let r : t + (u - t) ≡ u = omega arith in
          let o : t * m + get_or places e 0 + (u - t) * m ≡ u * m + get_or places f 0
          = place_on t (u - t) (get_or places e 0) m ∙ ap₂ (λ x y. x * m + get_or places y 0) r s in
          rw o at (W.new (u - t) (omega arith)))
          (lt_or_le f e);
    }

pub solved_batch : {s n m z d : ℕ} {places B w w' w'' : List ℕ} (k : ℕ)
    → Solved s n m z d places B w w' → Solved n k m z d places B w' w'' → Solved s k m z d places B w w''
solved_batch {s} {n} {m} {z} {d} {places} {B} {w} {w'} {w''} k S T =
    record {
      long = T.long ∙ S.long;
      still = λ i h. T.still i (S.still i h);
      new = λ u e a b p q.
          ⊎_elim (λ (l : u < n). T.still (u * m + get_or places e 0) (S.new u e a l p q)) (λ (l : n ≤ u). T.new u e l b p q) (lt_or_le u n);
    }
