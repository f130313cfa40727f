-- The definition's search for the block length finds the smallest of all positive numbers that every d − z divides, since it passes none and the product
-- of all d − z is one.
-- Assumes nothing.
use mathlib.Core.Path.{◌≡◌, refl, sym, ◌∙◌}
use mathlib.Core.Bool.{true, false, true≢false}
use mathlib.Core.List.{List, [], ◌∷◌}
use Prim.Native.Nat.{ℕ, ◌+◌, ◌-◌, ◌*◌, ◌%◌, ◌≤◌, ◌<◌, ◌∣◌}
use native.Mathlib.Nat.{le_antisymm, mul-pos, dvd-mul_right, dvd-mul_left_of_dvd, dvd_of_mod-eq-zero, mod-eq-zero_of_dvd, pos_of_dvd_of_pos}
use native.Mathlib.Numerals.{add-one}
use native.Mathlib.Omega.{arith}
use lib.Dec.{eqb}
use lib.ListN.{length, drop, get_or}
use lib.Seq.{drop-cons, drop-length}
use borrow.Author.Tests.{eq-eqb, ne_eqb, eqb-true}
use Rattle.lists.specs.Each.{Each}
use Rattle.lists.specs.FirstFrom.{first_from}
use Rattle.lists.proofs.Each.{each_imp}
use Rattle.lists.proofs.FirstFrom.{NoneFrom, FirstFound, first_found}
use Rattle.lists.proofs.Tests.{both}
use Rattle.scheme.specs.BlockLength.{divides, common_multiple, block_length, Least}

-- the test says what it is to say
pub divides_each : (z : ℕ) (ds : List ℕ) (x : ℕ) → divides z ds x ≡ true → Each (λ d. d - z ∣ x) ds
unfolding divides
divides_each z [] x e = tt
divides_each z (d ∷ ds) x e =
    let t = both (eqb (x % (d - z)) 0) (divides z ds x) e in
    (dvd_of_mod-eq-zero (d - z) (eqb-true (x % (d - z)) 0 t.0), divides_each z ds x t.1)

pub each_divides : (z : ℕ) (ds : List ℕ) (x : ℕ) → Each (λ d. d - z ∣ x) ds → divides z ds x ≡ true
unfolding divides
each_divides z [] x h = refl
each_divides z (d ∷ ds) x h = rw (eq-eqb (x % (d - z)) 0 (mod-eq-zero_of_dvd (d - z) h.0), each_divides z ds x h.1)

multiple_divided : (z : ℕ) (ds : List ℕ) → Each (λ d. d - z ∣ common_multiple z ds) ds
unfolding common_multiple
multiple_divided z [] = tt
multiple_divided z (d ∷ ds) = (
  dvd-mul_right (d - z) (common_multiple z ds),
  each_imp (λ e. e - z ∣ common_multiple z ds) (λ e. e - z ∣ (d - z) * common_multiple z ds)
      (λ e h. dvd-mul_left_of_dvd (e - z) h (d - z)) ds (multiple_divided z ds),
)

multiple_positive : (z : ℕ) (ds : List ℕ) → Each (λ d. z < d) ds → 0 < common_multiple z ds
unfolding common_multiple
multiple_positive z [] h = omega arith
multiple_positive z (d ∷ ds) h =
    let l : z < d = h.0 in
    let p : 0 < d - z = omega arith in
    mul-pos p (multiple_positive z ds h.1)

-- only where every count is above z do all d − z divide a positive number
divided_above : (z : ℕ) (ds : List ℕ) (x : ℕ) → 0 < x → Each (λ d. d - z ∣ x) ds → Each (λ d. z < d) ds
divided_above z ds x p h = each_imp (λ d. d - z ∣ x) (λ d. z < d) (λ d divides. omega (arith, pos_of_dvd_of_pos divides p)) ds h

module _ (z : ℕ) (ds : List ℕ) where
  found : (many x : ℕ) → FirstFound (divides z ds) many x (first_from (divides z ds) many x)
  found = first_found (divides z ds)

  -- a number that is divided is at or past the end of those of which none is
  past : (m x : ℕ) → NoneFrom (divides z ds) 1 m → 0 < x → Each (λ d. d - z ∣ x) ds → m ≤ x
  past m x none p h =
      let no : x < m → ⊥ = λ l. true≢false (sym (each_divides z ds x h) ∙ none x p l) in
      omega arith

  pub block_least : Each (λ d. z < d) ds → Least z ds (block_length z ds)
  unfolding block_length
  block_least above =
      let f = found (common_multiple z ds) 1 in
      let l = past (block_length z ds) (common_multiple z ds) f.before (multiple_positive z ds above) (multiple_divided z ds) in
      record {
        positive = f.low;
        divided = divides_each z ds (block_length z ds) (f.here (omega arith));
        smallest = λ x p h. past (block_length z ds) x f.before p h;
      }

  -- a search that goes past 1 is over counts above z
  pub block-above : 1 < block_length z ds → Each (λ d. z < d) ds
  unfolding block_length
  block-above h = divided_above z ds (common_multiple z ds) (omega (arith, (found (common_multiple z ds) 1).high)) (multiple_divided z ds)

pub least_above : {z : ℕ} {ds : List ℕ} {m : ℕ} → Least z ds m → Each (λ d. z < d) ds
least_above {z} {ds} {m} l = divided_above z ds m l.positive l.divided

pub least_unique : {z : ℕ} {ds : List ℕ} {a b : ℕ} → Least z ds a → Least z ds b → a ≡ b
least_unique {z} {ds} {a} {b} p q = le_antisymm (p.smallest b q.positive q.divided) (q.smallest a p.positive p.divided)

-- the test in the code: the counts from i on
module _ (z : ℕ) (ds : List ℕ) (x i : ℕ) where
  pub divides_end : i ≡ length ds → divides z (drop i ds) x ≡ true
  unfolding divides
  divides_end e = rw (e, drop-length)

  pub divides-next : i < length ds → x % (get_or ds i 0 - z) ≡ 0 → divides z (drop i ds) x ≡ divides z (drop (i + 1) ds) x
  unfolding divides
  divides-next h e = rw (add-one, drop-cons ds i 0 h, eq-eqb _ _ e)

  pub divides-not : i < length ds → (x % (get_or ds i 0 - z) ≡ 0 → ⊥) → divides z (drop i ds) x ≡ false
  unfolding divides
  divides-not h e = rw (drop-cons ds i 0 h, ne_eqb _ _ e)
