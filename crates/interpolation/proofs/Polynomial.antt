-- Laws of polynomials: values, lengths, bytes and single coefficients of sums, multiples and products. Each is an induction over the coefficients.
-- Assumes nothing.
use mathlib.Core.Path.{◌≡◌, refl, sym, ap, ap₂, ◌∙◌}
use mathlib.Core.List.{List, [], ◌∷◌, ◌++◌}
use Prim.Native.Nat.{ℕ, zero, suc, ◌≤◌, ◌<◌}
use native.Mathlib.Nat.{le_of_suc-le-suc, not-suc-le-zero, suc_inj}
use native.Mathlib.Omega.{arith}
use lib.Dec.{lit<}
use lib.ListN.{length, get_or, take, replicate, get_or-eq_default}
use lib.Seq.{length-take-le, take-suc, take_all}
use Rattle.lists.specs.Each.{Each, Byte}
use Rattle.lists.specs.Table.{tabulate}
use Rattle.lists.specs.Without.{without}
use Rattle.lists.proofs.Each.{each_get_d}
use Rattle.lists.proofs.Table.{length-tabulate}
use Rattle.gf256.specs.Byte.{◌⊕◌, ◌⊗◌, power}
use Rattle.gf256.proofs.Laws.{⊕_assoc, ⊕_comm, ⊕_left_comm, zero-⊕, ⊕-zero, ⊕_self, ⊕-byte, ⊗_assoc, ⊗_comm, ⊗_left_comm, ⊗-⊕, ⊕-⊗, ⊗-zero, zero-⊗, one_⊗, ⊗-byte}
use Rattle.interpolation.specs.Polynomial.{next, eval, plus, scale, linear, vanishing, sum_to}

-- ---- values

pub eval-plus : (x : ℕ) (cs ds : List ℕ) → eval x (plus cs ds) ≡ eval x cs ⊕ eval x ds
unfolding next eval plus
eval-plus x [] ds = sym (zero-⊕ (eval x ds))
eval-plus x (c ∷ cs) [] = sym (⊕-zero (eval x (c ∷ cs)))
eval-plus x (c ∷ cs) (d ∷ ds) = simp (eval-plus x cs ds, ⊗-⊕, ⊕_assoc, ⊕_left_comm)

pub eval-scale : (x k : ℕ) (cs : List ℕ) → eval x (scale k cs) ≡ k ⊗ eval x cs
unfolding next eval scale
eval-scale x k [] = sym (⊗-zero k)
eval-scale x k (c ∷ cs) = simp (eval-scale x k cs, ⊗-⊕, ⊗_left_comm x k)

pub eval-zeros : (x n : ℕ) → eval x (replicate n 0) ≡ 0
unfolding next eval
eval-zeros x zero = refl
eval-zeros x (suc n) = simp (eval-zeros x n, zero-⊕, ⊗-zero)

-- the coefficients after the first ones count times a power of x
pub eval-append : (x : ℕ) (cs ds : List ℕ) → Byte (eval x ds) → eval x (cs ++ ds) ≡ eval x cs ⊕ power x (length cs) ⊗ eval x ds
unfolding next eval power
eval-append x [] ds h = simp (zero-⊕, one_⊗ (eval x ds) h)
eval-append x (c ∷ cs) ds h = simp (eval-append x cs ds h, ⊗-⊕, ⊗_assoc, ⊕_assoc)

-- zeros of the highest degrees change no value
pub eval_append_zeros : (x : ℕ) (cs : List ℕ) (n : ℕ) → eval x (cs ++ replicate n 0) ≡ eval x cs
unfolding next eval
eval_append_zeros x [] n = eval-zeros x n
eval_append_zeros x (c ∷ cs) n = simp (eval_append_zeros x cs n)

-- polynomials with the same coefficients have the same values, whatever zeros stand above
pub eval-same : (x : ℕ) (cs ds : List ℕ) → ((e : ℕ) → get_or cs e 0 ≡ get_or ds e 0) → eval x cs ≡ eval x ds
unfolding next eval
eval-same x [] [] h = refl
eval-same x [] (d ∷ ds) h = sym (⊕-zero 0) ∙ ap₂ ◌⊕◌ (h 0) (sym (⊗-zero x) ∙ ap (◌⊗◌ x) (eval-same x [] ds (λ e. h (suc e))))
eval-same x (c ∷ cs) [] h = ap₂ ◌⊕◌ (h 0) (ap (◌⊗◌ x) (eval-same x cs [] (λ e. h (suc e))) ∙ ⊗-zero x) ∙ ⊕-zero 0
eval-same x (c ∷ cs) (d ∷ ds) h = ap₂ (next x) (eval-same x cs ds (λ e. h (suc e))) (h 0)

pub eval-linear : (x p low : ℕ) (cs : List ℕ) → eval x (linear p low cs) ≡ low ⊕ (x ⊕ p) ⊗ eval x cs
unfolding next eval linear
eval-linear x p low [] = simp (⊗-zero)
eval-linear x p low (c ∷ cs) = simp (eval-linear x p c cs, ⊗-⊕, ⊕-⊗, ⊗_left_comm, ⊕_assoc, ⊕_left_comm)

-- the value is the sum of the coefficients times the powers of x
pub eval_table : (x n : ℕ) (f : ℕ → ℕ) → ((e : ℕ) → e < n → Byte (f e)) → eval x (tabulate n f) ≡ sum_to n (λ e. f e ⊗ power x e)
unfolding tabulate sum_to next eval
eval_table x zero f h = refl
eval_table x (suc n) f h =
    let one : eval x (f n ∷ []) ≡ f n = simp (⊗-zero, ⊕-zero) in
    eval-append x (tabulate n f) (f n ∷ []) (rw one (h n (omega arith)))
    ∙ rw (one, length-tabulate n f, eval_table x n f (λ e l. h e (omega arith)), ⊗_comm (power x n) (f n))

-- the value of a polynomial of bytes is a byte
pub eval-byte : (x : ℕ) (cs : List ℕ) → Each Byte cs → Byte (eval x cs)
unfolding next eval
eval-byte x [] h = lit< tt
eval-byte x (c ∷ cs) h = ⊕-byte c (x ⊗ eval x cs) h.0 (⊗-byte x (eval x cs))

-- one coefficient more counts times its power of x
pub eval-take : (x : ℕ) (cs : List ℕ) (k : ℕ) → Each Byte cs → k < length cs → eval x (take (suc k) cs) ≡ eval x (take k cs) ⊕ power x k ⊗ get_or cs k 0
unfolding eval next
eval-take x cs k b h =
    let one : eval x (get_or cs k 0 ∷ []) ≡ get_or cs k 0 = ap (◌⊕◌ (get_or cs k 0)) (⊗-zero x) ∙ ⊕-zero (get_or cs k 0) in
    ap (eval x) (take-suc cs k 0 h)
    ∙ eval-append x (take k cs) (get_or cs k 0 ∷ []) (rw one (each_get_d Byte cs k 0 h b))
    ∙ rw (one, length-take-le k cs (omega arith))

-- a polynomial's highest coefficient, where there are d more
pub eval_highest : (x : ℕ) (cs : List ℕ) (d : ℕ) → Each Byte cs → length cs ≡ suc d → eval x cs ≡ eval x (take d cs) ⊕ power x d ⊗ get_or cs d 0
eval_highest x cs d b n = ap (eval x) (sym (take_all (suc d) cs (omega arith))) ∙ eval-take x cs d b (omega arith)

-- ---- sums

pub plus-at : (cs ds : List ℕ) (e : ℕ) → get_or (plus cs ds) e 0 ≡ get_or cs e 0 ⊕ get_or ds e 0
unfolding plus
plus-at [] ds e = sym (zero-⊕ (get_or ds e 0))
plus-at (c ∷ cs) [] e = sym (⊕-zero (get_or (c ∷ cs) e 0))
plus-at (c ∷ cs) (d ∷ ds) zero = refl
plus-at (c ∷ cs) (d ∷ ds) (suc e) = plus-at cs ds e

pub plus-byte : (cs ds : List ℕ) → Each Byte cs → Each Byte ds → Each Byte (plus cs ds)
unfolding plus
plus-byte [] ds h k = k
plus-byte (c ∷ cs) [] h k = h
plus-byte (c ∷ cs) (d ∷ ds) h k = (⊕-byte c d h.0 k.0, plus-byte cs ds h.1 k.1)

pub plus-length : (cs ds : List ℕ) → length cs ≡ length ds → length (plus cs ds) ≡ length cs
unfolding plus
plus-length [] ds n = sym n
plus-length (c ∷ cs) [] n = refl
plus-length (c ∷ cs) (d ∷ ds) n = ap suc (plus-length cs ds (suc_inj n))

-- the same where the second is no shorter
pub plus_length_longer : (cs ds : List ℕ) → length cs ≤ length ds → length (plus cs ds) ≡ length ds
unfolding plus
plus_length_longer [] ds h = refl
plus_length_longer (c ∷ cs) [] h = absurd (not-suc-le-zero h)
plus_length_longer (c ∷ cs) (d ∷ ds) h = ap suc (plus_length_longer cs ds (le_of_suc-le-suc h))

-- ---- multiples

pub scale_at : (k : ℕ) (cs : List ℕ) (e : ℕ) → get_or (scale k cs) e 0 ≡ k ⊗ get_or cs e 0
unfolding scale
scale_at k [] e = sym (⊗-zero k)
scale_at k (c ∷ cs) zero = refl
scale_at k (c ∷ cs) (suc e) = scale_at k cs e

pub scale-byte : (k : ℕ) (cs : List ℕ) → Each Byte (scale k cs)
unfolding scale
scale-byte k [] = tt
scale-byte k (c ∷ cs) = (⊗-byte k c, scale-byte k cs)

pub scale-length : (k : ℕ) (cs : List ℕ) → length (scale k cs) ≡ length cs
unfolding scale
scale-length k [] = refl
scale-length k (c ∷ cs) = ap suc (scale-length k cs)

-- ---- low plus (x + p) times a polynomial

pub linear-first : (p low : ℕ) (cs : List ℕ) → get_or (linear p low cs) 0 0 ≡ low ⊕ p ⊗ get_or cs 0 0
unfolding linear
linear-first p low [] = sym (ap (◌⊕◌ low) (⊗-zero p) ∙ ⊕-zero low)
linear-first p low (c ∷ cs) = refl

pub linear-next : (p low : ℕ) (cs : List ℕ) (e : ℕ) → get_or (linear p low cs) (suc e) 0 ≡ get_or cs e 0 ⊕ p ⊗ get_or cs (suc e) 0
unfolding linear
linear-next p low [] e = sym (ap (◌⊕◌ 0) (⊗-zero p) ∙ ⊕-zero 0)
linear-next p low (c ∷ cs) zero = linear-first p c cs
linear-next p low (c ∷ cs) (suc e) = linear-next p c cs e

pub linear-byte : (p low : ℕ) (cs : List ℕ) → Byte low → Each Byte cs → Each Byte (linear p low cs)
unfolding linear
linear-byte p low [] l h = (l, tt)
linear-byte p low (c ∷ cs) l h = (⊕-byte low (p ⊗ c) l (⊗-byte p c), linear-byte p c cs h.0 h.1)

pub linear-length : (p low : ℕ) (cs : List ℕ) → length (linear p low cs) ≡ suc (length cs)
unfolding linear
linear-length p low [] = refl
linear-length p low (c ∷ cs) = ap suc (linear-length p c cs)

-- two factors change places, where the numbers added make up for it
linear_swap : (p q a b low : ℕ) (cs : List ℕ) → a ⊕ p ⊗ low ≡ b ⊕ q ⊗ low → linear p a (linear q low cs) ≡ linear q b (linear p low cs)
unfolding linear
linear_swap p q a b low [] e = ap (λ (c : ℕ). c ∷ low ∷ []) e
linear_swap p q a b low (c ∷ cs) e =
    ap₂ ◌∷◌
    (ap (◌⊕◌ a) (⊗-⊕ p low (q ⊗ c)) ∙ sym (⊕_assoc a (p ⊗ low) (p ⊗ (q ⊗ c)))
    ∙ ap₂ ◌⊕◌ e (⊗_left_comm p q c)
    ∙ ⊕_assoc b (q ⊗ low) (q ⊗ (p ⊗ c)) ∙ ap (◌⊕◌ b) (sym (⊗-⊕ q low (p ⊗ c))))
    (linear_swap p q (low ⊕ q ⊗ c) (low ⊕ p ⊗ c) c cs (⊕_assoc low (q ⊗ c) (p ⊗ c) ∙ ap (◌⊕◌ low) (⊕_comm (q ⊗ c) (p ⊗ c)) ∙ sym (⊕_assoc low (p ⊗ c) (q ⊗ c))))

-- ---- the product of x + p over the points p

pub vanishing-byte : (ps : List ℕ) → Each Byte (vanishing ps)
unfolding vanishing
vanishing-byte [] = (lit< tt, tt)
vanishing-byte (p ∷ ps) = linear-byte p 0 (vanishing ps) (lit< tt) (vanishing-byte ps)

pub vanishing-length : (ps : List ℕ) → length (vanishing ps) ≡ suc (length ps)
unfolding vanishing
vanishing-length [] = refl
vanishing-length (p ∷ ps) = linear-length p 0 (vanishing ps) ∙ ap suc (vanishing-length ps)

-- the product's highest coefficient is 1
pub vanishing_highest : (ps : List ℕ) → get_or (vanishing ps) (length ps) 0 ≡ 1
unfolding vanishing
vanishing_highest [] = refl
vanishing_highest (p ∷ ps) =
    linear-next p 0 (vanishing ps) (length ps)
    ∙ ap₂ (λ (a b : ℕ). a ⊕ p ⊗ b) (vanishing_highest ps) (get_or-eq_default (vanishing ps) 0 (omega (arith, vanishing-length ps)))
    ∙ ap (◌⊕◌ 1) (⊗-zero p) ∙ ⊕-zero 1

pub vanishing-next : (x p : ℕ) (ps : List ℕ) → eval x (vanishing (p ∷ ps)) ≡ (x ⊕ p) ⊗ eval x (vanishing ps)
unfolding vanishing
vanishing-next x p ps = eval-linear x p 0 (vanishing ps) ∙ zero-⊕ _

-- it is x + p for the point at any place times the product over the others
pub vanishing-without : (ps : List ℕ) (i : ℕ) → i < length ps → vanishing ps ≡ linear (get_or ps i 0) 0 (vanishing (without i ps))
unfolding vanishing without
vanishing-without [] i h = absurd (not-suc-le-zero h)
vanishing-without (p ∷ ps) zero h = refl
vanishing-without (p ∷ ps) (suc i) h =
    ap (linear p 0) (vanishing-without ps i (le_of_suc-le-suc h))
    ∙ linear_swap p (get_or ps i 0) 0 0 0 (vanishing (without i ps)) (ap (◌⊕◌ 0) (⊗-zero p ∙ sym (⊗-zero (get_or ps i 0))))

-- it is 0 at each of its points
pub vanishing-zero : (ps : List ℕ) → Each (λ x. eval x (vanishing ps) ≡ 0) ps
vanishing-zero [] = tt
vanishing-zero (p ∷ ps) =
    (vanishing-next p p ps ∙ ap (λ (t : ℕ). t ⊗ eval p (vanishing ps)) (⊕_self p) ∙ zero-⊗ (eval p (vanishing ps)), more ps (vanishing-zero ps))
  where
    more : (xs : List ℕ) → Each (λ x. eval x (vanishing ps) ≡ 0) xs → Each (λ x. eval x (vanishing (p ∷ ps)) ≡ 0) xs
    more [] h = tt
    more (x ∷ xs) h = (vanishing-next x p ps ∙ ap (◌⊗◌ (x ⊕ p)) h.0 ∙ ⊗-zero (x ⊕ p), more xs h.1)
