-- Laws of `Each`, and the test `distinct` against `Distinct`. Each is an induction over the list.
-- Assumes nothing.
use mathlib.Core.Path.{◌≡◌, refl, sym, ap, ap₂}
use mathlib.Core.Bool.{true, false, not, true≢false}
use mathlib.Core.Logic.{◌≢◌}
use mathlib.Core.List.{List, [], ◌∷◌, ◌++◌, map}
use Prim.Native.Nat.{ℕ, zero, suc, ◌<◌, suc-le-suc}
use native.Mathlib.Nat.{le_of_suc-le-suc, not-suc-le-zero, le_refl, le_step, zero-lt-suc}
use native.Mathlib.Decide.{ℕ_discrete}
use lib.Dec.{eqb}
use lib.ListN.{length, get_or, set, take, drop, replicate}
use borrow.Author.Tests.{eqb-false, ne_eqb, not-true}
use Rattle.lists.specs.Each.{Each, Distinct, occurs, distinct}
use Rattle.lists.specs.Table.{tabulate, joined}
use Rattle.lists.proofs.Tests.{both, neither}

module _ {ℓ} {A : Type ℓ} (P : A → Type 0) where
  pub each_get_d : (l : List A) (i : ℕ) (d : A) → i < length l → Each P l → P (get_or l i d)
  each_get_d [] i d b h = absurd (not-suc-le-zero b)
  each_get_d (x ∷ xs) zero d b h = h.0
  each_get_d (x ∷ xs) (suc i) d b h = each_get_d xs i d (le_of_suc-le-suc b) h.1

  -- at every place, where it holds beyond the end too
  pub each_at : (l : List A) (i : ℕ) (d : A) → P d → Each P l → P (get_or l i d)
  each_at [] i d b h = b
  each_at (x ∷ xs) zero d b h = h.0
  each_at (x ∷ xs) (suc i) d b h = each_at xs i d b h.1

  pub each_set : (l : List A) (i : ℕ) (x : A) → P x → Each P l → Each P (set l i x)
  each_set [] i x b h = h
  each_set (y ∷ l) zero x b h = (b, h.1)
  each_set (y ∷ l) (suc i) x b h = (h.0, each_set l i x b h.1)

  -- the other way: what holds at every place holds of each entry
  pub each_of : (l : List A) (d : A) → ((i : ℕ) → i < length l → P (get_or l i d)) → Each P l
  each_of [] d h = tt
  each_of (x ∷ xs) d h = (h 0 (zero-lt-suc (length xs)), each_of xs d (λ i b. h (suc i) (suc-le-suc b)))

  pub each_imp : (Q : A → Type 0) → ((x : A) → P x → Q x) → (l : List A) → Each P l → Each Q l
  each_imp Q f [] h = tt
  each_imp Q f (x ∷ xs) h = (f x h.0, each_imp Q f xs h.1)

  pub each_append : (l m : List A) → Each P l → Each P m → Each P (l ++ m)
  each_append [] m h k = k
  each_append (x ∷ xs) m h k = (h.0, each_append xs m h.1 k)

  pub each_take : (n : ℕ) (l : List A) → Each P l → Each P (take n l)
  each_take zero l h = tt
  each_take (suc n) [] h = tt
  each_take (suc n) (x ∷ xs) h = (h.0, each_take n xs h.1)

  pub each_drop : (n : ℕ) (l : List A) → Each P l → Each P (drop n l)
  each_drop zero l h = h
  each_drop (suc n) [] h = tt
  each_drop (suc n) (x ∷ xs) h = each_drop n xs h.1

  pub each_joined : (n : ℕ) (f : ℕ → List A) → ((i : ℕ) → i < n → Each P (f i)) → Each P (joined n f)
  unfolding joined
  each_joined zero f h = tt
  each_joined (suc n) f h = each_append (joined n f) (f n) (each_joined n f (λ i b. h i (le_step b))) (h n (le_refl (suc n)))

  pub each_replicate : (n : ℕ) (x : A) → P x → Each P (replicate n x)
  each_replicate zero x h = tt
  each_replicate (suc n) x h = (h, each_replicate n x h)

  pub each_tabulate : (n : ℕ) (f : ℕ → A) → ((i : ℕ) → i < n → P (f i)) → Each P (tabulate n f)
  unfolding tabulate
  each_tabulate zero f h = tt
  each_tabulate (suc n) f h = each_append (tabulate n f) (f n ∷ []) (each_tabulate n f (λ i b. h i (le_step b))) (h n (le_refl (suc n)), tt)

-- a list of one value has it at every place, also beyond its end
pub replicate-at {ℓ} : {A : Type ℓ} (n i : ℕ) (x : A) → get_or (replicate n x) i x ≡ x
replicate-at zero i x = refl
replicate-at (suc n) zero x = refl
replicate-at (suc n) (suc i) x = replicate-at n i x

-- where the value after a list's end is put there, nothing is seen of it
pub get_or_beyond {ℓ} : {A : Type ℓ} (l : List A) (n i : ℕ) (x : A) → get_or (l ++ replicate n x) i x ≡ get_or l i x
get_or_beyond [] n i x = replicate-at n i x
get_or_beyond (y ∷ l) n zero x = refl
get_or_beyond (y ∷ l) n (suc i) x = get_or_beyond l n i x

-- one entry more is seen at its own place alone
pub get_or_more {ℓ} : {A : Type ℓ} (l : List A) (y : A) (i : ℕ) (x : A) → i ≢ length l → get_or (l ++ y ∷ []) i x ≡ get_or l i x
get_or_more [] y zero x other = absurd (other refl)
get_or_more [] y (suc i) x other = refl
get_or_more (a ∷ l) y zero x other = refl
get_or_more (a ∷ l) y (suc i) x other = get_or_more l y i x (λ e. other (ap suc e))

-- ---- maps

module _ {ℓ ℓ'} {A : Type ℓ} {B : Type ℓ'} where
  pub get_or-map : (f : A → B) (l : List A) (i : ℕ) (d : A) (e : B) → i < length l → get_or (map f l) i e ≡ f (get_or l i d)
  get_or-map f [] i d e b = absurd (not-suc-le-zero b)
  get_or-map f (x ∷ xs) zero d e b = refl
  get_or-map f (x ∷ xs) (suc i) d e b = get_or-map f xs i d e (le_of_suc-le-suc b)

  pub each_mapped : (P : B → Type 0) (f : A → B) (l : List A) → Each (λ x. P (f x)) l → Each P (map f l)
  each_mapped P f [] h = tt
  each_mapped P f (x ∷ xs) h = (h.0, each_mapped P f xs h.1)

module _ {ℓ} {A : Type ℓ} {B : Type 0} (f g : A → B) where
  -- two maps of a list are equal where the functions agree at each entry
  pub each_map : (l : List A) → Each (λ x. f x ≡ g x) l → map f l ≡ map g l
  each_map [] h = refl
  each_map (x ∷ xs) h = ap₂ ◌∷◌ h.0 (each_map xs h.1)

  -- and only there
  pub map_each : (l : List A) → map f l ≡ map g l → Each (λ x. f x ≡ g x) l
  map_each [] e = tt
  map_each (x ∷ xs) e = (cc, map_each xs (cc))

-- ---- no number twice

pub occurs-false : (x : ℕ) (l : List ℕ) → occurs x l ≡ false → Each (λ y. x ≢ y) l
unfolding occurs
occurs-false x [] e = tt
occurs-false x (y ∷ ys) e =
    let n : (eqb x y ≡ false) × (occurs x ys ≡ false) = neither (eqb x y) (occurs x ys) e in
    (eqb-false x y n.0, occurs-false x ys n.1)

pub false-occurs : (x : ℕ) (l : List ℕ) → Each (λ y. x ≢ y) l → occurs x l ≡ false
unfolding occurs
false-occurs x [] h = refl
false-occurs x (y ∷ ys) h = simp (ne_eqb x y h.0, false-occurs x ys h.1)

pub distinct-true : (l : List ℕ) → distinct l ≡ true → Distinct l
unfolding distinct
distinct-true [] e = tt
distinct-true (x ∷ xs) e =
    let b : (not (occurs x xs) ≡ true) × (distinct xs ≡ true) = both (not (occurs x xs)) (distinct xs) e in
    (occurs-false x xs (not-true (occurs x xs) b.0), distinct-true xs b.1)

pub true-distinct : (l : List ℕ) → Distinct l → distinct l ≡ true
unfolding distinct
true-distinct [] h = refl
true-distinct (x ∷ xs) h = simp (false-occurs x xs h.0, true-distinct xs h.1)

-- a number that occurs has a place
pub occurs-place : (x : ℕ) (l : List ℕ) → occurs x l ≡ true → (i : ℕ) × (i < length l) × (get_or l i 0 ≡ x)
unfolding occurs
occurs-place x [] e = absurd (true≢false (sym e))
occurs-place x (y ∷ ys) e = at (ℕ_discrete x y) (λ n. occurs-place x ys (rw (ne_eqb x y n) at e))
  where
    at : Dec (x ≡ y) → (x ≢ y → (i : ℕ) × (i < length ys) × (get_or ys i 0 ≡ x)) → (i : ℕ) × (i < length (y ∷ ys)) × (get_or (y ∷ ys) i 0 ≡ x)
    at (yes s) later = (0, zero-lt-suc (length ys), sym s)
    at (no n) later =
        let found = later n in
        (suc found.0, suc-le-suc found.1, found.2)

-- the first entries of a list with no number twice
pub distinct-take : (n : ℕ) (l : List ℕ) → Distinct l → Distinct (take n l)
distinct-take zero l h = tt
distinct-take (suc n) [] h = tt
distinct-take (suc n) (x ∷ l) h = (each_take (λ y. x ≢ y) n l h.0, distinct-take n l h.1)
