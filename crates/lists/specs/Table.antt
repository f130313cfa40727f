-- Lists given by a rule, and pieces of lists.
-- Assumes nothing.
use Rattle.std.specs.Prelude.{List, [], ◌∷◌, ◌++◌, ℕ, zero, suc, ◌*◌, take, drop}

-- f 0, f 1, .., f (n - 1). It recurses at the end, as a loop fills it.
unfoldable pub tabulate {ℓ} : {A : Type ℓ} → ℕ → (ℕ → A) → List A
tabulate zero f = []
tabulate (suc n) f = tabulate n f ++ (f n ∷ [])

-- the lists f 0, f 1, .., f (n - 1), one after another
unfoldable pub joined {ℓ} : {A : Type ℓ} → ℕ → (ℕ → List A) → List A
joined zero f = []
joined (suc n) f = joined n f ++ f n

-- the piece number t of w entries
unfoldable pub piece {ℓ} : {A : Type ℓ} → ℕ → ℕ → List A → List A
piece w t l = take w (drop (t * w) l)

-- the first n pieces of w entries
unfoldable pub pieces {ℓ} : {A : Type ℓ} → ℕ → ℕ → List A → List (List A)
pieces zero w l = []
pieces (suc n) w l = take w l ∷ pieces n w (drop w l)

-- the lists of a list, one after another
unfoldable pub flat {ℓ} : {A : Type ℓ} → List (List A) → List A
flat [] = []
flat (l ∷ ls) = l ++ flat ls
