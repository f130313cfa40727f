-- A list without one of its entries, or one of its pieces.
-- Assumes nothing.
use Rattle.std.specs.Prelude.{cond, List, [], ◌∷◌, ◌++◌, ℕ, zero, suc, ◌+◌, ◌*◌, ltb, take, drop}

-- the list without its entry at place i; the whole list where there is none
unfoldable pub without {ℓ} : {A : Type ℓ} → ℕ → List A → List A
without i [] = []
without zero (x ∷ xs) = xs
without (suc i) (x ∷ xs) = x ∷ without i xs

-- the list without its piece number i of w entries, or without what it has of that piece where it ends inside it; the whole list where it ends before
unfoldable pub without_piece : ℕ → ℕ → List ℕ → List ℕ
without_piece w i l = take (i * w) l ++ drop (i * w + w) l

-- where in a list the entry, or the piece, stands that is at place a when the one at place i is left out
unfoldable pub skipped : ℕ → ℕ → ℕ
skipped i a = cond (ltb a i) a (a + 1)
