-- The readers' place of document 01's table: which lists of parties are refused. Refusal 6, that their number is no count, is `occurs`.
-- Assumes nothing.
use Rattle.std.specs.Prelude.{Bool, true, ◌&&◌, ◌||◌, not, List, [], ◌∷◌, ℕ, ◌≤◌, ◌<◌, ltb, leb}

-- do the party numbers rise strictly, from above `below`?
unfoldable pub rises : ℕ → List ℕ → Bool
rises below [] = true
rises below (s ∷ parties) = ltb below s && rises s parties

-- are all of them at most n?
unfoldable pub within : ℕ → List ℕ → Bool
within n [] = true
within n (s ∷ parties) = leb s n && within n parties

-- refusal 7: the party numbers do not rise strictly, or one is outside 1 to n
unfoldable pub readers_refused : ℕ → List ℕ → Bool
readers_refused n parties = not (rises 0 parties) || not (within n parties)

-- the numbers for which it does not apply: each is above the one before, the first above `below`, and none is above n
abbrev pub Rising : ℕ → ℕ → List ℕ → Type 0
Rising below n [] = Unit {0}
Rising below n (s ∷ parties) = (below < s) × (s ≤ n) × Rising s n parties
