-- The search for a number by a test.
-- Assumes nothing.
use Rattle.std.specs.Prelude.{Bool, cond, ℕ, zero, suc, ◌+◌}

-- the first of `many` numbers, from x up, that passes the test; the one after them where none does
unfoldable pub first_from : (ℕ → Bool) → ℕ → ℕ → ℕ
first_from test zero x = x
first_from test (suc many) x =
    let later : ℕ = first_from test many (x + 1) in
    cond (test x) x later
