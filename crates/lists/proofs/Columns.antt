-- The invariant of a loop that fills n rows of m numbers column by column: entry i of row a stands at a * m + i.
-- Assumes nothing.
use mathlib.Core.Path.{◌≡◌, sym, ap, ◌∙◌}
use mathlib.Core.List.{List}
use Prim.Native.Nat.{ℕ, ◌+◌, ◌*◌, ◌/◌, ◌%◌, ◌≤◌, ◌<◌}
use native.Mathlib.Nat.{not-suc-le-zero, div-add-mod'}
use native.Mathlib.Omega.{arith}
use lib.ListN.{length, get_or}
use Rattle.lists.specs.Table.{tabulate, joined}
use Rattle.lists.proofs.Table.{tabulate_is}
use Rattle.lists.proofs.Joined.{in-grid, joined-tabulate}

-- of o's n rows of m entries, the first q entries of each are by the rule f
pub record Columns (f : ℕ → ℕ → ℕ) (n m q : ℕ) (o : List ℕ) : Type 0 where
  pub long : length o ≡ n * m
  pub done : (a i : ℕ) → a < n → i < m → i < q → get_or o (a * m + i) 0 ≡ f a i

pub columns_none : (f : ℕ → ℕ → ℕ) (n m : ℕ) (o : List ℕ) → length o ≡ n * m → Columns f n m 0 o
columns_none f n m o h = record { long = h; done = λ a i _ _ l. absurd (not-suc-le-zero l) }

pub columns_all : {f : ℕ → ℕ → ℕ} {n m q : ℕ} {o : List ℕ} → Columns f n m q o → m ≤ q → o ≡ joined n (λ a. tabulate m (f a))
columns_all {f} {n} {m} {q} {o} C h =
    tabulate_is o (n * m) (λ k. f (k / m) (k % m)) 0 C.long
    (λ k l.
    let g : (k / m < n) × (k % m < m) = in-grid k n m l in
    ap (λ (x : ℕ). get_or o x 0) (sym (div-add-mod' k m)) ∙ C.done (k / m) (k % m) g.0 g.1 (omega arith))
    ∙ sym (joined-tabulate n m f 0)
