-- What a function is told of an array that it takes by value: its length, and of one of bytes, that each entry is a byte.
-- Assumes nothing.
use mathlib.Core.Path.{◌≡◌}
use mathlib.Core.List.{List, [], ◌∷◌}
use Prim.Native.Nat.{ℕ, zero, suc, ◌<◌}
use native.Mathlib.Nat.{zero-lt-suc}
use lib.ListN.{length, get_or}
use mir.Syntax.{w8}
use mir.Val.{Val}
use denote.Plain.{UInt}
use denote.Array.{Array, each}
use denote.Shadow.{shadow}
use denote.Laws.{Is}
use denote.RattleType.{RattleType}

entries : (xs : List ℕ) (us : List Val) → shadow (each ℕ (UInt w8).own_val xs us) → (i : ℕ) → get_or xs i 0 < 256
entries [] [] p i = zero-lt-suc 255
entries [] (u ∷ us) p i = absurd p
entries (x ∷ xs) [] p i = absurd p
entries (x ∷ xs) (u ∷ us) p zero = p.0.1
entries (x ∷ xs) (u ∷ us) p (suc i) = entries xs us p.1 i

pub array_byte : (n : ℕ) (xs : List ℕ) (vs : List Val) → Is (Array (UInt w8) n) xs vs → (i : ℕ) → get_or xs i 0 < 256
array_byte n xs vs p i = entries xs p.0 p.1.1 i

pub any_length : (R : RattleType) (n : ℕ) (xs : List R.Denot) (vs : List Val) → Is (Array R n) xs vs → length xs ≡ n
any_length R n xs vs p = p.1.0.1

-- the same of an array of bytes
pub array_length : (n : ℕ) (xs : List ℕ) (vs : List Val) → Is (Array (UInt w8) n) xs vs → length xs ≡ n
array_length n xs vs p = any_length (UInt w8) n xs vs p
