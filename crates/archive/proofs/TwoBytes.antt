-- Laws of numbers of two bytes, the low byte first: what is written is what is read, and what is read is what stands there.
-- Assumes nothing.
use mathlib.Core.Path.{◌≡◌, ap, ◌∙◌}
use mathlib.Core.List.{List, [], ◌∷◌, ◌++◌}
use Prim.Native.Nat.{ℕ, suc, ◌+◌, ◌*◌, ◌/◌, ◌%◌, ◌≤◌, ◌<◌}
use native.Mathlib.Nat.{add_assoc}
use native.Mathlib.Omega.{arith}
use native.Mathlib.Numerals.{add-one, add-two}
use lib.ListN.{length, get_or, drop}
use lib.Seq.{drop-cons, get_or-drop}
use Rattle.lists.specs.Each.{Each, Byte}
use Rattle.lists.proofs.Each.{each_at}
use Rattle.archive.specs.Format.{two_bytes, max_number}
use Rattle.archive.specs.Reading.{number_at}

-- ---- the two bytes of a number

-- a number is read back from its two bytes
pub number_of : (v : ℕ) (rest : List ℕ) → number_at (two_bytes v ++ rest) 0 ≡ v
unfolding number_at two_bytes
number_of v rest = omega arith

-- the numbers after it are read as if it were not there
pub number-after : (v : ℕ) (rest : List ℕ) (at : ℕ) → number_at (two_bytes v ++ rest) (2 + at) ≡ number_at rest at
unfolding number_at two_bytes
number-after v rest at = rw (add_assoc, ← get_or-drop 2 (two_bytes v ++ rest) at, ← get_or-drop 2 (two_bytes v ++ rest) (at + 1))

-- two bytes are those of the number that they make
bytes_of : (a b : ℕ) → a < 256 → b < 256 → two_bytes (a + 256 * b) ≡ a ∷ b ∷ []
unfolding two_bytes
bytes_of a b ha hb =
    let low : (a + 256 * b) % 256 ≡ a = omega arith in
    let high : (a + 256 * b) / 256 ≡ b = omega arith in
    rw (low, high)

-- a number within the limit, put before bytes, leaves them bytes
pub number-bytes : (v : ℕ) (rest : List ℕ) → v ≤ max_number → Each Byte rest → Each Byte (two_bytes v ++ rest)
unfolding two_bytes
number-bytes v rest fits bytes = (omega arith, (omega arith, bytes))

-- ---- numbers in a file

-- each is of bytes; beyond the file's end it is 0
byte_at : (file : List ℕ) (at : ℕ) → Each Byte file → get_or file at 0 < 256
byte_at file at bytes = each_at Byte file at 0 (omega arith) bytes

-- no number of two bytes is above the limit
pub number_fits : (file : List ℕ) (at : ℕ) → Each Byte file → number_at file at ≤ max_number
unfolding number_at
number_fits file at bytes = omega (arith, byte_at file at bytes, byte_at file (at + 1) bytes)

-- where two bytes stand, so does the number that they make, and then what comes after
pub number_here : (file : List ℕ) (at : ℕ) → Each Byte file → at + 2 ≤ length file → drop at file ≡ two_bytes (number_at file at) ++ drop (at + 2) file
unfolding number_at
number_here file at bytes room =
    rw (bytes_of (get_or file at 0) (get_or file (at + 1) 0) (byte_at file at bytes) (byte_at file (at + 1) bytes), add-one, add-two)
    (drop-cons file at 0 (omega arith) ∙ ap (λ (l : List ℕ). get_or file at 0 ∷ l) (drop-cons file (suc at) 0 (omega arith)))
