-- What the writer leaves: the contents after the head, up to the end.
-- Assumes nothing.
use mathlib.Core.Path.{◌≡◌}
use mathlib.Core.List.{List, append-nil}
use Prim.Native.Nat.{ℕ, ◌+◌, ◌<◌}
use native.Mathlib.Nat.{le_of_eq}
use native.Mathlib.Numerals.{add-one}
use lib.ListN.{length, take, set, get_or, drop_of_length-le}
use lib.Seq.{take-length, paste, paste-suc}
use Rattle.archive.specs.Format.{head_bytes, head_of}
use Rattle.archive.proofs.Laid.{laid}

-- a store more of a copy
pub copied_next : (d : List ℕ) (at : ℕ) (s : List ℕ) (i : ℕ) (o : List ℕ) → o ≡ paste d at s i → at + i < length d → i < length s
    → set o (at + i) (get_or s i 0) ≡ paste d at s (i + 1)
copied_next d at s i o is room more = rw (is, add-one) (paste-suc d at s i 0 room more)

-- the contents after the head, up to the end
pub after_head : (sizes contents out : List ℕ) (at : ℕ) → at ≡ head_bytes (length sizes) → length out ≡ head_bytes (length sizes) + length contents
    → take (head_bytes (length sizes)) out ≡ head_of sizes
    → paste out at contents (length contents) ≡ laid sizes contents
unfolding laid
after_head sizes contents out at at-is room is = rw (at-is, is, take-length contents, drop_of_length-le out (le_of_eq room), append-nil)
