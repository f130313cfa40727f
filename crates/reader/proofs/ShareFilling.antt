-- A party's whole share, row after row: each row's values stand at their places in it.
-- Assumes nothing.
use mathlib.Core.Path.{◌≡◌, ap, ◌∙◌}
use mathlib.Core.List.{List}
use mathlib.Core.Logic.{⊎_elim}
use Prim.Native.Nat.{ℕ, ◌+◌, ◌-◌, ◌*◌, ◌≤◌, ◌<◌}
use native.Mathlib.Nat.{add-mul}
use native.Mathlib.Omega.{arith}
use lib.ListN.{length, get_or}
use Rattle.lists.proofs.Joined.{row_of, place_of}
use Rattle.lists.proofs.Table.{tabulate_is}
use Rattle.lists.proofs.Tests.{lt_or_le}
use Rattle.interpolation.specs.Polynomial.{eval}
use Rattle.scheme.specs.declared.accepted.Scheme.{Scheme}
use Rattle.staircase.specs.Coefficients.{share_byte}
use Rattle.rows.specs.Sources.{RowOrigins}
use Rattle.reader.specs.declared.decoding.Sizes.{Sizes}
use Rattle.reader.specs.Decoding.{WeightsOf, read_by, sizes_of, read_from, Sent}
use Rattle.reader.specs.Filling.{FirstColumn, ChosenFor, RowFilled, FillsRow, FillsShare}
use Rattle.reader.proofs.RowFacts.{RowAt, top, row_weights, row-values}

-- the output has the bytes of the share in the first n rows, for the blocks and keys that have these prefixes, where the buffer has the blocks
abbrev pub FillsRows : Scheme → List ℕ → ℕ → ℕ → List ℕ → List ℕ → List ℕ → ℕ → List ℕ → Type 0
FillsRows s ds d blocks chosen prefixes work n out =
    (B K points : List ℕ) (weights : List (List ℕ)) (x : ℕ) → WeightsOf points d (get_or ds 0 0) weights → ChosenFor weights d x chosen
    → Sent s ds d blocks points prefixes B K → work ≡ B
    → (i : ℕ) → i < n * blocks → get_or out i 0 ≡ share_byte s.block s.rows s.z ds B K blocks x i

-- row j of the share
module _ {s : Scheme} {ds : List ℕ} {d skip blocks : ℕ} (lent : List ℕ) {j : ℕ} (R : RowAt s ds d skip blocks (read_from s d blocks skip lent) j)
    {places : List ℕ} (O : RowOrigins s.block s.z ds j (top R) places) where
  value_there : (B K points : List ℕ) (X : Sent s ds d blocks points (read_from s d blocks skip lent) B K) (x t : ℕ) → t < blocks
      → eval x ((row-values R O B K points X).row t) ≡ share_byte s.block s.rows s.z ds B K blocks x (j * blocks + t)
  unfolding share_byte row-values
  value_there B K points X x t h = rw (row_of j t blocks h, place_of j t blocks h)

  -- its values are written after those of the rows before it, in the code's sizes
  pub rows_more : {sizes : Sizes} → sizes ≡ sizes_of s d skip blocks → {n : ℕ} → n ≡ top R
      → (chosen : List ℕ) (table : List (List ℕ)) (work o o' : List ℕ) → FirstColumn chosen table
      → FillsRow sizes n (j * blocks) places table (read_by sizes lent) work sizes.blocks o o'
      → FillsRows s ds d blocks chosen (read_from s d blocks skip lent) work j o → FillsRows s ds d blocks chosen (read_from s d blocks skip lent) work (j + 1) o'
  rows_more sizes_are n_is chosen table work o o' T F before B K points weights x W C X same i h =
      ⊎_elim (λ (l : i < j * blocks). filled.before-q i l ∙ before B K points weights x W C X same i l)
      (λ (l : j * blocks ≤ i).
      let at : j * blocks + (i - j * blocks) ≡ i = omega arith in
      let in_row : i - j * blocks < blocks = omega (arith, add-mul j 1 blocks) in
      rw at at (filled.values (i - j * blocks) in_row ∙ value_there B K points X x (i - j * blocks) in_row))
      (lt_or_le i (j * blocks))
    where
      filled : RowFilled x (j * blocks) blocks (row-values R O B K points X).row o o'
      filled =
          (rw (sizes_are, n_is) at F) B points chosen weights x (row_weights R W) C T (row-values R O B K points X)
          (λ t e _ _ _ _. ap (λ (l : List ℕ). get_or l (t * s.block + get_or places e 0) 0) same)

-- all rows
pub rows_all : (s : Scheme) (ds : List ℕ) (d blocks : ℕ) (chosen prefixes work out : List ℕ) → length out ≡ s.rows * blocks
    → FillsRows s ds d blocks chosen prefixes work s.rows out → FillsShare s ds d blocks chosen prefixes work out
rows_all s ds d blocks chosen prefixes work out long F B K points weights x W C X same =
    tabulate_is out (s.rows * blocks) (share_byte s.block s.rows s.z ds B K blocks x) 0 long (F B K points weights x W C X same)
