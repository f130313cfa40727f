-- Laws of lists end to end (`flat`), of the pieces that contents are cut into (`cut`), and of how long they are.
-- Assumes nothing.
use mathlib.Core.Path.{◌≡◌, refl, sym, ap, ◌∙◌}
use mathlib.Core.List.{List, [], ◌∷◌, map}
use Prim.Native.Nat.{ℕ, zero, suc, ◌+◌, ◌≤◌, ◌<◌}
use native.Mathlib.Nat.{le_of_suc-le-suc, not-suc-le-zero}
use native.Mathlib.Omega.{arith}
use lib.ListN.{length, get_or, take, drop, length-append, length-drop, take-append-drop, drop_of_length-le}
use lib.Seq.{length-take-le, take-append_seam, drop-append_seam, drop-append-add}
use Rattle.lists.specs.Each.{Each}
use Rattle.lists.specs.Table.{flat}
use Rattle.lists.proofs.Each.{each_append}
use Rattle.archive.specs.Writing.{total, cut}

-- ---- lists end to end

-- the first entries of a map are the map of the first entries
take-map : {A B : Type 0} (f : A → B) (i : ℕ) (l : List A) → take i (map f l) ≡ map f (take i l)
take-map f zero l = refl
take-map f (suc i) [] = refl
take-map f (suc i) (x ∷ xs) = rw (take-map f i xs)

module _ {A : Type 0} where
  -- they have the bytes of all together
  pub length-flat : (es : List (List A)) → length (flat es) ≡ total (map length es)
  unfolding flat total
  length-flat [] = refl
  length-flat (e ∷ es) = rw (length-append, length-flat es)

  -- what holds of every entry of each list holds of all entries
  pub each_flat : (P : A → Type 0) (es : List (List A)) → Each (λ e. Each P e) es → Each P (flat es)
  unfolding flat
  each_flat P [] h = tt
  each_flat P (e ∷ es) h = each_append P e (flat es) h.0 (each_flat P es h.1)

  -- entry i stands after those before it
  pub entry_in_flat : (es : List (List A)) (i : ℕ) → take (length (get_or es i [])) (drop (length (flat (take i es))) (flat es)) ≡ get_or es i []
  unfolding flat
  entry_in_flat [] i = refl
  entry_in_flat (e ∷ es) zero = take-append_seam e (flat es)
  entry_in_flat (e ∷ es) (suc i) = rw (length-append, drop-append-add e (flat es)) (entry_in_flat es i)

-- the bytes before entry i, by the lengths
pub length_before : (es : List (List ℕ)) (i : ℕ) → length (flat (take i es)) ≡ total (take i (map length es))
length_before es i = length-flat (take i es) ∙ ap total (sym (take-map length i es))

-- ---- lengths one after another

-- those of one entry more
pub total_more : (sizes : List ℕ) (i : ℕ) → i < length sizes → total (take (suc i) sizes) ≡ total (take i sizes) + get_or sizes i 0
unfolding total
total_more [] i h = absurd (not-suc-le-zero h)
total_more (size ∷ sizes) zero h = omega arith
total_more (size ∷ sizes) (suc i) h = rw (total_more sizes i (le_of_suc-le-suc h)) (omega arith)

-- ---- the pieces of contents

-- there is one for each length
pub length_cut : (sizes contents : List ℕ) → length (cut sizes contents) ≡ length sizes
unfolding cut
length_cut [] contents = refl
length_cut (size ∷ sizes) contents = ap suc (length_cut sizes (drop size contents))

-- they have the lengths by which they were cut, where the contents have as many bytes
pub lengths-cut : (sizes contents : List ℕ) → total sizes ≤ length contents → map length (cut sizes contents) ≡ sizes
unfolding cut total
lengths-cut [] contents h = refl
lengths-cut (size ∷ sizes) contents h =
    rw (length-take-le size contents (omega arith), lengths-cut sizes (drop size contents) (rw length-drop (omega arith)))

-- and are all of the contents, where the contents have no more
pub flat-cut : (sizes contents : List ℕ) → total sizes ≡ length contents → flat (cut sizes contents) ≡ contents
unfolding cut total flat
flat-cut [] contents h = sym (drop_of_length-le contents {i = 0} (omega arith))
flat-cut (size ∷ sizes) contents h = rw (flat-cut sizes (drop size contents) (rw length-drop (omega arith))) (take-append-drop size contents)

-- entries that are put end to end and cut by their lengths are the same again
pub cut-flat : (es : List (List ℕ)) → cut (map length es) (flat es) ≡ es
unfolding cut flat
cut-flat [] = refl
cut-flat (e ∷ es) = rw (take-append_seam e (flat es), drop-append_seam e (flat es), cut-flat es)
