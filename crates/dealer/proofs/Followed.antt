-- The column of a place in 64 blocks, of bytes and of one byte more: where that one does not stand in the column they are the same, and where it does one
-- entry differs.
-- Assumes nothing.
use mathlib.Core.Path.{◌≡◌, sym, ◌∙◌}
use mathlib.Core.List.{List, [], ◌∷◌, ◌++◌}
use mathlib.Core.Logic.{◌≢◌}
use Prim.Native.Nat.{ℕ, ◌+◌, ◌*◌, ◌<◌}
use native.Mathlib.Omega.{arith}
use lib.ListN.{length, get_or, set}
use lib.Seq.{get_or_at}
use Rattle.lists.specs.Table.{tabulate}
use Rattle.lists.proofs.Each.{get_or_more}
use Rattle.lists.proofs.Table.{length-tabulate, get_or-tabulate, tabulate-same}
use Rattle.lists.proofs.Joined.{same_place, place_on}
use Rattle.lists.proofs.Known.{Known, known_more, known-all}
use Rattle.gf256.specs.Lanes.{lanes}
use Rattle.columns.specs.Columns.{strided_for, strided}

module _ (last rest byte t place : ℕ) (bytes : List ℕ) (m : ℕ) (long : length bytes ≡ last * m + rest) (inside : rest < m) (in_block : place < m) where
  abbrev entry : ℕ → ℕ
  entry k = t * m + place + k * m

  -- the entry of the column that is right after the bytes
  only : (k : ℕ) → entry k ≡ length bytes → (t + k ≡ last) × (place ≡ rest)
  only k e = same_place (t + k) place last rest m in_block inside (sym (place_on t k place m) ∙ e ∙ long)

  -- the byte stands elsewhere
  pub not_in_column : ((k : ℕ) → k < lanes → t + k ≡ last → place ≢ rest) → strided bytes (t * m + place) m ≡ strided (bytes ++ byte ∷ []) (t * m + place) m
  unfolding strided_for
  not_in_column away =
      tabulate-same {A = ℕ} lanes _ _ (λ k h. sym (get_or_more bytes byte (entry k) 0 (λ e. away k h (only k e).0 (only k e).1)))

  -- or here
  pub in-column : (k : ℕ) → k < lanes → t + k ≡ last → place ≡ rest → set (strided bytes (t * m + place) m) k byte ≡ strided (bytes ++ byte ∷ []) (t * m + place) m
  unfolding strided_for
  in-column k h e f =
      let whole : List ℕ = bytes ++ byte ∷ [] in
      let others : Known 0 (λ i. get_or whole (entry i) 0) lanes (λ i. i ≢ k) (tabulate lanes (λ i. get_or bytes (entry i) 0)) =
      record {
        long = length-tabulate {A = ℕ} lanes (λ i. get_or bytes (entry i) 0);
        is = λ i b other.
            get_or-tabulate {A = ℕ} lanes (λ i. get_or bytes (entry i) 0) i 0 b
            ∙ sym (get_or_more bytes byte (entry i) 0 (λ q. other (omega (arith, (only i q).0))));
      } in
      let here : byte ≡ get_or whole (entry k) 0 = sym (get_or_at bytes byte [] 0 (entry k) (long ∙ sym (place_on t k place m ∙ rw (e, f)))) in
      known-all (known_more {Q = λ i. Unit {0}} others h here (λ i _ other. other)) (λ i b. tt)
