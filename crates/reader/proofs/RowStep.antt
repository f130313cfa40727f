-- One row of a batch of blocks: the weighted sum of the parties' bytes and the known coefficients is the coefficient that is found, by the law of
-- the opening's weights in each block.
-- Assumes nothing.
use mathlib.Core.Path.{◌≡◌, sym, ap, ◌∙◌}
use mathlib.Core.List.{List, []}
use Prim.Native.Nat.{ℕ, ◌+◌, ◌*◌, ◌≤◌, ◌<◌, zero-le}
use native.Mathlib.Omega.{arith}
use lib.ListN.{length, get_or}
use Rattle.lists.proofs.Joined.{place_on}
use Rattle.lists.proofs.Table.{get_or-tabulate}
use Rattle.gf256.specs.Byte.{◌⊗◌}
use Rattle.gf256.specs.Lanes.{lanes}
use Rattle.interpolation.specs.Polynomial.{eval, sum_to}
use Rattle.interpolation.proofs.Laws.{opening_solved}
use Rattle.reader.specs.declared.decoding.Sizes.{Sizes}
use Rattle.reader.specs.Decoding.{combined, KnownColumns, SentColumns, SizesFit, RowFits, WeightsOf, RowOf, HasPlaces, Solves}
use Rattle.reader.proofs.Writes.{solved_batch}

-- the blocks after n, when those before n are solved
pub solves_more : (sizes : Sizes) (top q : ℕ) (places : List ℕ) (weights : List (List ℕ)) (prefixes : List ℕ) (n k : ℕ) (w w' w'' : List ℕ) → n ≤ k
    → Solves sizes top q places weights prefixes 0 n w w' → Solves sizes top q places weights prefixes n k w' w''
    → Solves sizes top q places weights prefixes 0 k w w''
solves_more sizes top q places weights prefixes n k w w' w'' h X Y B points W R H =
    let S = X B points W R (λ t e a b low high. H t e a (omega arith) low high) in
    solved_batch k S (Y B points W R (λ t e a b low high. S.still _ (H t e zero-le b low high)))

pub combined-at : (columns : List ℕ) (weights : List (List ℕ)) (e n k : ℕ) → k < lanes
    → get_or (combined columns weights e n) k 0 ≡ sum_to n (λ i. get_or (get_or weights i []) e 0 ⊗ get_or columns (i * lanes + k) 0)
unfolding combined
combined-at columns weights e n k h = get_or-tabulate lanes _ k 0 h

module _ {sizes : Sizes} {top q t many : ℕ} {points prefixes places work B before columns : List ℕ} {weights : List (List ℕ)}
    (S : SizesFit sizes prefixes) (F : RowFits sizes top q places) (few : many ≤ lanes) (within : t + many ≤ sizes.blocks)
    (K : KnownColumns work places sizes.d top t sizes.block before) (G : SentColumns prefixes sizes.prefix (q + t) many sizes.d before columns)
    (W : WeightsOf points sizes.d top weights) (R : RowOf sizes top q places points prefixes B) (H : HasPlaces t (t + many) sizes.block sizes.d top places B work) where
  -- entry k of a party's column is the value of the row of block t + k
  pub sent-entry : (k a : ℕ) → k < many → a < sizes.d → get_or columns (a * lanes + k) 0 ≡ eval (get_or points a 0) (R.row (t + k))
  sent-entry k a hk ha =
      let o : a * sizes.prefix + (q + t) + k ≡ a * sizes.prefix + (q + (t + k)) = omega arith in
      G.sent a k ha hk ∙ ap (λ (x : ℕ). get_or prefixes x 0) o ∙ R.sent (t + k) a (omega arith) ha

  -- entry k of a known column is the row's coefficient
  pub known-entry : (k i : ℕ) → k < many → sizes.d ≤ i → i < top → get_or columns (i * lanes + k) 0 ≡ get_or (R.row (t + k)) i 0
  known-entry k i hk low high =
      G.still (i * lanes + k) (omega arith)
      ∙ K.known i k low high (omega arith)
      ∙ ap (λ (x : ℕ). get_or work x 0) (place_on t k (get_or places i 0) sizes.block)
      ∙ H (t + k) i (omega arith) (omega arith) low high
      ∙ sym (R.message (t + k) i (omega arith) (omega (arith, S.z_low)) high)

  pub batch_step : (e k : ℕ) → sizes.z ≤ e → e < sizes.d → k < many
      → get_or (combined columns weights e top) k 0 ≡ get_or B (t * sizes.block + get_or places e 0 + k * sizes.block) 0
  batch_step e k ze ed hk =
      let n : length points ≡ sizes.d = W.long in
      let long : length (R.row (t + k)) ≡ top = R.long (t + k) (omega arith) in
      combined-at columns weights e top k (omega arith)
      ∙ ap (λ (x : ℕ). sum_to x (λ i. get_or (get_or weights i []) e 0 ⊗ get_or columns (i * lanes + k) 0)) (sym long)
      ∙ opening_solved points (R.row (t + k)) W.bytes W.distinct (R.bytes (t + k) (omega arith)) (omega (arith, F.top_low))
      (λ i. get_or (get_or weights i []) e 0) (λ i. get_or columns (i * lanes + k) 0) e (omega arith)
      (λ a h. W.parties a e (omega arith) ed)
      (λ a h. sent-entry k a hk (omega arith))
      (λ i l h. rw n (W.known i e (omega arith) (omega arith) ed))
      (λ i l h. known-entry k i hk (omega arith) (omega arith))
      ∙ R.message (t + k) e (omega arith) ze (omega (arith, F.top_low))
      ∙ ap (λ (x : ℕ). get_or B x 0) (sym (place_on t k (get_or places e 0) sizes.block))
