-- The steps of the loops that fill the buffer of columns: those of the known coefficients, and those of the parties' bytes.
-- Assumes nothing.
use mathlib.Core.Path.{◌≡◌, ap, ◌∙◌}
use mathlib.Core.List.{List, ◌++◌}
use mathlib.Core.Logic.{inr, ⊎_elim}
use Prim.Native.Nat.{ℕ, ◌+◌, ◌-◌, ◌*◌, ◌≤◌, ◌<◌}
use native.Mathlib.Nat.{add-sub_cancel_left}
use native.Mathlib.Omega.{arith}
use lib.ListN.{length, get_or, take, drop}
use Rattle.lists.proofs.Parts.{mid_length, mid_before, mid_in, mid_outside}
use Rattle.lists.proofs.Tests.{lt_or_le}
use Rattle.gf256.specs.Lanes.{lanes}
use Rattle.interpolation.specs.Interpolation.{side}
use Rattle.columns.specs.Columns.{strided}
use Rattle.columns.proofs.Laws.{strided-at}
use Rattle.reader.specs.Decoding.{KnownColumns, SentColumns}

-- ---- the known coefficients

module _ (work places : List ℕ) (d t m : ℕ) where
  -- column e was lent and came back as y
  pub known_more : (e : ℕ) (o y : List ℕ) → KnownColumns work places d e t m o → e < side → length y ≡ lanes → y ≡ strided work (t * m + get_or places e 0) m
      → KnownColumns work places d (e + 1) t m (take (e * lanes) o ++ (y ++ drop (e * lanes + lanes - e * lanes) (drop (e * lanes) o)))
  known_more e o y C l long is =
      let room : e * lanes + lanes ≤ length o = omega (arith, C.long) in
      rw add-sub_cancel_left
      (record {
        long = mid_length (e * lanes) lanes o y room long ∙ C.long;
        known = λ f k a b h.
            ⊎_elim (λ (c : f < e). mid_before (e * lanes) lanes o y room 0 (f * lanes + k) (omega arith) ∙ C.known f k a c h)
            (λ (c : e ≤ f).
            let s : f ≡ e = omega arith in
            rw s (mid_in (e * lanes) lanes o y room 0 k long h ∙ ap (λ (r : List ℕ). get_or r k 0) is ∙ strided-at work (t * m + get_or places e 0) m k h))
            (lt_or_le f e);
      })

-- ---- the parties' bytes

module _ (prefixes : List ℕ) (prefix q many : ℕ) (before : List ℕ) where
  -- the first bytes of column a were lent and came back as y, which are those of party a
  pub sent_more : (a : ℕ) (o y : List ℕ) → SentColumns prefixes prefix q many a before o → a < side → many ≤ lanes
      → length y ≡ many → ((k : ℕ) → k < many → get_or y k 0 ≡ get_or prefixes (a * prefix + q + k) 0)
      → SentColumns prefixes prefix q many (a + 1) before (take (a * lanes) o ++ (y ++ drop (a * lanes + many - a * lanes) (drop (a * lanes) o)))
  sent_more a o y C l few long is =
      let room : a * lanes + many ≤ length o = omega (arith, C.long) in
      rw add-sub_cancel_left
      (record {
        long = mid_length (a * lanes) many o y room long ∙ C.long;
        sent = λ b k h c.
            ⊎_elim (λ (i : b < a). mid_before (a * lanes) many o y room 0 (b * lanes + k) (omega arith) ∙ C.sent b k i c)
            (λ (i : a ≤ b).
            let s : b ≡ a = omega arith in
            rw s (mid_in (a * lanes) many o y room 0 k long c ∙ is k c))
            (lt_or_le b a);
        still = λ i h. mid_outside (a * lanes) many o y room 0 i long (inr (omega arith)) ∙ C.still i (omega arith);
      })
