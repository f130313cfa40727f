-- What holds of every scheme that the check accepts: the rows of a block and of each count come out whole, and they grow as the counts fall;
-- and of the number of a message's blocks.
-- Assumes nothing.
use mathlib.Core.Path.{◌≡◌, refl, sym, ◌∙◌}
use mathlib.Core.List.{List, [], ◌∷◌}
use Prim.Native.Nat.{ℕ, ◌+◌, ◌-◌, ◌*◌, ◌<◌, ◌∣◌}
use native.Mathlib.Nat.{div-mul_cancel, mul-div_cancel'}
use native.Mathlib.Omega.{arith}
use lib.ListN.{length, get_or}
use Rattle.lists.specs.Each.{Each}
use Rattle.lists.proofs.Each.{each_get_d, each_of}
use Rattle.lists.proofs.Numbers.{other_factor, factors_differ, positive_factor, round_up_covers, round_up_least}
use Rattle.scheme.specs.declared.accepted.Scheme.{Scheme}
use Rattle.scheme.specs.Outcome as outcome
use Rattle.scheme.specs.BlockLength.{block_length, Least}
use Rattle.scheme.specs.Check.{last, refusal, rows_of_count, rows_of_block, block_count, checked}
use Rattle.scheme.specs.Facts as facts
use Rattle.scheme.specs.Facts.{ThresholdsFit, SchemeIs, FewestBlocks}
use Rattle.scheme.proofs.BlockLength.{block_least}
use Rattle.scheme.proofs.Counts.{Fit, counts_fit, fit_low, fit_high}
use Rattle.scheme.proofs.Refusals.{sizes, passed}
use Rattle.scheme.proofs.Answers.{answered_none}

-- every count is above z, as k is positive
above : (n r z : ℕ) (ds : List ℕ) → ThresholdsFit n r z → Fit n r ds → Each (λ d. z < d) ds
above n r z ds s f = each_of {A = ℕ} (λ d. z < d) ds 0 (λ i h. omega (arith, fit_low n r ds f i h, s.room))

-- the rows of counts that fall strictly to n − r, all above z, whose d − z all divide m
module _ (n r z : ℕ) (ds : List ℕ) (s : ThresholdsFit n r z) (f : Fit n r ds) (m : ℕ) (least : Least z ds m) where
  -- P × (d − z) = m
  whole : (i : ℕ) → i < length ds → rows_of_count m z (get_or ds i 0) * (get_or ds i 0 - z) ≡ m
  unfolding rows_of_count
  whole i h = div-mul_cancel (get_or ds i 0 - z) (each_get_d {A = ℕ} (λ d. d - z ∣ m) ds i 0 h least.divided)

  -- k × b = m
  block_whole : (n - r - z) * rows_of_block n r z m ≡ m
  unfolding rows_of_block
  block_whole =
      let end : n - r - z ∣ m = rw f.bottom at (each_get_d {A = ℕ} (λ d. d - z ∣ m) ds (length ds - 1) 0 (omega (arith, f.some)) least.divided) in
      mul-div_cancel' (n - r - z) end

  shorter : (i : ℕ) → i + 1 < length ds → get_or ds (i + 1) 0 - z < get_or ds i 0 - z
  shorter i h = omega (arith, f.falling i h, fit_low n r ds f (i + 1) h, s.room)

  last_is_rows : rows_of_count m z (last ds) ≡ rows_of_block n r z m
  unfolding rows_of_count rows_of_block
  last_is_rows = rw f.bottom

  rise : (i : ℕ) → i + 1 < length ds → rows_of_count m z (get_or ds i 0) < rows_of_count m z (get_or ds (i + 1) 0)
  rise i h = other_factor m _ _ _ _ least.positive (whole i (omega arith)) (whole (i + 1) h) (shorter i h)

  exact : (i : ℕ) → i + 1 < length ds
      → (rows_of_count m z (get_or ds (i + 1) 0) - rows_of_count m z (get_or ds i 0)) * (get_or ds (i + 1) 0 - z)
      ≡ rows_of_count m z (get_or ds i 0) * (get_or ds i 0 - get_or ds (i + 1) 0)
  exact i h =
      let e : get_or ds i 0 - z - (get_or ds (i + 1) 0 - z) ≡ get_or ds i 0 - get_or ds (i + 1) 0 = omega (arith, fit_low n r ds f (i + 1) h, s.room) in
      rw e at (factors_differ _ _ _ _ (whole i (omega arith) ∙ sym (whole (i + 1) h)))

pub accepted : (n r z : ℕ) (ds : List ℕ) → refusal n r z ds ≡ 0
    → facts.SchemeFacts n r z ds (block_length z ds) (rows_of_block n r z (block_length z ds))
accepted n r z ds e =
    let p = passed n r z ds e in
    let s = sizes n r z p.parties p.thresholds in
    let f = counts_fit n r ds p.counts in
    let m : ℕ = block_length z ds in
    let least = block_least z ds (above n r z ds s f) in
    let w = whole n r z ds s f m least in
    record {
      sizes = s;
      some = f.some;
      most = f.most;
      falling = f.falling;
      top = f.top;
      bottom = f.bottom;
      low = fit_low n r ds f;
      high = fit_high n r ds f;
      least = least;
      limit = p.block;
      rows = block_whole n r z ds s f m least;
      rows_of-count = w;
      first_rows = positive_factor _ _ m least.positive (w 0 f.some);
      rising = rise n r z ds s f m least;
      last-rows = last_is_rows n r z ds s f m least;
      fits = exact n r z ds s f m least;
    }

-- for whoever was answered a scheme s
pub accepted-scheme : {s : Scheme} {n r z : ℕ} {ds : List ℕ} → outcome.accepted (s.n ∷ s.r ∷ s.z ∷ s.block ∷ s.rows ∷ []) ≡ checked n r z ds
    → SchemeIs s n r z ds
unfolding checked
accepted-scheme e =
    let none = answered_none _ _ _ e in
    let v = none.1 in
    record { passed = none.0; n_is = cc v; r_is = cc v; z_is = cc v; block_is = cc v; rows_is = cc v }

-- s is also the scheme of its own n, r and z
pub scheme_fields : (s : Scheme) (n r z : ℕ) (ds : List ℕ) → SchemeIs s n r z ds → SchemeIs s s.n s.r s.z ds
scheme_fields s n r z ds is =
    record {
      passed = rw (is.n_is, is.r_is, is.z_is) is.passed;
      n_is = refl;
      r_is = refl;
      z_is = refl;
      block_is = rw is.z_is is.block_is;
      rows_is = rw (is.n_is, is.r_is, is.z_is) is.rows_is;
    }

-- and of its own counts
pub scheme_own : (s : Scheme) → SchemeIs s s.n s.r s.z s.counts.now
scheme_own s =
    record {
      passed = s.accepted.passed;
      n_is = refl;
      r_is = refl;
      z_is = refl;
      block_is = s.accepted.block_is;
      rows_is = s.accepted.rows_is;
    }

pub block_count_least : (m bytes : ℕ) → 0 < m → FewestBlocks m bytes (block_count m bytes)
unfolding block_count
block_count_least m bytes positive = record { enough = round_up_covers bytes m positive; fewest = round_up_least bytes m positive }
