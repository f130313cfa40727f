-- The splitter's outer loops: what is known of the scheme and of a row, and how a batch of blocks fills the shares further.
-- Assumes nothing.
use mathlib.Core.Path.{◌≡◌, refl, ◌∙◌}
use mathlib.Core.List.{List}
use Prim.Native.Nat.{ℕ, ◌+◌, ◌-◌, ◌*◌, ◌≤◌, ◌<◌, min}
use native.Mathlib.Nat.{mul-le-mul}
use native.Mathlib.Omega.{arith}
use lib.ListN.{length, get_or, take}
use Rattle.lists.specs.Table.{tabulate}
use Rattle.lists.proofs.Joined.{row_room}
use Rattle.lists.proofs.Columns.{Columns}
use Rattle.gf256.specs.Lanes.{lanes}
use Rattle.interpolation.specs.Interpolation.{side}
use Rattle.columns.specs.Columns.{flat_columns}
use Rattle.columns.proofs.Laws.{batch_fits}
use Rattle.scheme.specs.Facts as facts
use Rattle.scheme.specs.Limits.{max_block, max_blocks}
use Rattle.scheme.proofs.Laws.{scheme_own}
use Rattle.staircase.specs.Parameters.{parameters_of, point}
use Rattle.rows.specs.Origins.{origins_over}
use Rattle.rows.specs.Points.{party_points}
use Rattle.rows.specs.Sources.{RowOrigins}
use Rattle.rows.proofs.Scheme.{facts_of, rows_high, row_count_high}
use Rattle.rows.proofs.Laws.{row_origins}
use Rattle.rows.proofs.Points.{party_points_long, party_point}
use Rattle.dealer.specs.declared.source.Source.{Source}
use Rattle.dealer.specs.Columns.{RowFilled}
use Rattle.dealer.specs.Sources.{bytes_of, column_of, count_in, byte_of}
use Rattle.dealer.proofs.Filled.{filled_columns}
use Rattle.dealer.proofs.Batches.{batch_byte}

module _ (x : Source) where
  known : facts.SchemeFacts x.scheme.n x.scheme.r x.scheme.z x.scheme.counts.now x.scheme.block x.scheme.rows
  known = facts_of x.scheme _ (scheme_own x.scheme)

  -- a share is short
  pub share_most : (N : ℕ) → N ≤ max_blocks → x.scheme.rows * N ≤ max_block * max_blocks
  share_most N few =
      let rows : x.scheme.rows ≤ max_block = omega (arith, rows_high x.scheme _ (scheme_own x.scheme), known.limit) in
      mul-le-mul rows few

  -- the points of the parties, of which there are at most 16
  module _ (n : ℕ) (points : List ℕ) (n_is : n ≡ x.scheme.n) (are : points ≡ party_points (parameters_of x.scheme) n) where
    pub parties_few : n ≤ side
    parties_few = omega (arith, known.sizes)

    pub points_long : length (take n points) ≡ n
    points_long = party_points_long (parameters_of x.scheme) n points are parties_few

    pub point_is : (a : ℕ) → a < n → get_or (take n points) a 0 ≡ point (parameters_of x.scheme) (a + 1)
    point_is = party_point (parameters_of x.scheme) n points are parties_few

  module _ (j d : ℕ) (row : j < x.scheme.rows) (d_is : d ≡ count_in x j) where
    -- a row's coefficients
    pub degrees_few : d ≤ side
    degrees_few = rw d_is (row_count_high x.scheme _ (scheme_own x.scheme) j row)

    pub origins_are : (places found : List ℕ) → length places ≡ side
        → found ≡ origins_over x.scheme.block x.scheme.z x.scheme.counts.now j places
        → RowOrigins x.scheme.block x.scheme.z x.scheme.counts.now j d found
    origins_are places found long e = rw (e, d_is) (row_origins x.scheme _ (scheme_own x.scheme) j row places long)

    -- a batch of it, from block t on
    module _ (N t many : ℕ) (some : t < N) (many_is : many ≡ min (N - t) lanes) where
      pub inside : j * N + t + many ≤ x.scheme.rows * N
      inside = omega (arith, batch_fits (N - t) many many_is, row_room j x.scheme.rows N row)

      pub more : (n : ℕ) (points columns o w : List ℕ) → n ≡ x.scheme.n → points ≡ party_points (parameters_of x.scheme) n
          → flat_columns d columns ≡ tabulate d (column_of x t j)
          → Columns (byte_of x N) x.scheme.n (x.scheme.rows * N) (j * N + t) o
          → RowFilled (x.scheme.rows * N) (j * N + t) many columns d (take n points) o w
          → Columns (byte_of x N) x.scheme.n (x.scheme.rows * N) (j * N + t + many) w
      more n points columns o w n_is are columns_are before filled =
          filled_columns {f = byte_of x N} before (rw (points_long n points n_is are ∙ n_is) at filled)
          (λ a k ha hk.
          rw (point_is n points n_is are a (rw n_is ha))
          (batch_byte x.scheme.block x.scheme.rows x.scheme.z x.scheme.counts.now (bytes_of x) x.keys.now N d j t (j * N + t)
          (point (parameters_of x.scheme) (a + 1)) k (flat_columns d columns)
          (omega (arith, batch_fits (N - t) many many_is)) (omega (arith, batch_fits (N - t) many many_is)) refl d_is columns_are))
