-- A row by its number: what the row's loops are told of it, in the code's numbers, and that the blocks which were sent have it.
-- Assumes nothing.
use mathlib.Core.Path.{◌≡◌, ◌∙◌}
use mathlib.Core.List.{List}
use Prim.Native.Nat.{ℕ, ◌*◌, ◌<◌, zero-le}
use native.Mathlib.Nat.{le_of_lt}
use native.Mathlib.Omega.{arith}
use lib.ListN.{length, get_or, replicate, length-replicate}
use borrow.Author.Tests.{le-ltb}
use Rattle.lists.specs.Each.{Byte}
use Rattle.lists.specs.Table.{tabulate}
use Rattle.lists.proofs.Each.{each_tabulate}
use Rattle.lists.proofs.Joined.{row_room}
use Rattle.lists.proofs.Table.{length-tabulate, get_or-tabulate}
use Rattle.interpolation.specs.Interpolation.{side}
use Rattle.scheme.specs.declared.accepted.Scheme.{Scheme}
use Rattle.staircase.specs.Coefficients.{group_of, count_of, coefficient_at}
use Rattle.staircase.proofs.Construction.{coefficient_at-byte}
use Rattle.staircase.proofs.Groups.{counts_fall}
use Rattle.rows.specs.Origins.{origins_over}
use Rattle.rows.specs.Sources.{RowOrigins}
use Rattle.rows.proofs.Scheme.{row_group, row_count_high}
use Rattle.rows.proofs.Laws.{row_origins}
use Rattle.order.proofs.ReadingOrder.{order_of}
use Rattle.reader.specs.declared.decoding.Sizes.{Sizes}
use Rattle.reader.specs.Decoding.{SizesFit, RowFits, WeightsOf, RowOf, sent_rows, sizes_of, read_by, read_from, Counted, Input, Sent}
use Rattle.reader.proofs.CountedScheme.{A, count_in, count_high}

-- row j, of the rows of d; the prefixes are those that are read, without the one at place `skip`
pub record RowAt (s : Scheme) (ds : List ℕ) (d skip blocks : ℕ) (prefixes : List ℕ) (j : ℕ) : Type 0 where
  pub input : Input s ds d blocks prefixes
  pub inside : j < sent_rows s d

module _ {s : Scheme} {ds : List ℕ} {d skip blocks : ℕ} {prefixes : List ℕ} {j : ℕ} (R : RowAt s ds d skip blocks prefixes j) where
  C : Counted s ds d
  C = R.input.counted

  -- the number of its coefficients
  abbrev pub top : ℕ
  top = count_of s.block s.z ds j

  pub row_below : j < s.rows
  row_below = omega (arith, R.inside, (order_of (count_in C)).most)

  -- the origins of its coefficients, written over 16 places
  pub row-places : (places : List ℕ) → length places ≡ side → RowOrigins s.block s.z ds j top (origins_over s.block s.z ds j places)
  row-places places long = row_origins s ds C.scheme j row_below places long

  -- written over zeros
  pub row-written : (places : List ℕ) → places ≡ origins_over s.block s.z ds j (replicate side 0) → RowOrigins s.block s.z ds j top places
  row-written places is = rw is (row-places (replicate side 0) (length-replicate {A = ℕ} side 0))

  -- the sizes of what is read
  abbrev pub sizes : Sizes
  sizes = sizes_of s d skip blocks

  pub sizes_fit : SizesFit sizes prefixes
  sizes_fit =
      record {
        z_low = le_of_lt (order_of (count_in C)).above;
        d_high = count_high C;
        block_high = (A C).limit;
        blocks_high = R.input.blocks_high;
        prefixes_long = R.input.prefixes_long;
      }

  -- the weights for the largest count are also those for the row's
  pub row_weights : {points : List ℕ} {weights : List (List ℕ)} → WeightsOf points d (get_or ds 0 0) weights → WeightsOf points d top weights
  unfolding count_of
  row_weights W =
      record {
        long = W.long;
        bytes = W.bytes;
        distinct = W.distinct;
        parties = W.parties;
        known = λ i e low high.
            W.known i e low
            (omega (arith, counts_fall s.n s.r s.z ds s.block s.rows (A C) 0 (group_of s.block s.z ds j) zero-le (row_group s ds C.scheme j row_below)));
      }

  module _ {places : List ℕ} (O : RowOrigins s.block s.z ds j top places) where
    pub row_fits : RowFits sizes top (j * blocks) places
    row_fits =
        record {
          top_low = (order_of (count_in C)).wide j R.inside;
          top_high = row_count_high s ds C.scheme j row_below;
          inside = row_room j (sent_rows s d) blocks R.inside;
          places_low = O.below;
        }

    -- the row of each block of B
    unfoldable pub row-values : (B K points : List ℕ) → Sent s ds d blocks points prefixes B K → RowOf sizes top (j * blocks) places points prefixes B
    unfolding coefficient_at
    row-values B K points X =
        record {
          row = λ t. tabulate top (coefficient_at s.block s.rows s.z ds B K t j);
          long = λ t h. length-tabulate {A = ℕ} top _;
          bytes = λ t h.
              each_tabulate Byte top _
              (λ e l. coefficient_at-byte s.block s.rows s.z ds B K X.blocks_are.1 X.keys_are.1 t j e);
          message = λ t e h low high. get_or-tabulate {A = ℕ} top _ e 0 high ∙ rw (le-ltb e s.z low, O.is e low high);
          sent = λ t a h l. X.rows j t a R.inside h l;
        }

-- the same in the code's sizes, and its number of coefficients
module _ {s : Scheme} {ds : List ℕ} {d skip blocks : ℕ} (lent : List ℕ) {j : ℕ} (R : RowAt s ds d skip blocks (read_from s d blocks skip lent) j)
    {places : List ℕ} (O : RowOrigins s.block s.z ds j (top R) places) {given : Sizes} (given-are : given ≡ sizes_of s d skip blocks)
    {n : ℕ} (n_is : n ≡ top R) where
  pub row_told : SizesFit given (read_by given lent) × RowFits given n (j * blocks) places
  row_told = rw (given-are, n_is) (sizes_fit R, row_fits R O)
