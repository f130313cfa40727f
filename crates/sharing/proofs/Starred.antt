-- The starred examples of document 01 hold. Each is computed from the definitions; what an output held before, and the bytes of the block of which
-- the rows are told, stay variables.
-- Assumes nothing.
use mathlib.Core.Path.{◌≡◌, refl, ap, ap₂}
use mathlib.Core.List.{List, [], ◌∷◌}
use Prim.Native.Nat.{ℕ}
use native.Mathlib.Omega.{arith}
use lib.ListN.{length, get_or, take}
use Rattle.lists.specs.Each.{Each, occurs}
use Rattle.lists.specs.Table.{tabulate, joined, piece, pieces, flat}
use Rattle.gf256.specs.Byte as gf256
use Rattle.gf256.specs.Byte.{◌⊕◌, ◌⊗◌, cut, reduce, inverse_below, inverse, squares_product, ◌⊘◌}
use Rattle.interpolation.specs.Polynomial as polynomial
use Rattle.interpolation.specs.Polynomial.{next, eval, plus, scale, linear, above}
use Rattle.interpolation.specs.Interpolation.{through, fitted}
use Rattle.lists.specs.FirstFrom.{first_from}
use Rattle.scheme.specs.BlockLength.{divides, common_multiple, block_length}
use Rattle.scheme.specs.Check.{falls, parties_refused, thresholds_refused, counts_refused, block_refused, refusal, rows_of_count, rows_of_block, block_count, checked}
use Rattle.family.specs.Message.{padded}
use Rattle.family.specs.Family.{share_of_blocks, shares_of_blocks}
use Rattle.family.specs.Exactness.{readings, opened_blocks}
use Rattle.staircase.specs.Parameters.{Parameters, scheme_a, block, point}
use Rattle.staircase.specs.Rows.{row_of, keyed, copied, with_groups, rows_of}
use Rattle.staircase.specs.Coefficients.{group_of, count_of, origin_in, origin, coefficient}
use Rattle.staircase.specs.Opening.{block_row, upper_part, lower_part, placed, opened_from, opened_block}
use Rattle.staircase.specs.Shares.{staircase, shares, part_of}
use Rattle.scheme.specs.Outcome.{first_of, answer}
use Rattle.scheme.specs.Readers.{rises, within, readers_refused}
use Rattle.party.specs.Prefix.{prefix_refusal, prefix_length, prefix_of}
use Rattle.dealer.specs.Split.{split_refusal, split_answer, split_output}
use Rattle.staircase.specs.Exactness.{prefix_bytes, opened_string}
use Rattle.reader.specs.Reconstruct.{reconstruct_refusal, reconstruct_answer, reconstruct_output}
use Rattle.sharing.specs.RoundTrip.{handed}
use Rattle.sharing.specs.Starred.{Holds, starred}

-- ---- what an output of the right length held before is of no account

module _ (p : Parameters) (message keys : List ℕ) (long : ℕ) (none : split_refusal p (length message) (length keys) long ≡ 0) where
  written : (before : List ℕ) → length before ≡ long → split_output p message keys before ≡ shares p message keys
  unfolding split_output
  written before e = rw (e, none)

module _ (p : Parameters) (parties prefixes : List ℕ) (long : ℕ) (none : reconstruct_refusal p long parties (length prefixes) long ≡ 0) where
  opened : (before : List ℕ) → length before ≡ long
      → reconstruct_output p long parties prefixes before ≡ take long (opened_string p parties (block_count (block p) long) prefixes)
  unfolding reconstruct_output
  opened before e = rw (e, none)

-- ---- a block of 2 bytes, whatever they are

two : (l : List ℕ) → length l ≡ 2 → l ≡ get_or l 0 0 ∷ get_or l 1 0 ∷ []
two (x ∷ y ∷ []) e = refl
two [] e = absurd (let no : ⊥ = omega arith in no)
two (x ∷ []) e = absurd (let no : ⊥ = omega arith in no)
two (x ∷ y ∷ w ∷ more) e = absurd (let no : ⊥ = omega arith in no)

-- ---- all of them

-- `Each` of a list is nested pairs; this writes the outer ones in a row
infixr 40 ◌also◌
◌also◌ : {A B : Type 0} → A → B → A × B
a also b = (a, b)

pub starred_hold : Each (Each Holds) starred
unfolding ◌⊕◌ ◌⊗◌ gf256.product reduce cut inverse inverse_below squares_product ◌⊘◌ next eval plus scale linear above polynomial.vanishing through fitted divides first_from common_multiple block_length falls parties_refused thresholds_refused counts_refused block_refused refusal rows_of_count rows_of_block block_count checked occurs tabulate joined piece pieces flat padded share_of_blocks shares_of_blocks readings opened_blocks point row_of keyed copied with_groups rows_of group_of count_of origin_in origin coefficient block_row upper_part lower_part placed opened_from opened_block staircase shares part_of first_of answer rises within readers_refused prefix_refusal prefix_length prefix_of split_refusal split_answer prefix_bytes reconstruct_refusal reconstruct_answer opened_string
starred_hold =
    (refl, (refl, tt))
    also (refl, tt)
    also (refl, (refl, ((λ bytes keys e h. (ap₂ (rows_of 2 1 (3 ∷ 2 ∷ [])) (two bytes e) (two keys h), refl)), tt)))
    also ((λ before e. (ap (split_answer scheme_a 2 2) e, written scheme_a (5 ∷ 7 ∷ []) (9 ∷ 4 ∷ []) 6 refl before e)), tt)
    also (
      (λ before e. ap (handed scheme_a 2 (1 ∷ 2 ∷ 3 ∷ [])) (written scheme_a (5 ∷ 7 ∷ []) (9 ∷ 4 ∷ []) 6 refl before e)),
      ((λ before e. (ap (reconstruct_answer scheme_a 2 (1 ∷ 2 ∷ 3 ∷ []) 3) e, opened scheme_a (1 ∷ 2 ∷ 3 ∷ []) (11 ∷ 31 ∷ 29 ∷ []) 2 refl before e)), tt),
    )
    also (
      (λ before e. ap (handed scheme_a 2 (1 ∷ 3 ∷ [])) (written scheme_a (5 ∷ 7 ∷ []) (9 ∷ 4 ∷ []) 6 refl before e)),
      ((λ before e. (ap (reconstruct_answer scheme_a 2 (1 ∷ 3 ∷ []) 4) e, opened scheme_a (1 ∷ 3 ∷ []) (11 ∷ 3 ∷ 29 ∷ 13 ∷ []) 2 refl before e)), tt),
    )
    also (
      (λ before e. ap (part_of scheme_a 1 2) (written scheme_a (0 ∷ 0 ∷ []) (31 ∷ 10 ∷ []) 6 refl before e)),
      ((λ before e. ap (part_of scheme_a 1 2) (written scheme_a (5 ∷ 7 ∷ []) (9 ∷ 4 ∷ []) 6 refl before e)), tt),
    )
    also ((λ before e. ap (part_of scheme_a 2 1) (written scheme_a (5 ∷ 7 ∷ 1 ∷ []) (9 ∷ 4 ∷ 2 ∷ 6 ∷ []) 12 refl before e)), tt)
    also (refl, tt)
    also (refl, (refl, tt))
    also tt
