-- What the loops do that fill a party's whole share from those of d parties. B is a string of whole blocks and K their keys that have the prefixes that
-- are read, which are whole shares; the contracts speak of every such B and K, and of every point x.
-- Assumes nothing.
use Rattle.std.specs.Prelude.{◌≡◌, List, [], ℕ, ◌+◌, ◌*◌, ◌≤◌, ◌<◌, length, get_or}
use Rattle.lists.specs.Table.{tabulate}
use Rattle.interpolation.specs.Polynomial.{eval}
use Rattle.interpolation.specs.Interpolation.{side}
use Rattle.interpolation.specs.Opening.{value_weight}
use Rattle.scheme.specs.declared.accepted.Scheme.{Scheme}
use Rattle.staircase.specs.Coefficients.{share_byte}
use Rattle.reader.specs.declared.decoding.Sizes.{Sizes}
use Rattle.reader.specs.Decoding.{WeightsOf, RowOf, HasPlaces, Sent}

-- the weights by which the parties' bytes and the known coefficients make a row's value at x: made of those of an opening
abbrev pub ChosenFor : List (List ℕ) → ℕ → ℕ → List ℕ → Type 0
ChosenFor weights d x chosen = chosen ≡ tabulate side (value_weight weights d x)

-- they stand in the first column of a table
abbrev pub FirstColumn : List ℕ → List (List ℕ) → Type 0
FirstColumn chosen table = (i : ℕ) → i < side → get_or (get_or table i []) 0 0 ≡ get_or chosen i 0

-- the output has the row's values at x, of the first n blocks, from place q on, and elsewhere what it had
pub record RowFilled (x q n : ℕ) (row : ℕ → List ℕ) (before after : List ℕ) : Type 0 where
  pub long : length after ≡ length before
  pub values : (t : ℕ) → t < n → get_or after (q + t) 0 ≡ eval x (row t)
  pub before-q : (i : ℕ) → i < q → get_or after i 0 ≡ get_or before i 0
  pub after-q : (i : ℕ) → q + n ≤ i → get_or after i 0 ≡ get_or before i 0

-- what a row's loop over the blocks below n does: said for every B that has these prefixes at points with these weights, and is known from degree d up
abbrev pub FillsRow : Sizes → ℕ → ℕ → List ℕ → List (List ℕ) → List ℕ → List ℕ → ℕ → List ℕ → List ℕ → Type 0
FillsRow sizes top q places table prefixes work n before after =
    (B points chosen : List ℕ) (weights : List (List ℕ)) (x : ℕ) → WeightsOf points sizes.d top weights → ChosenFor weights sizes.d x chosen
    → FirstColumn chosen table
    → (R : RowOf sizes top q places points prefixes B) → HasPlaces 0 sizes.blocks sizes.block sizes.d top places B work
    → RowFilled x q n R.row before after

-- the share at the point x of the blocks B under the keys K, all rows of it
abbrev pub share_at : Scheme → List ℕ → ℕ → List ℕ → List ℕ → ℕ → List ℕ
share_at s ds blocks B K x = tabulate (s.rows * blocks) (share_byte s.block s.rows s.z ds B K blocks x)

-- the output is that share, for the blocks and keys that have these prefixes, where the buffer has the blocks
abbrev pub FillsShare : Scheme → List ℕ → ℕ → ℕ → List ℕ → List ℕ → List ℕ → List ℕ → Type 0
FillsShare s ds d blocks chosen prefixes work out =
    (B K points : List ℕ) (weights : List (List ℕ)) (x : ℕ) → WeightsOf points d (get_or ds 0 0) weights → ChosenFor weights d x chosen
    → Sent s ds d blocks points prefixes B K → work ≡ B → out ≡ share_at s ds blocks B K x
