-- Demand 2 of the request: the shares are those of the construction, byte by byte. This is what a reader can hold against the paper.
-- Assumes nothing.
use Rattle.std.specs.Prelude.{◌≡◌, List, ℕ, ◌+◌, ◌-◌, ◌*◌, ◌<◌, length, get_or}
use Rattle.lists.specs.Each.{Each, Byte}
use Rattle.gf256.specs.Byte.{◌⊗◌, power}
use Rattle.interpolation.specs.Polynomial.{sum_to}
use Rattle.family.specs.Message.{padded}
use Rattle.family.specs.Padding.{marked}
use Rattle.staircase.specs.Parameters.{Parameters, Party, block, rows, blocks_of, padded_blocks_of, point}
use Rattle.staircase.specs.Coefficients.{count_of, coefficient_at}
use Rattle.staircase.specs.Shares.{shares, padded_shares, KeyString, PaddedKeyString}

-- of an accepted scheme (`output-byte` in proofs/Construction.antt): in the share of party s the byte of row j of block t is the sum of the row's
-- coefficients times the powers of the party's point
abbrev pub Construction : Parameters → Type 0
Construction p =
    (message keys : List ℕ) → Each Byte message → KeyString p (length message) keys
    → (s j t : ℕ) → Party p s → j < rows p → t < blocks_of p (length message)
    → get_or (shares p message keys) ((s - 1) * (rows p * blocks_of p (length message)) + j * blocks_of p (length message) + t) 0
    ≡ sum_to (count_of (block p) p.z p.counts j)
    (λ e. coefficient_at (block p) (rows p) p.z p.counts (padded (block p) message) keys t j e ⊗ power (point p s) e)

-- the same of a padded message (`padded_output_byte`), with its own N and padding
abbrev pub PaddedConstruction : Parameters → Type 0
PaddedConstruction p =
    (message keys : List ℕ) → Each Byte message → PaddedKeyString p (length message) keys
    → (s j t : ℕ) → Party p s → j < rows p → t < padded_blocks_of p (length message)
    → get_or (padded_shares p message keys) ((s - 1) * (rows p * padded_blocks_of p (length message)) + j * padded_blocks_of p (length message) + t) 0
    ≡ sum_to (count_of (block p) p.z p.counts j)
    (λ e. coefficient_at (block p) (rows p) p.z p.counts (marked (block p) message) keys t j e ⊗ power (point p s) e)
