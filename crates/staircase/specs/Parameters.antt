-- A scheme's parameters, and the numbers that follow from them.
-- Assumes nothing.
use Rattle.std.specs.Prelude.{◌≡◌, List, [], ◌∷◌, ℕ, ◌*◌, ◌≤◌}
use Rattle.scheme.specs.declared.accepted.Scheme.{Scheme}
use Rattle.scheme.specs.declared.parameters.Parameters.{Parameters as Given}
use Rattle.scheme.specs.Limits.{default_n, default_r, default_z, default_counts}
use Rattle.scheme.specs.BlockLength.{block_length}
use Rattle.scheme.specs.Check.{refusal, rows_of_count, rows_of_block, block_count}
use Rattle.scheme.specs.Padding.{padded_count}

pub record Parameters : Type 0 where
  pub n : ℕ
  pub r : ℕ
  pub z : ℕ
  pub counts : List ℕ

-- document 01's m
abbrev pub block : Parameters → ℕ
block p = block_length p.z p.counts

-- document 01's b
abbrev pub rows : Parameters → ℕ
rows p = rows_of_block p.n p.r p.z (block p)

-- document 01's P: the rows of a block that a party sends where d parties are read
abbrev pub prefix_rows : Parameters → ℕ → ℕ
prefix_rows p d = rows_of_count (block p) p.z d

-- document 01's N: the blocks of a message of so many bytes
abbrev pub blocks_of : Parameters → ℕ → ℕ
blocks_of p message = block_count (block p) message

-- N of a padded message (document 02, a)
abbrev pub padded_blocks_of : Parameters → ℕ → ℕ
padded_blocks_of p message = padded_count (block p) message

-- the bytes that N blocks make: of keys, of a share, of all shares
abbrev pub key_bytes : Parameters → ℕ → ℕ
key_bytes p N = N * p.z * rows p

abbrev pub share_bytes : Parameters → ℕ → ℕ
share_bytes p N = N * rows p

abbrev pub output_bytes : Parameters → ℕ → ℕ
output_bytes p N = p.n * N * rows p

-- no refusal of the scheme's place applies
abbrev pub AcceptedScheme : Parameters → Type 0
AcceptedScheme p = refusal p.n p.r p.z p.counts ≡ 0

-- a party's number (document 01's site)
abbrev pub Party : Parameters → ℕ → Type 0
Party p s = (1 ≤ s) × (s ≤ p.n)

-- the byte at which party s has the rows' values
unfoldable pub point : Parameters → ℕ → ℕ
point p s = s

abbrev pub parameters : ℕ → ℕ → ℕ → List ℕ → Parameters
parameters n r z counts = record { n = n; r = r; z = z; counts = counts }

-- document 01's plan A, the scheme of its worked examples
abbrev pub scheme_a : Parameters
scheme_a = parameters 3 1 1 (3 ∷ 2 ∷ [])

-- those that a call is given
abbrev pub given_parameters : Given → Parameters
given_parameters p = parameters p.n p.r p.z p.counts.now

-- those of the scheme that the check answered, with these counts, and with its own
abbrev pub parameters_with : Scheme → List ℕ → Parameters
parameters_with s counts = parameters s.n s.r s.z counts

abbrev pub parameters_of : Scheme → Parameters
parameters_of s = parameters_with s s.counts.now

-- those of the default scheme, for the calls without one
abbrev pub default_parameters : Parameters
default_parameters = parameters default_n default_r default_z default_counts
