-- The limits of document 01, and the default scheme of document 02, c. Each stands here and, for the code, in src/limits.rt.
-- Assumes nothing.
use Rattle.std.specs.Prelude.{List, [], ◌∷◌, ℕ, ◌+◌}

-- n is at least 2 and at most this
abbrev pub max_parties : ℕ
max_parties = 16

abbrev pub max_counts : ℕ
max_counts = 8

-- the longest block, in bytes
abbrev pub max_block : ℕ
max_block = 840

-- the longest message, in bytes
abbrev pub max_message : ℕ
max_message = 16384

-- the most blocks that a message makes: in blocks of one byte, with one more for its padding (document 02, a). A bound for the loops' contracts, of
-- which the code has no constant
abbrev pub max_blocks : ℕ
max_blocks = max_message + 1

-- the default scheme
abbrev pub default_n : ℕ
default_n = 5

abbrev pub default_r : ℕ
default_r = 2

abbrev pub default_z : ℕ
default_z = 2

abbrev pub default_counts : List ℕ
default_counts = 5 ∷ 4 ∷ 3 ∷ []
