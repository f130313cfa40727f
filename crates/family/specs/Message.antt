-- Messages as whole blocks (document 01's letters), and strings of bytes of one length.
-- Assumes nothing.
use Rattle.std.specs.Prelude.{◌≡◌, List, ◌++◌, ℕ, ◌-◌, ◌*◌, length, replicate}
use Rattle.lists.specs.Each.{Each, Byte}
use Rattle.scheme.specs.Check.{block_count}

-- a string of exactly n bytes
abbrev pub Bytes : ℕ → List ℕ → Type 0
Bytes n l = (length l ≡ n) × Each Byte l

-- the message as whole blocks of m bytes, the last padded with zeros (document 01's fill). This is the earlier form: a padded message in the sense of
-- document 02, a, is `marked` in Padding.antt
unfoldable pub padded : ℕ → List ℕ → List ℕ
padded m message = message ++ replicate (block_count m (length message) * m - length message) 0
