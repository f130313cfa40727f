-- Laws of padding: a padded message is whole blocks of bytes, and begins with the message.
-- Assumes nothing.
use mathlib.Core.Path.{◌≡◌, ◌∙◌}
use mathlib.Core.List.{List}
use Prim.Native.Nat.{ℕ, ◌-◌, ◌*◌, ◌≤◌, ◌<◌}
use native.Mathlib.Omega.{arith}
use lib.Dec.{lit<}
use lib.ListN.{length, take, replicate, length-append, length-replicate}
use lib.Seq.{take_at}
use Rattle.lists.specs.Each.{Each, Byte}
use Rattle.lists.specs.Table.{joined, piece}
use Rattle.lists.proofs.Each.{each_append, each_replicate, each_joined}
use Rattle.lists.proofs.Joined.{length-joined}
use Rattle.lists.proofs.Piece.{length-piece, each_piece}
use Rattle.scheme.specs.Check.{block_count}
use Rattle.scheme.proofs.Laws.{block_count_least}
use Rattle.family.specs.Message.{Bytes, padded}

-- a message fits its blocks
pub blocks_cover : (m bytes : ℕ) → 0 < m → bytes ≤ block_count m bytes * m
blocks_cover m bytes positive = (block_count_least m bytes positive).enough

pub length-padded : (m : ℕ) (message : List ℕ) → 0 < m → length (padded m message) ≡ block_count m (length message) * m
unfolding padded
length-padded m message positive =
    let zeros : ℕ = block_count m (length message) * m - length message in
    length-append message (replicate zeros 0) ∙ omega (arith, length-replicate {A = ℕ} zeros 0, blocks_cover m (length message) positive)

pub padded-bytes : (m : ℕ) (message : List ℕ) → 0 < m → Each Byte message → Bytes (block_count m (length message) * m) (padded m message)
unfolding padded
padded-bytes m message positive h =
    let zeros : ℕ = block_count m (length message) * m - length message in
    (length-padded m message positive, each_append {A = ℕ} Byte message (replicate zeros 0) h (each_replicate {A = ℕ} Byte zeros 0 (lit< tt)))

pub unpadded : (m : ℕ) (message : List ℕ) → take (length message) (padded m message) ≡ message
unfolding padded
unpadded m message = take_at message _ (length message) (cc)

-- a block of a string of n blocks
pub block-bytes : (m t n : ℕ) (blocks : List ℕ) → Bytes (n * m) blocks → t < n → Bytes m (piece m t blocks)
block-bytes m t n blocks h b = (length-piece {A = ℕ} m t n blocks (omega (arith, h.0)) b, each_piece {A = ℕ} Byte m t blocks h.1)

-- n blocks one after another
pub joined_bytes : (m n : ℕ) (f : ℕ → List ℕ) → ((t : ℕ) → t < n → Bytes m (f t)) → Bytes (n * m) (joined n f)
joined_bytes m n f h = (length-joined n m f (λ t b. (h t b).0), each_joined Byte n f (λ t b. (h t b).1))
