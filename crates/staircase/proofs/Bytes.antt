-- What the splitter writes, as one table: in each share, at each place, the value of a row whose coefficients are read off the key string and the
-- message. Past the message's end stands the padding: one byte, 0 or the marker, and zeros.
-- Assumes nothing.
use mathlib.Core.Path.{◌≡◌, sym, ap, ◌∙◌}
use mathlib.Core.Bool.{cond}
use mathlib.Core.List.{List, [], ◌∷◌, ◌++◌, append_assoc}
use Prim.Native.Nat.{ℕ, ◌+◌, ◌-◌, ◌*◌, ◌/◌, ◌%◌, ◌<◌}
use lib.Dec.{ltb}
use lib.ListN.{length, get_or, replicate}
use Rattle.lists.specs.Table.{tabulate, joined, piece}
use Rattle.lists.proofs.Each.{get_or_beyond}
use Rattle.lists.proofs.Table.{tabulate-same}
use Rattle.lists.proofs.Joined.{in-grid, joined_same}
use Rattle.interpolation.specs.Polynomial.{eval}
use Rattle.scheme.specs.Check.{block_count}
use Rattle.scheme.specs.Padding.{end_marker, padded_count}
use Rattle.family.specs.Message.{padded}
use Rattle.family.specs.Padding.{marked}
use Rattle.family.specs.Family.{share_of_blocks, shares_of_blocks}
use Rattle.family.proofs.Message.{length-padded}
use Rattle.family.proofs.Padding.{length_marked}
use Rattle.staircase.specs.Parameters.{Parameters, AcceptedScheme, block, rows, blocks_of, padded_blocks_of, point}
use Rattle.staircase.specs.Coefficients.{count_of, coefficient_at, share_byte}
use Rattle.staircase.specs.Shares.{staircase, shares, padded_shares}
use Rattle.staircase.proofs.Columns.{part_at}
use Rattle.staircase.proofs.Sizes.{block_some}

get_or-padded : (m : ℕ) (message : List ℕ) (i : ℕ) → get_or (padded m message) i 0 ≡ get_or (message ++ 0 ∷ []) i 0
unfolding padded
get_or-padded m message i = get_or_beyond message (block_count m (length message) * m - length message) i 0 ∙ sym (get_or_beyond message 1 i 0)

get_or-marked : (m : ℕ) (message : List ℕ) (i : ℕ) → get_or (marked m message) i 0 ≡ get_or (message ++ end_marker ∷ []) i 0
unfolding marked
get_or-marked m message i =
    let zeros : List ℕ = replicate (padded_count m (length message) * m - (length message + 1)) 0 in
    ap (λ (l : List ℕ). get_or l i 0) (sym (append_assoc message (end_marker ∷ []) zeros))
    ∙ get_or_beyond (message ++ end_marker ∷ []) (padded_count m (length message) * m - (length message + 1)) i 0

-- the shares of all parties, byte by byte, of blocks that begin with these bytes and have zeros after them
abbrev pub bytewise : Parameters → List ℕ → List ℕ → ℕ → List ℕ
bytewise p bytes keys N = joined p.n (λ a. tabulate (rows p * N) (share_byte (block p) (rows p) p.z p.counts bytes keys N (point p (a + 1))))

module _ (p : Parameters) (ok : AcceptedScheme p) (N : ℕ) (blocks bytes keys : List ℕ) (whole : length blocks ≡ N * block p)
    (same : (i : ℕ) → get_or blocks i 0 ≡ get_or bytes i 0) (enough : length keys ≡ N * (rows p * p.z)) where
  byte_is : (s i : ℕ) → i < rows p * N
      → get_or ((staircase p).column (piece (block p) (i % N) blocks) (piece (rows p * p.z) (i % N) keys) s) (i / N) 0
      ≡ share_byte (block p) (rows p) p.z p.counts bytes keys N (point p s) i
  unfolding share_byte coefficient_at
  byte_is s i h =
      let place = in-grid i (rows p) N h in
      part_at p ok N blocks keys whole enough (i % N) (i / N) place.1 place.0 s
      ∙ ap (eval (point p s))
      (tabulate-same {A = ℕ} (count_of (block p) p.z p.counts (i / N)) _ _
      (λ e he. ap (cond (ltb e p.z) (get_or keys ((i % N * rows p + i / N) * p.z + e) 0)) (same _)))

  blocks_are : shares_of_blocks (staircase p) p.n N blocks keys ≡ bytewise p bytes keys N
  unfolding shares_of_blocks share_of_blocks staircase
  blocks_are = joined_same {A = ℕ} p.n _ _ (λ a _. tabulate-same {A = ℕ} (rows p * N) _ _ (λ i h. byte_is (a + 1) i h))

-- of a message: the byte right after it tells its padding
module _ (p : Parameters) (ok : AcceptedScheme p) (message keys : List ℕ) where
  pub shares_are : length keys ≡ blocks_of p (length message) * (rows p * p.z) → shares p message keys ≡ bytewise p (message ++ 0 ∷ []) keys (blocks_of p (length message))
  unfolding shares
  shares_are = blocks_are p ok _ (padded (block p) message) (message ++ 0 ∷ []) keys (length-padded (block p) message (block_some p ok)) (get_or-padded (block p) message)

  pub padded_shares_are : length keys ≡ padded_blocks_of p (length message) * (rows p * p.z)
      → padded_shares p message keys ≡ bytewise p (message ++ end_marker ∷ []) keys (padded_blocks_of p (length message))
  unfolding padded_shares
  padded_shares_are = blocks_are p ok _ (marked (block p) message) (message ++ end_marker ∷ []) keys (length_marked (block p) message (block_some p ok)) (get_or-marked (block p) message)
