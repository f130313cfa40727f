-- What a party has of a block, row by row: the value, at its point, of the row's keys and message bytes.
-- Assumes nothing.
use mathlib.Core.Path.{◌≡◌, sym, ap, ◌∙◌}
use mathlib.Core.Logic.{⊎_elim}
use mathlib.Core.List.{List, []}
use Prim.Native.Nat.{ℕ, ◌+◌, ◌*◌, ◌≤◌, ◌<◌}
use native.Mathlib.Nat.{le_of_eq}
use borrow.Author.Tests.{lt-ltb, le-ltb}
use lib.ListN.{length, get_or}
use Rattle.lists.specs.Table.{tabulate, piece}
use Rattle.lists.proofs.Tests.{lt_or_le}
use Rattle.lists.proofs.Table.{get_or-tabulate, tabulate-same}
use Rattle.lists.proofs.Each.{get_or-map}
use Rattle.lists.proofs.Joined.{below_product, place_in}
use Rattle.lists.proofs.Piece.{length-piece, get_or-piece}
use Rattle.interpolation.specs.Polynomial.{eval}
use Rattle.scheme.specs.Facts as facts
use Rattle.scheme.proofs.Laws.{accepted}
use Rattle.staircase.specs.Parameters.{Parameters, AcceptedScheme, block, rows, point}
use Rattle.staircase.specs.Rows.{rows_of}
use Rattle.staircase.specs.Coefficients.{count_of, origin, coefficient_at}
use Rattle.staircase.specs.Opening.{block_row}
use Rattle.staircase.specs.Shares.{staircase}
use Rattle.staircase.proofs.Origin.{origin_below}
use Rattle.staircase.proofs.Rows.{rows_are, rows-number, coefficient_key, coefficient-byte}

module _ (p : Parameters) (ok : AcceptedScheme p) where
  known : facts.SchemeFacts p.n p.r p.z p.counts (block p) (rows p)
  known = accepted p.n p.r p.z p.counts ok

  -- ---- one block

  module _ (bytes keys : List ℕ) (whole : length bytes ≡ block p) (enough : length keys ≡ rows p * p.z) (s : ℕ) where
    pub column-at : (j : ℕ) → j < rows p
        → get_or ((staircase p).column bytes keys s) j 0 ≡ eval (point p s) (block_row (block p) p.z p.counts bytes keys j)
    unfolding staircase
    column-at j h =
        get_or-map (eval (point p s)) (rows_of (block p) p.z p.counts bytes keys) j [] 0
        (rw (rows-number p.n p.r p.z p.counts (block p) (rows p) known bytes keys whole enough) h)
        ∙ ap (λ (l : List (List ℕ)). eval (point p s) (get_or l j []))
        (rows_are p.n p.r p.z p.counts (block p) (rows p) known bytes keys whole enough)
        ∙ ap (eval (point p s)) (get_or-tabulate (rows p) (block_row (block p) p.z p.counts bytes keys) j [] h)

  -- ---- block t of N, of bytes and keys one after another

  module _ (N : ℕ) (blocks keys : List ℕ) (whole : length blocks ≡ N * block p) (enough : length keys ≡ N * (rows p * p.z)) (t j : ℕ) (ht : t < N)
      (hj : j < rows p) where
    part-row : block_row (block p) p.z p.counts (piece (block p) t blocks) (piece (rows p * p.z) t keys) j
        ≡ tabulate (count_of (block p) p.z p.counts j) (coefficient_at (block p) (rows p) p.z p.counts blocks keys t j)
    unfolding block_row coefficient_at
    part-row =
        let B : List ℕ = piece (block p) t blocks in
        let K : List ℕ = piece (rows p * p.z) t keys in
        tabulate-same (count_of (block p) p.z p.counts j) _ _
        (λ e he.
        ⊎_elim (λ (l : e < p.z).
        coefficient_key (block p) p.z p.counts B K j e l
        ∙ get_or-piece (rows p * p.z) t keys (j * p.z + e) 0 (below_product j (rows p) e p.z hj l)
        ∙ rw (place_in t (rows p) j e p.z, lt-ltb e p.z l))
        (λ (g : p.z ≤ e).
        coefficient-byte (block p) p.z p.counts B K j e g
        ∙ get_or-piece (block p) t blocks (origin (block p) p.z p.counts j e) 0
        (origin_below p.n p.r p.z p.counts (block p) (rows p) known j e hj g he)
        ∙ rw (le-ltb e p.z g))
        (lt_or_le e p.z))

    -- what party s has of row j of the block
    pub part_at : (s : ℕ) → get_or ((staircase p).column (piece (block p) t blocks) (piece (rows p * p.z) t keys) s) j 0
        ≡ eval (point p s) (tabulate (count_of (block p) p.z p.counts j) (coefficient_at (block p) (rows p) p.z p.counts blocks keys t j))
    part_at s =
        column-at (piece (block p) t blocks) (piece (rows p * p.z) t keys) (length-piece (block p) t N blocks (le_of_eq (sym whole)) ht)
        (length-piece (rows p * p.z) t N keys (le_of_eq (sym enough)) ht) s j hj
        ∙ ap (eval (point p s)) part-row
