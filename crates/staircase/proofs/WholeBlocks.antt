-- Whole blocks: every string of prefixes opens to the one string of whole blocks that has them.
-- Assumes nothing.
use mathlib.Core.Path.{◌≡◌, sym, ap, ◌∙◌}
use mathlib.Core.Bool.{true}
use mathlib.Core.List.{List, map}
use Prim.Native.Nat.{ℕ, ◌+◌, ◌*◌, ◌<◌}
use native.Mathlib.Nat.{mul_assoc, mul_comm}
use native.Mathlib.Omega.{arith}
use lib.ListN.{length, get_or, take}
use lib.Seq.{get_or-take}
use Rattle.lists.specs.Each.{Each, Distinct, occurs}
use Rattle.lists.specs.Table.{piece}
use Rattle.lists.proofs.Each.{occurs-place}
use Rattle.lists.proofs.Joined.{below_product, place_in}
use Rattle.lists.proofs.Piece.{get_or-piece}
use Rattle.scheme.specs.Check.{rows_of_count}
use Rattle.scheme.proofs.Laws.{default_accepted}
use Rattle.family.specs.Message.{Bytes}
use Rattle.family.specs.Exactness as family
use Rattle.family.proofs.Exactness.{blocks_exact}
use Rattle.staircase.specs.Parameters.{Parameters, AcceptedScheme, Party, default_parameters, block, rows, blocks_of, point}
use Rattle.staircase.specs.Coefficients.{key_place}
use Rattle.staircase.specs.Shares.{staircase}
use Rattle.staircase.specs.Opening.{opened_block}
use Rattle.staircase.specs.Exactness.{prefix_bytes, opened_string, OpenedBlocks, BlocksExactness, Exactness}
use Rattle.staircase.proofs.Exactness.{staircase_exact}
use Rattle.staircase.proofs.Sizes.{rows-within}

-- the keys of N blocks, in the order of the factors that document 01 writes
pub keys-number : (p : Parameters) (N : ℕ) → N * (staircase p).keys ≡ N * p.z * rows p
unfolding staircase
keys-number p N = ap (λ (k : ℕ). N * k) (mul_comm (rows p) p.z) ∙ sym (mul_assoc N p.z (rows p))

module _ (p : Parameters) (A : AcceptedScheme p) (parties : List ℕ) (counted : occurs (length parties) p.counts ≡ true) (apart : Distinct parties) (inside : Each (Party p) parties) where
  abbrev sent : ℕ
  sent = rows_of_count (block p) p.z (length parties)

  -- the place of their number among the counts
  at : (i : ℕ) × (i < length p.counts) × (get_or p.counts i 0 ≡ length parties)
  at = occurs-place (length parties) p.counts counted

  -- N blocks are opened exactly
  pub exact : (N : ℕ) → family.Exact (staircase p) parties sent (sent * p.z) (opened_block (block p) p.z p.counts (map (point p) parties)) N
  unfolding staircase
  exact =
      blocks_exact (staircase p) parties sent (sent * p.z) _ _ (rows-within p A (length parties) counted)
      (staircase_exact p A at.0 at.1 parties inside apart (sym at.2))

  pub bytes-number : (N : ℕ) → prefix_bytes p (length parties) N ≡ length parties * (sent * N)
  unfolding prefix_bytes
  bytes-number N = mul_assoc (length parties) sent N

  -- a key of the first rows, in the whole key string and in its block's piece
  key_at : (N t j e : ℕ) (keys : List ℕ) → j < sent → e < p.z
      → get_or (take (sent * p.z) (piece (staircase p).keys t keys)) (j * p.z + e) 0 ≡ get_or keys (key_place (rows p) p.z t j e) 0
  unfolding staircase
  key_at N t j e keys hj he =
      let few = rows-within p A (length parties) counted in
      get_or-take (sent * p.z) (piece (rows p * p.z) t keys) (j * p.z + e) 0 (below_product j sent e p.z hj he)
      ∙ get_or-piece {A = ℕ} (rows p * p.z) t keys (j * p.z + e) 0 (below_product j (rows p) e p.z (omega (arith, few)) he)
      ∙ ap (λ (k : ℕ). get_or keys k 0) (place_in t (rows p) j e p.z)

  opened : (N : ℕ) (prefixes : List ℕ) → Bytes (prefix_bytes p (length parties) N) prefixes → OpenedBlocks p N parties prefixes
  unfolding opened_string staircase
  opened N prefixes h =
      let E = exact N in
      let found = E.exists prefixes (rw (bytes-number N) at h) in
      record {
        bytes = E.bytes prefixes;
        exists = (found.0, rw (keys-number p N) at found.1, found.2);
        unique = λ blocks keys hb hk g. E.unique prefixes blocks keys hb (rw (← keys-number p N) at hk) g;
        keys_unique =
            λ blocks blocks' keys keys' hb hb' hk hk' g g' t j e ht hj he.
            sym (key_at N t j e keys hj he)
            ∙ ap (λ (l : List ℕ). get_or l (j * p.z + e) 0)
            (E.keys_unique prefixes blocks blocks' keys keys' hb hb' (rw (← keys-number p N) at hk) (rw (← keys-number p N) at hk') g g' t ht)
            ∙ key_at N t j e keys' hj he;
      }

pub blocks_exactness : (p : Parameters) → AcceptedScheme p → BlocksExactness p
blocks_exactness p A N parties counted apart inside prefixes h = opened p A parties counted apart inside N prefixes h

pub exactness : (p : Parameters) → AcceptedScheme p → Exactness p
exactness p A message short = blocks_exactness p A (blocks_of p message)

-- the forms without a scheme
pub default_blocks_exactness : BlocksExactness default_parameters
default_blocks_exactness = blocks_exactness default_parameters default_accepted

pub default_exactness : Exactness default_parameters
default_exactness = exactness default_parameters default_accepted
