-- Demand 2: what the splitter writes is the construction, byte by byte.
-- Assumes nothing.
use mathlib.Core.Path.{◌≡◌, sym, ◌∙◌}
use mathlib.Core.List.{List}
use Prim.Native.Nat.{ℕ, ◌+◌, ◌-◌, ◌*◌, ◌/◌, ◌%◌, ◌<◌}
use native.Mathlib.Omega.{arith}
use lib.Dec.{ltb}
use lib.ListN.{get_or}
use Rattle.lists.specs.Each.{Each, Byte}
use Rattle.lists.proofs.Tests.{cond_ind}
use Rattle.lists.proofs.Each.{each_at, each_tabulate}
use Rattle.lists.proofs.Joined.{in-grid}
use Rattle.gf256.specs.Byte.{◌⊗◌, power}
use Rattle.interpolation.specs.Polynomial.{sum_to}
use Rattle.interpolation.proofs.Laws.{eval-byte, eval_table}
use Rattle.scheme.proofs.Laws.{default_accepted}
use Rattle.family.specs.Message.{Bytes, padded}
use Rattle.family.specs.Padding.{marked}
use Rattle.family.specs.Family.{share_of_blocks, shares_of_blocks}
use Rattle.family.proofs.Message.{padded-bytes}
use Rattle.family.proofs.Padding.{marked-bytes}
use Rattle.family.proofs.Shares.{shares-byte}
use Rattle.staircase.specs.Parameters.{Parameters, AcceptedScheme, Party, default_parameters, block, rows, key_bytes, point}
use Rattle.staircase.specs.Coefficients.{count_of, coefficient_at}
use Rattle.staircase.specs.Shares.{staircase, shares, padded_shares}
use Rattle.staircase.specs.Construction.{Construction, PaddedConstruction}
use Rattle.staircase.proofs.Columns.{part_at}
use Rattle.staircase.proofs.Sizes.{block_some}
use Rattle.staircase.proofs.WholeBlocks.{keys-number}

-- coefficients are bytes
pub coefficient_at-byte : (m b z : ℕ) (ds blocks keys : List ℕ) → Each Byte blocks → Each Byte keys → (t j e : ℕ)
    → Byte (coefficient_at m b z ds blocks keys t j e)
unfolding coefficient_at
coefficient_at-byte m b z ds blocks keys B K t j e =
    cond_ind Byte {t = ltb e z} (λ _. each_at {A = ℕ} Byte keys _ 0 (omega arith) K) (λ _. each_at {A = ℕ} Byte blocks _ 0 (omega arith) B)

-- of N whole blocks
module _ (p : Parameters) (ok : AcceptedScheme p) (N : ℕ) (blocks keys : List ℕ) (B : Bytes (N * block p) blocks) (K : Bytes (key_bytes p N) keys) where
  blocks_byte : (s j t : ℕ) → Party p s → j < rows p → t < N
      → get_or (shares_of_blocks (staircase p) p.n N blocks keys) ((s - 1) * (rows p * N) + j * N + t) 0
      ≡ sum_to (count_of (block p) p.z p.counts j) (λ e. coefficient_at (block p) (rows p) p.z p.counts blocks keys t j e ⊗ power (point p s) e)
  unfolding staircase
  blocks_byte s j t party hj ht =
      shares-byte (staircase p) N blocks keys p.n s j t party.0 party.1 hj ht
      ∙ part_at p ok N blocks keys B.0 (K.0 ∙ sym (keys-number p N)) t j ht hj s
      ∙ eval_table (point p s) (count_of (block p) p.z p.counts j) _
      (λ e _. coefficient_at-byte (block p) (rows p) p.z p.counts blocks keys B.1 K.1 t j e)

  -- shares are bytes
  pub share_bytes_lem : (s : ℕ) → Each Byte (share_of_blocks (staircase p) N blocks keys s)
  unfolding share_of_blocks staircase
  share_bytes_lem s =
      each_tabulate {A = ℕ} Byte (rows p * N) _
      (λ i h.
      let place = in-grid i (rows p) N h in
      rw (part_at p ok N blocks keys B.0 (K.0 ∙ sym (keys-number p N)) (i % N) (i / N) place.1 place.0 s)
      (eval-byte (point p s) _
      (each_tabulate {A = ℕ} Byte (count_of (block p) p.z p.counts (i / N)) _
      (λ e _. coefficient_at-byte (block p) (rows p) p.z p.counts blocks keys B.1 K.1 (i % N) (i / N) e))))

pub output-byte : (p : Parameters) → AcceptedScheme p → Construction p
unfolding shares
output-byte p ok message keys bytes K =
    blocks_byte p ok _ (padded (block p) message) keys
    (padded-bytes (block p) message (block_some p ok) bytes) K

pub padded_output_byte : (p : Parameters) → AcceptedScheme p → PaddedConstruction p
unfolding padded_shares
padded_output_byte p ok message keys bytes K =
    blocks_byte p ok _ (marked (block p) message) keys
    (marked-bytes (block p) message (block_some p ok) bytes) K

-- the forms without a scheme
pub default_output_byte : Construction default_parameters
default_output_byte = output-byte default_parameters default_accepted

pub default_padded_output_byte : PaddedConstruction default_parameters
default_padded_output_byte = padded_output_byte default_parameters default_accepted
