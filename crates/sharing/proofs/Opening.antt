-- Demand 2 as one statement about a call of the opener: what its answer says of the parties and the lengths, and exactness for them.
-- Assumes nothing.
use Rattle.std.specs.Prelude.{Err, Ok}
use mathlib.Core.Path.{◌≡◌, refl, sym, ap, ◌∙◌}
use mathlib.Core.Bool.{true}
use mathlib.Core.List.{List}
use Prim.Native.Nat.{ℕ, ◌-◌, ◌*◌}
use lib.ListN.{length, take}
use lib.Seq.{length-take-le}
use Rattle.lists.specs.Each.{Each, Byte, occurs}
use Rattle.lists.proofs.Each.{occurs-place}
use Rattle.scheme.proofs.Laws.{accepted, told-accepted, told-refused, kept, readers_rise, parties_distinct}
use Rattle.family.proofs.Message.{blocks_cover}
use Rattle.staircase.specs.Parameters.{Parameters, AcceptedScheme, default_parameters, block, prefix_rows, blocks_of}
use Rattle.staircase.specs.Exactness.{prefix_bytes, opened_string, Opened}
use Rattle.staircase.proofs.Sizes.{block_some}
use Rattle.staircase.proofs.WholeBlocks.{exactness}
use Rattle.reader.specs.Reconstruct.{reconstruct_answer, reconstruct_output}
use Rattle.reader.proofs.Laws.{whole_refusal, RangeGiven, range_given}
use Rattle.sharing.specs.Opening.{ExactCalls}

-- P × (d − z) = m for each count d
pub rows_of : (p : Parameters) → AcceptedScheme p → (d : ℕ) → occurs d p.counts ≡ true → prefix_rows p d * (d - p.z) ≡ block p
rows_of p A d count =
    let at = occurs-place d p.counts count in
    rw at.2 at ((accepted p.n p.r p.z p.counts A).rows_of-count at.0 at.1)

-- where no refusal applies, exactly one string of whole blocks has the prefixes
pub opened_of : {p : Parameters} {message start long : ℕ} {parties prefixes : List ℕ} {out : ℕ} → RangeGiven p message start long parties (length prefixes) out
    → Each Byte prefixes → Opened p message parties prefixes
opened_of {p} {message} {parties} {prefixes} r bytes =
    let right = parties_distinct p.n parties (readers_rise p.n parties r.passed) in
    exactness p r.good message r.short parties r.count right.0 right.1 prefixes (r.sent, bytes)

pub exact_calls : (p : Parameters) → ExactCalls p
unfolding reconstruct_answer reconstruct_output prefix_bytes
exact_calls p message parties prefixes before (Ok used) after bytes C =
    let told = told-accepted (Ok used) _ _ C.0 refl in
    let r = range_given p message 0 message parties (length prefixes) (length before) (whole_refusal p message parties (length prefixes) (length before) ∙ told.0) in
    let opened = opened_of r bytes in
    let output : after ≡ take message (opened_string p parties (blocks_of p message) prefixes) = C.1 ∙ rw told.0 in
    record {
      opened = opened;
      output = output;
      long = ap length output ∙ length-take-le message _ (rw opened.bytes.0 (blocks_cover (block p) message (block_some p r.good)));
      used_is = told.1;
      used_all = told.1 ∙ sym r.sent;
      rows_of-count = rows_of p r.good (length parties) r.count;
    }
exact_calls p message parties prefixes before (Err q) after bytes C = C.1 ∙ sym (kept _ (told-refused (Err q) _ _ C.0 refl))

-- the form without a scheme
pub default_exact_calls : ExactCalls default_parameters
default_exact_calls = exact_calls default_parameters
