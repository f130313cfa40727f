-- Demand 2 for padded messages as one statement about a call of their opener: what its answer says of the parties and the lengths, exactness for them,
-- and what its end says of the output.
-- Assumes nothing.
use Rattle.std.specs.Prelude.{Err, Ok}
use mathlib.Core.Path.{◌≡◌, refl, sym, ap, ◌∙◌}
use mathlib.Core.Bool.{true, false}
use mathlib.Core.List.{List}
use Prim.Native.Nat.{ℕ, ◌*◌, ◌<◌}
use native.Mathlib.Nat.{mul_comm}
use lib.Dec.{ltb}
use lib.ListN.{length}
use borrow.Author.Tests.{ltb-false, eqb-true, not-false}
use Rattle.lists.specs.Each.{Each, Byte, occurs}
use Rattle.lists.proofs.Tests.{neither, test_positive}
use Rattle.scheme.specs.Limits.{max_message}
use Rattle.scheme.specs.Readers.{Rising}
use Rattle.scheme.specs.Padding.{most_padded}
use Rattle.scheme.proofs.Laws.{first_none, first_if, answered_none, answered_some, kept, readers_rise, parties_distinct, held-told}
use Rattle.family.specs.Padding.{end_place, end_missing, end_refused, EndsAt}
use Rattle.family.proofs.Padding.{end_found, ends_count, ends_length, ends_marked}
use Rattle.staircase.specs.Parameters.{Parameters, AcceptedScheme, default_parameters, block, prefix_rows, padded_blocks_of}
use Rattle.staircase.specs.Exactness.{prefix_bytes, OpenedBlocks}
use Rattle.staircase.proofs.Sizes.{block_some}
use Rattle.staircase.proofs.WholeBlocks.{blocks_exactness}
use Rattle.reader.specs.ReconstructPadded.{blocks_sent, opened_padded, reconstruct_padded_refusal, reconstruct_padded_answer, reconstruct_padded_output}
use Rattle.sharing.specs.OpeningPadded.{OpenedPaddedExactly, PaddedExactCalls}
use Rattle.sharing.proofs.Opening.{rows_of}

-- what holds where no refusal applies to prefixes and an output of so many bytes
record ReadPadded (p : Parameters) (parties prefixes : List ℕ) (out : ℕ) : Type 0 where
  good : AcceptedScheme p
  count : occurs (length parties) p.counts ≡ true
  rising : Rising 0 p.n parties
  some : 0 < blocks_sent p (length parties) (length prefixes)
  room : out ≡ blocks_sent p (length parties) (length prefixes) * block p
  ends : end_refused (block p) (blocks_sent p (length parties) (length prefixes)) (opened_padded p parties prefixes) ≡ false

read : (p : Parameters) (parties prefixes : List ℕ) (out : ℕ) → reconstruct_padded_refusal p parties prefixes out ≡ 0 → ReadPadded p parties prefixes out
unfolding reconstruct_padded_refusal
read p parties prefixes out e =
    let N : ℕ = blocks_sent p (length parties) (length prefixes) in
    let scheme = first_none _ _ e in
    let six = first_if _ _ _ scheme.1 in
    let seven = first_if _ _ _ six.1 in
    let nine = first_if _ _ _ seven.1 in
    let ten = first_if _ _ _ nine.1 in
    let eleven = first_if _ _ _ ten.1 in
    record {
      good = scheme.0;
      count = not-false (occurs (length parties) p.counts) six.0;
      rising = readers_rise p.n parties seven.0;
      some = test_positive N nine.0;
      room = eqb-true _ _ (not-false _ ten.0);
      ends = eleven.0;
    }

-- what was opened where no refusal applies, and written
module _ (p : Parameters) (parties prefixes before : List ℕ) (bytes : Each Byte prefixes) (R : ReadPadded p parties prefixes (length before)) where
  abbrev N : ℕ
  N = blocks_sent p (length parties) (length prefixes)

  abbrev B : List ℕ
  B = opened_padded p parties prefixes

  -- the prefixes have the bytes of N blocks
  sent-all : length prefixes ≡ prefix_bytes p (length parties) N
  unfolding blocks_sent prefix_bytes
  sent-all =
      let unit : ℕ = length parties * prefix_rows p (length parties) in
      (held-told (most_padded (block p)) unit (length prefixes) R.some).0 ∙ mul_comm N unit

  exact_blocks : OpenedBlocks p N parties prefixes
  exact_blocks =
      let right = parties_distinct p.n parties R.rising in
      blocks_exactness p R.good N parties R.count right.0 right.1 prefixes (sent-all, bytes)

  passed : (end_missing (block p) N B ≡ false) × (ltb max_message (end_place (block p) N B) ≡ false)
  unfolding end_refused
  passed = neither _ _ R.ends

  end : EndsAt (block p) N B (end_place (block p) N B)
  end = end_found (block p) N B R.some (block_some p R.good) passed.0

  long : length B ≡ N * block p
  unfolding opened_padded
  long = exact_blocks.bytes.0

  opened_exactly : (after : List ℕ) → after ≡ B → OpenedPaddedExactly p parties prefixes (prefix_bytes p (length parties) N) (end_place (block p) N B) after
  unfolding opened_padded prefix_bytes
  opened_exactly after is =
      let count : padded_blocks_of p (end_place (block p) N B) ≡ N = ends_count (block p) N B (end_place (block p) N B) (block_some p R.good) R.some end in
      record {
        short = ltb-false max_message (end_place (block p) N B) passed.1;
        opened = rw count exact_blocks;
        output = rw count is;
        long = rw count (ap length is ∙ long);
        ends = rw (count, is) end;
        padding_is = rw is (ends_marked (block p) N B (end_place (block p) N B) (block_some p R.good) R.some end long);
        message_long = rw is (ends_length (block p) N B (end_place (block p) N B) (block_some p R.good) R.some end long);
        used_is = rw count refl;
        used_all = sym sent-all;
        rows_of-count = rows_of p R.good (length parties) R.count;
      }

pub padded_exact_calls : (p : Parameters) → PaddedExactCalls p
unfolding reconstruct_padded_answer reconstruct_padded_output
padded_exact_calls p parties prefixes before (Ok opening) after bytes C =
    let told = answered_none _ _ _ C.0 in
    let R = read p parties prefixes (length before) told.0 in
    let used_is : opening.used ≡ prefix_bytes p (length parties) (blocks_sent p (length parties) (length prefixes)) = cc told.1 in
    let message-is : opening.length ≡ end_place (block p) (blocks_sent p (length parties) (length prefixes)) (opened_padded p parties prefixes) = cc told.1 in
    rw (used_is, message-is) (opened_exactly p parties prefixes before bytes R after (C.1 ∙ rw told.0))
padded_exact_calls p parties prefixes before (Err q) after bytes C = C.1 ∙ sym (kept _ (answered_some _ _ _ _ C.0).1)

-- the form without a scheme
pub default_padded_exact_calls : PaddedExactCalls default_parameters
default_padded_exact_calls = padded_exact_calls default_parameters
