-- What the opener of padded messages answers and writes past its first refusals, and that the code's products fit.
-- Assumes nothing.
use mathlib.Core.Path.{◌≡◌, refl, sym, ap, ◌∙◌}
use mathlib.Core.Bool.{true, false, not}
use mathlib.Core.List.{List, [], ◌∷◌}
use mathlib.Core.Logic.{⊎_elim}
use Prim.Native.Nat.{ℕ, ◌+◌, ◌*◌, ◌≤◌, ◌<◌}
use native.Mathlib.Nat.{eq-zero-or-pos, zero-mul, mul_comm, le_refl}
use native.Mathlib.Omega.{arith}
use lib.Dec.{eqb}
use lib.ListN.{length}
use lib.Seq.{take_all}
use borrow.Author.Tests.{ne_eqb}
use Rattle.lists.specs.Each.{occurs}
use Rattle.lists.proofs.Joined.{last_row}
use Rattle.scheme.specs.declared.accepted.Scheme.{Scheme}
use Rattle.scheme.specs.declared.refusal.Refusal.{Refusal}
use Rattle.scheme.specs.declared.refusal.Refusal.TheVariants.{OutputLength, Padding}
use Rattle.scheme.specs.Limits.{max_block, max_message}
use Rattle.scheme.specs.Refusals.{number}
use Rattle.scheme.specs.Outcome.{Outcome, refused, number_if}
use Rattle.scheme.specs.Check.{refusal}
use Rattle.scheme.specs.Readers.{readers_refused}
use Rattle.scheme.specs.Padding.{most_padded, blocks_held}
use Rattle.scheme.proofs.Laws.{Way, scheme_own, answer_none, refuses, numbered, done, pass, pass_false, pass_same, stop_true, stop_other, held-told, most_full, padded_count_few}
use Rattle.family.specs.Padding.{end_place, end_refused}
use Rattle.staircase.specs.Parameters.{Parameters, block, prefix_rows, parameters_of}
use Rattle.staircase.specs.Exactness.{prefix_bytes, opened_string}
use Rattle.std.proofs.Common.{Option, Some, None, Ok, Err}
use Rattle.reader.specs.declared.ending.Ending.TheVariants.{Sought}
use Rattle.reader.specs.declared.taking.Take.TheVariants.{All}
use Rattle.reader.specs.Decoding.{sent_rows, sent_bytes, Counted}
use Rattle.reader.specs.Ending.{FoundEnd, OpenedBy, TurnsReach, OpeningFits}
use Rattle.reader.specs.ReconstructPadded.{blocks_sent, opened_padded, reconstruct_padded_refusal, reconstruct_padded_answer, reconstruct_padded_output, ReconstructPaddedCall}
use Rattle.reader.proofs.OpenerAnswers.{m_most, m_some, used_are}
use Rattle.reader.proofs.CountedScheme.{counted_own}
use Rattle.reader.proofs.RangeAnswers.{turns_reach}
use Rattle.reader.proofs.Reading.{opened_long}

-- the blocks that a length tells are no longer than the longest message and a block
pub held_small : (m unit bytes : ℕ) → 0 < m → m ≤ max_block → blocks_held (most_padded m) unit bytes * m ≤ max_message + max_block
held_small m unit bytes positive most =
    let N : ℕ = blocks_held (most_padded m) unit bytes in
    ⊎_elim
    (λ (e : N ≡ 0). omega (arith, ap (λ (x : ℕ). x * m) e, zero-mul m))
    (λ (h : 0 < N).
    omega (arith, last_row N m h, most_full m N positive (held-told (most_padded m) unit bytes h).1))
    (eq-zero-or-pos N)

-- ---- the code's numbers

module _ (s : Scheme) where
  -- P is the rows of d parties
  pub told_blocks_lem : (d P : ℕ) → P ≡ sent_rows s d
      → (bytes N : ℕ) → N ≡ blocks_held (most_padded s.block) (d * P) bytes → N ≡ blocks_sent (parameters_of s) d bytes
  unfolding blocks_sent
  told_blocks_lem d P P-is bytes N N_is = N_is ∙ rw (P-is, s.accepted.block_is) refl

  pub size_small : (d bytes N : ℕ) → N ≡ blocks_sent (parameters_of s) d bytes → N * s.block ≤ max_message + max_block
  unfolding blocks_sent
  size_small d bytes N N_is =
      rw (N_is, ← s.accepted.block_is) (held_small s.block (d * sent_rows s d) bytes (m_some s) (m_most s))

-- ---- a way out

-- what is tested, in the table's order
abbrev pub lines : Parameters → List ℕ → List ℕ → ℕ → List ℕ
lines p parties prefixes out =
    let N : ℕ = blocks_sent p (length parties) (length prefixes) in
    refusal p.n p.r p.z p.counts
    ∷ number_if 6 (not (occurs (length parties) p.counts))
    ∷ number_if 7 (readers_refused p.n parties)
    ∷ number_if 9 (eqb N 0)
    ∷ number_if 10 (not (eqb out (N * block p)))
    ∷ number_if 11 (end_refused (block p) N (opened_padded p parties prefixes))
    ∷ []

-- a refusal: nothing is written
pub stops : (p : Parameters) (parties prefixes out : List ℕ) (q : Refusal)
    → Way
    (prefix_bytes p (length parties) (blocks_sent p (length parties) (length prefixes))
    ∷ end_place (block p) (blocks_sent p (length parties) (length prefixes)) (opened_padded p parties prefixes)
    ∷ [])
    (lines p parties prefixes (length out)) (refused (number q))
    → ReconstructPaddedCall p parties prefixes out (Err q) out
unfolding reconstruct_padded_refusal reconstruct_padded_answer reconstruct_padded_output
stops p parties prefixes out q w = refuses _ w

-- past the lines before 9
pub to_blocks : (s : Scheme) (parties : List ℕ) {vs qs : List ℕ} {o : Outcome}
    → occurs (length parties) s.counts.now ≡ true → readers_refused s.n parties ≡ false
    → Way vs qs o
    → Way vs (refusal s.n s.r s.z s.counts.now ∷ number_if 6 (not (occurs (length parties) s.counts.now)) ∷ number_if 7 (readers_refused s.n parties) ∷ qs) o
to_blocks s parties counted rising w = pass s.accepted.passed (pass_false 6 (ap not counted) (pass_false 7 rising w))

-- ---- past refusal 9: N is told, and not 0

pub record BlocksTold (s : Scheme) (parties prefixes : List ℕ) (N : ℕ) : Type 0 where
  pub count : occurs (length parties) s.counts.now ≡ true
  pub rising : readers_refused s.n parties ≡ false
  pub N_is : N ≡ blocks_sent (parameters_of s) (length parties) (length prefixes)
  pub some : 0 < N

module _ {s : Scheme} {parties prefixes : List ℕ} {N : ℕ} (T : BlocksTold s parties prefixes N) where
  abbrev p : Parameters
  p = parameters_of s

  abbrev d : ℕ
  d = length parties

  -- what is tested for refusals 9 and 10
  some_blocks : eqb (blocks_sent p d (length prefixes)) 0 ≡ false
  some_blocks = ne_eqb (blocks_sent p d (length prefixes)) 0 (λ e. omega (arith, T.N_is, T.some))

  size_is : N * s.block ≡ blocks_sent p d (length prefixes) * block p
  size_is = rw (T.N_is, s.accepted.block_is) refl

  told : (length prefixes ≡ N * (d * prefix_rows p d)) × (N ≤ most_padded (block p))
  unfolding blocks_sent
  told = rw T.N_is (held-told (most_padded (block p)) (d * prefix_rows p d) (length prefixes) (rw T.N_is at T.some))

  prefixes_long : length prefixes ≡ sent_bytes s d N
  unfolding prefix_bytes
  prefixes_long = told.0 ∙ mul_comm N (d * prefix_rows p d) ∙ sym (used_are s d N)

  pub sought_fits : (out : List ℕ) → length out ≡ N * s.block → OpeningFits s d N prefixes Sought 0 out
  sought_fits out same =
      record {
        blocks_high = omega (arith, told.1, padded_count_few (block p) max_message (le_refl max_message));
        room = size_small s d (length prefixes) N T.N_is;
        prefixes_long = prefixes_long;
        covered = omega arith;
        end = (T.some, refl, same);
      }

  pub counted_told : Counted s s.counts.now d
  counted_told = counted_own s d T.count

  -- P rows are all, and reach the blocks
  pub sought_turns : (P out : ℕ) → P ≡ sent_rows s d → TurnsReach s s.counts.now d P 0 out
  sought_turns P out P-is = turns_reach counted_told All 0 out P P-is

  -- the output is of another size
  pub other_size : (out : List ℕ) → (length out ≡ N * s.block → ⊥) → ReconstructPaddedCall p parties prefixes out (Err OutputLength) out
  other_size out other =
      stops _ _ _ _ OutputLength
      (to_blocks s parties T.count T.rising (pass_false 9 some_blocks (stop_other (λ e. other (e ∙ sym size_is)))))

  -- ---- what was opened

  module _ (out : List ℕ) (end : Option ℕ) (w : List ℕ) (same : length out ≡ N * s.block)
      (O : OpenedBy Sought s.block 0 (opened_string p parties N prefixes) out end w) where
    opened_is : opened_string p parties N prefixes ≡ opened_padded p parties prefixes
    unfolding opened_padded
    opened_is = rw T.N_is refl

    long : length (opened_string p parties N prefixes) ≡ N * s.block
    long = opened_long s s.counts.now (scheme_own s) parties T.count T.rising N prefixes

    found_end : FoundEnd (block p) (blocks_sent p d (length prefixes)) (opened_padded p parties prefixes) end
    found_end = rw (opened_is, T.N_is, s.accepted.block_is) at (O.end_is N T.some long)

    to_end : {vs qs : List ℕ} {o : Outcome} → Way vs qs o
        → Way vs
        (refusal p.n p.r p.z p.counts
        ∷ number_if 6 (not (occurs d p.counts))
        ∷ number_if 7 (readers_refused p.n parties)
        ∷ number_if 9 (eqb (blocks_sent p d (length prefixes)) 0)
        ∷ number_if 10 (not (eqb (length out) (blocks_sent p d (length prefixes) * block p)))
        ∷ qs) o
    to_end way = to_blocks s parties T.count T.rising (pass_false 9 some_blocks (pass_same 10 (same ∙ size_is) way))

    -- no end: refusal 11 applies, and the output is as it was
    pub ends_nowhere : end ≡ None → ReconstructPaddedCall p parties prefixes out (Err Padding) w
    ends_nowhere e =
        let unwritten : w ≡ out = O.output_is ∙ rw e refl in
        rw unwritten (stops _ _ _ _ Padding (to_end (stop_true (rw e at found_end))))

    -- an end: it is answered, with the prefix bytes used, and the blocks are written
    pub ends_at : (used P message : ℕ) → P ≡ sent_rows s d → used ≡ d * (P * N) → end ≡ Some message
        → ReconstructPaddedCall p parties prefixes out (Ok (record { used = used; length = message })) w
    unfolding reconstruct_padded_refusal reconstruct_padded_answer reconstruct_padded_output
    ends_at used P message P-is used_is e =
        let at = rw e at found_end in
        let none = numbered {q = 0} (to_end (pass_false 11 at.0 done)) in
        let bytes : used ≡ prefix_bytes p d (blocks_sent p d (length prefixes)) = used_is ∙ ap (λ (x : ℕ). d * (x * N)) P-is ∙ used_are s d N ∙ ap (prefix_bytes p d) T.N_is in
        let copied : w ≡ opened_padded p parties prefixes = O.output_is ∙ rw e (take_all (length out) _ (omega (arith, long, same)) ∙ opened_is) in (
          rw (at.1, bytes) (sym (answer_none _ _ none)),
          copied ∙ rw none refl,
        )
