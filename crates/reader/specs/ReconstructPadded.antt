-- The opener of padded messages (document 02, a): its answer, and its output, the one string of whole blocks that has these prefixes, message and
-- padding. Nobody says how long the message is: the prefixes' length tells the number N of blocks, and the last block where the message ends.
-- Assumes nothing.
use Rattle.std.specs.Prelude.{◌≡◌, cond, not, List, [], ◌∷◌, ℕ, ◌*◌, eqb, length, Result, Ok, Err}
use Rattle.lists.specs.Each.{occurs}
use Rattle.scheme.specs.Outcome.{Outcome, accepted, refused, number_if, first_of, answer}
use Rattle.scheme.specs.Check.{refusal}
use Rattle.scheme.specs.Readers.{readers_refused}
use Rattle.scheme.specs.Padding.{most_padded, blocks_held}
use Rattle.family.specs.Padding.{end_place, end_refused}
use Rattle.staircase.specs.Parameters.{Parameters, block, prefix_rows}
use Rattle.staircase.specs.Exactness.{prefix_bytes, opened_string}
use Rattle.scheme.specs.declared.refusal.Refusal.{Refusal}
use Rattle.scheme.specs.Refusals.{number}
use Rattle.reader.specs.declared.padded.PaddedOpening.{PaddedOpening}

-- the cases of its answer: the prefix bytes used and the message's length L, or the number of the refusal
abbrev pub padded_outcome : Result PaddedOpening Refusal → Outcome
padded_outcome (Ok opening) = accepted (opening.used ∷ opening.length ∷ [])
padded_outcome (Err q) = refused (number q)

-- N of prefixes of so many bytes, of d parties; 0 where no message of an accepted length makes them
unfoldable pub blocks_sent : Parameters → ℕ → ℕ → ℕ
blocks_sent p d prefixes = blocks_held (most_padded (block p)) (d * prefix_rows p d) prefixes

-- the whole blocks that have these prefixes
unfoldable pub opened_padded : Parameters → List ℕ → List ℕ → List ℕ
opened_padded p parties prefixes = opened_string p parties (blocks_sent p (length parties) (length prefixes)) prefixes

-- the first refusal that applies to a list of parties, prefixes, and an output of so many bytes
unfoldable pub reconstruct_padded_refusal : Parameters → List ℕ → List ℕ → ℕ → ℕ
reconstruct_padded_refusal p parties prefixes out =
    let N : ℕ = blocks_sent p (length parties) (length prefixes) in
    first_of
    (refusal p.n p.r p.z p.counts
    ∷ number_if 6 (not (occurs (length parties) p.counts))
    ∷ number_if 7 (readers_refused p.n parties)
    ∷ number_if 9 (eqb N 0)
    ∷ number_if 10 (not (eqb out (N * block p)))
    ∷ number_if 11 (end_refused (block p) N (opened_padded p parties prefixes))
    ∷ [])

-- accepted: the number of prefix bytes used, and L
unfoldable pub reconstruct_padded_answer : Parameters → List ℕ → List ℕ → ℕ → Outcome
reconstruct_padded_answer p parties prefixes out =
    let N : ℕ = blocks_sent p (length parties) (length prefixes) in
    answer (reconstruct_padded_refusal p parties prefixes out)
    (prefix_bytes p (length parties) N ∷ end_place (block p) N (opened_padded p parties prefixes) ∷ [])

-- the output after the call: the opened blocks, or what it held before where the call is refused
unfoldable pub reconstruct_padded_output : Parameters → List ℕ → List ℕ → List ℕ → List ℕ
reconstruct_padded_output p parties prefixes before =
    cond (eqb (reconstruct_padded_refusal p parties prefixes (length before)) 0) (opened_padded p parties prefixes) before

-- a call of it, as its contract has it: what it answers, and what an output that held `before` holds after it
abbrev pub ReconstructPaddedCall : Parameters → List ℕ → List ℕ → List ℕ → Result PaddedOpening Refusal → List ℕ → Type 0
ReconstructPaddedCall p parties prefixes before a after =
    (padded_outcome a ≡ reconstruct_padded_answer p parties prefixes (length before)) × (after ≡ reconstruct_padded_output p parties prefixes before)
