-- The check that also answers how many multiples it tried (document 02, d). The search for m tries the multiples of the first d − z, rising, and ends
-- at m or as soon as it passes the limit.
-- Assumes nothing.
use Rattle.std.specs.Prelude.{◌≡◌, cond, List, ◌∷◌, ℕ, ◌+◌, ◌-◌, ◌*◌, ◌/◌, ◌≤◌, ◌<◌, eqb, Option, Some, None, Result, Ok, Err}
use Rattle.scheme.specs.declared.TriedAnswer.{TriedAnswer}
use Rattle.scheme.specs.declared.refusal.Refusal.{Refusal}
use Rattle.scheme.specs.declared.refusal.Refusal.TheVariants.{Parties, AbsentOrColluding, Counts, BlockLength}
use Rattle.scheme.specs.declared.accepted.Scheme.{Scheme}
use Rattle.scheme.specs.declared.search.Search.{Search}
use Rattle.scheme.specs.Limits.{max_block}
use Rattle.scheme.specs.Refusals as refusals
use Rattle.scheme.specs.Outcome.{Outcome}
use Rattle.scheme.specs.SchemeOutcome.{scheme_outcome}
use Rattle.scheme.specs.BlockLength.{block_length}
use Rattle.scheme.specs.Check.{first, parties_refused, thresholds_refused, counts_refused, refusal, rows_of_count, checked}
use Rattle.scheme.specs.Grounds.{CheckedBy}

-- a number beside an outcome, in front of its values: by document 02, d, beside a refusal too
abbrev pub beside : ℕ → Outcome → Outcome
beside tried o = record { number = o.number; values = tried ∷ o.values }

-- the answer in document 01's terms: the number tried, beside what is said of the check
abbrev pub tried_outcome : TriedAnswer → Outcome
tried_outcome a = beside a.tried (scheme_outcome a.answer)

-- how many multiples of the first d − z are tried, where q is the refusal: P of the first count where m is found, on refusal 4 the limit ÷
-- (first d − z) rounded down, on 1 to 3 the number 0
unfoldable pub tried_at : ℕ → ℕ → List ℕ → ℕ
tried_at q z ds = cond (eqb q 0) (rows_of_count (block_length z ds) z (first ds)) (cond (eqb q 4) (max_block / (first ds - z)) 0)

-- what this check answers
unfoldable pub checked_tried : ℕ → ℕ → ℕ → List ℕ → Outcome
checked_tried n r z ds = beside (tried_at (refusal n r z ds) z ds) (checked n r z ds)

-- the tests before the search: refusals 1 to 3
abbrev pub tests : ℕ → ℕ → ℕ → List ℕ → Result Unit Refusal
tests n r z ds =
    cond (parties_refused n) (Err Parties) (cond (thresholds_refused n r z) (Err AbsentOrColluding) (cond (counts_refused n r ds) (Err Counts) (Ok tt)))

-- what the search comes to: m and how many multiples were tried, or that m is above the limit and how many were tried up to there
abbrev pub SearchedTo : ℕ → List ℕ → Option ℕ → ℕ → Type 0
SearchedTo z ds (Some m) tried = (m ≡ block_length z ds) × (m ≤ max_block) × (tried ≡ rows_of_count m z (first ds))
SearchedTo z ds None tried = (max_block < block_length z ds) × (tried ≡ max_block / (first ds - z))

abbrev pub Searched : ℕ → List ℕ → Search → Type 0
Searched z ds a = SearchedTo z ds a.block a.tried

-- in words: what is answered of the scheme is the check's answer, and the number tried is that of the multiples of the first d − z up to m where m is
-- found, of those up to the limit where m is above it, and 0 where another refusal comes first. Proved as `tried_answers` in proofs/Tried.antt
pub record TriedBy (n r z : ℕ) (ds : List ℕ) (a : TriedAnswer) : Type 0 where
  pub check : CheckedBy n r z ds a.answer
  pub found : (s : Scheme) → a.answer ≡ Ok s → a.tried * (first ds - z) ≡ s.block
  pub passed : a.answer ≡ Err BlockLength → (a.tried * (first ds - z) ≤ max_block) × (max_block < (a.tried + 1) * (first ds - z))
  pub none : (q : Refusal) → a.answer ≡ Err q → refusals.number q < 4 → a.tried ≡ 0
