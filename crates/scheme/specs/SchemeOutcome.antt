-- What the check answers, in document 01's terms.
-- Assumes nothing.
use Rattle.std.specs.Prelude.{[], ◌∷◌, Result, Ok, Err}
use Rattle.scheme.specs.declared.refusal.Refusal.{Refusal}
use Rattle.scheme.specs.declared.accepted.Scheme.{Scheme}
use Rattle.scheme.specs.Refusals.{number}
use Rattle.scheme.specs.Outcome.{Outcome, accepted, refused}

-- the cases of the check's answer: of an accepted scheme n, r, z, the block length m and the rows b
abbrev pub scheme_outcome : Result Scheme Refusal → Outcome
scheme_outcome (Ok s) = accepted (s.n ∷ s.r ∷ s.z ∷ s.block ∷ s.rows ∷ [])
scheme_outcome (Err q) = refused (number q)
