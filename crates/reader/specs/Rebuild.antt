-- A call that rebuilds a party's share (document 02, h). What it answers and writes is defined in crates/agreement/specs/Rebuild.antt.
-- Assumes nothing.
use Rattle.std.specs.Prelude.{◌≡◌, List, [], ◌∷◌, ℕ, length, Result, Ok, Err}
use Rattle.scheme.specs.Outcome.{Outcome, accepted, refused}
use Rattle.staircase.specs.Parameters.{Parameters}
use Rattle.agreement.specs.Rebuild.{disagreeing, rebuild_answer, rebuild_output}
use Rattle.scheme.specs.Refusals.{number}
use Rattle.reader.specs.declared.rebuilding.RebuildRefusal.{RebuildRefusal}
use Rattle.reader.specs.declared.rebuilding.RebuildRefusal.TheVariants.{Disagreeing, Refused}

-- the cases of its answer: in how many bytes the held copy differs; refusal 18 with the party named; or the number of another refusal
abbrev pub rebuild_outcome : Result ℕ RebuildRefusal → Outcome
rebuild_outcome (Ok different) = accepted (different ∷ [])
rebuild_outcome (Err (Disagreeing party)) = disagreeing party
rebuild_outcome (Err (Refused q)) = refused (number q)

-- a call of it, as its contract has it: what it answers, and what an output that held `before` holds after it
abbrev pub RebuildCall : Parameters → List ℕ → List ℕ → ℕ → List ℕ → List ℕ → Result ℕ RebuildRefusal → List ℕ → Type 0
RebuildCall p parties shares wanted held before a after =
    (rebuild_outcome a ≡ rebuild_answer p parties shares wanted held (length before))
    × (after ≡ rebuild_output p parties shares wanted (length held) before)
