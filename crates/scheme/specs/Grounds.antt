-- Document 01's table of refusals in words. A ground is a line of it: a number, and what has to be so for it to be given. The lines of a call in their
-- order settle its answer: it is accepted exactly if none applies, and else refused with the number of the first that does. The definitions that the
-- contracts cite are tests, as the code makes them; that they answer by these words is proved, both ways (`check_answers` in proofs/Grounds.antt, and
-- for the other calls crates/sharing/specs/Calls.antt), so a test that refused more or less than the table would not prove.
-- Assumes nothing.
use Rattle.std.specs.Prelude.{◌≡◌, ◌⊎◌, ◌↔◌, ◌≢◌, List, [], ◌∷◌, ℕ, ◌+◌, ◌-◌, ◌*◌, ◌≤◌, ◌<◌, length, get_or, take, Result, Ok, Err}
use Rattle.lists.specs.Each.{Each}
use Rattle.scheme.specs.declared.refusal.Refusal.{Refusal}
use Rattle.scheme.specs.declared.accepted.Scheme.{Scheme}
use Rattle.scheme.specs.Refusals as refusals
use Rattle.scheme.specs.Limits.{max_parties, max_counts, max_block}
use Rattle.scheme.specs.BlockLength.{Least}
use Rattle.scheme.specs.Check.{first, last, refusal}

pub record Ground : Type 1 where
  pub number : ℕ
  pub applies : Type 0

abbrev pub ground : ℕ → Type 0 → Ground
ground number applies = record { number = number; applies = applies }

-- no ground applies
abbrev pub NoneApplies : List Ground → Type 0
NoneApplies grounds = Each (λ g. g.applies → ⊥) grounds

-- q is the number of the first ground that applies
abbrev pub FirstApplies : ℕ → List Ground → Type 0
FirstApplies q [] = ⊥
FirstApplies q (g ∷ grounds) = (g.applies × (q ≡ g.number)) ⊎ ((g.applies → ⊥) × FirstApplies q grounds)

-- a call that answers one number: what its answer is, by its grounds and the value that it answers when it is accepted
pub record AnsweredBy (grounds : List Ground) (value : ℕ) (a : Result ℕ Refusal) : Type 0 where
  pub accepts : ((v : ℕ) × (a ≡ Ok v)) ↔ NoneApplies grounds
  pub refuses : (q : Refusal) → (a ≡ Err q) ↔ FirstApplies (refusals.number q) grounds
  pub value_is : (v : ℕ) → a ≡ Ok v → v ≡ value

-- ---- the scheme's place

-- the counts are none or too many, do not fall strictly, start above n, or do not end at n − r
abbrev pub CountsWrong : ℕ → ℕ → List ℕ → Type 0
CountsWrong n r ds =
    (length ds ≡ 0)
    ⊎ (max_counts < length ds)
    ⊎ ((i : ℕ) × (i + 1 < length ds) × (get_or ds i 0 ≤ get_or ds (i + 1) 0))
    ⊎ (n < first ds)
    ⊎ (last ds ≢ n - r)

-- the smallest number that every d − z divides, document 01's m, is above the limit
abbrev pub BlockTooLong : ℕ → List ℕ → Type 0
BlockTooLong z ds = (m : ℕ) × Least z ds m × (max_block < m)

abbrev pub scheme_grounds : ℕ → ℕ → ℕ → List ℕ → List Ground
scheme_grounds n r z ds =
    ground 1 ((n < 2) ⊎ (max_parties < n))
    ∷ ground 2 ((z ≡ 0) ⊎ (n ≤ r + z))
    ∷ ground 3 (CountsWrong n r ds)
    ∷ ground 4 (BlockTooLong z ds)
    ∷ []

-- refusal 4: where 1 to 3 do not apply, it is given exactly if the smallest number that every d − z divides is above the limit
abbrev pub RefusedFour : ℕ → ℕ → ℕ → List ℕ → Type 0
RefusedFour n r z ds =
    NoneApplies (take 3 (scheme_grounds n r z ds)) → (m : ℕ) → Least z ds m → (refusal n r z ds ≡ 4) ↔ (max_block < m)

-- what an accepted scheme is
pub record Admissible (n r z : ℕ) (ds : List ℕ) : Type 0 where
  pub parties_low : 2 ≤ n
  pub parties_high : n ≤ max_parties
  pub threshold : 1 ≤ z
  pub room : r + z < n
  -- 1 to 8 counts, which fall strictly from at most n to n − r
  pub some : 1 ≤ length ds
  pub most : length ds ≤ max_counts
  pub falling : (i : ℕ) → i + 1 < length ds → get_or ds (i + 1) 0 < get_or ds i 0
  pub top : first ds ≤ n
  pub bottom : last ds ≡ n - r
  -- the least common multiple of all d − z is within the limit
  pub block : (m : ℕ) × Least z ds m × (m ≤ max_block)

-- the check's answer: accepted exactly if the scheme is admissible, and refused with q exactly if that is the first ground that applies. Of an accepted
-- scheme it has the parameters, m and b
pub record CheckedBy (n r z : ℕ) (ds : List ℕ) (a : Result Scheme Refusal) : Type 0 where
  pub accepts : ((s : Scheme) × (a ≡ Ok s)) ↔ Admissible n r z ds
  pub refuses : (q : Refusal) → (a ≡ Err q) ↔ FirstApplies (refusals.number q) (scheme_grounds n r z ds)
  pub n_is : (s : Scheme) → a ≡ Ok s → s.n ≡ n
  pub r_is : (s : Scheme) → a ≡ Ok s → s.r ≡ r
  pub z_is : (s : Scheme) → a ≡ Ok s → s.z ≡ z
  pub block_is : (s : Scheme) → a ≡ Ok s → Least z ds s.block
  pub rows_is : (s : Scheme) → a ≡ Ok s → (n - r - z) * s.rows ≡ s.block
