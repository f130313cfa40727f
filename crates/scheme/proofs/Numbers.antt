-- No two refusals have one number, and the numbers are from 1 to 17.
-- Assumes nothing.
use mathlib.Core.Path.{◌≡◌, refl, sym, ap, ◌∙◌}
use mathlib.Core.List.{List, [], ◌∷◌}
use Prim.Native.Nat.{◌-◌, ◌≤◌, ◌<◌}
use native.Mathlib.Omega.{arith}
use Rattle.std.specs.Prelude.{slice_index_or}
use Rattle.scheme.specs.declared.refusal.Refusal.{Refusal}
use Rattle.scheme.specs.declared.refusal.Refusal.TheVariants.{Parties, AbsentOrColluding, Counts, BlockLength, MessageLength, Readers, PartyNumbers, KeysLength, ShareLength, OutputLength, Padding, ArchiveCount, ArchiveEntries, EntryNumber, Range, Pool, TooFewShares}
use Rattle.scheme.specs.Refusals.{number}

-- all of them, each at the place before its number
refusals : List Refusal
refusals =
    Parties
    ∷ AbsentOrColluding
    ∷ Counts
    ∷ BlockLength
    ∷ MessageLength
    ∷ Readers
    ∷ PartyNumbers
    ∷ KeysLength
    ∷ ShareLength
    ∷ OutputLength
    ∷ Padding
    ∷ ArchiveCount
    ∷ ArchiveEntries
    ∷ EntryNumber
    ∷ Range
    ∷ Pool
    ∷ TooFewShares
    ∷ []

found : (q : Refusal) → slice_index_or refusals (number q - 1) Parties ≡ q
unfolding refusals
found Parties = refl
found AbsentOrColluding = refl
found Counts = refl
found BlockLength = refl
found MessageLength = refl
found Readers = refl
found PartyNumbers = refl
found KeysLength = refl
found ShareLength = refl
found OutputLength = refl
found Padding = refl
found ArchiveCount = refl
found ArchiveEntries = refl
found EntryNumber = refl
found Range = refl
found Pool = refl
found TooFewShares = refl

pub number_same : (k q : Refusal) → number k ≡ number q → k ≡ q
number_same k q e = sym (found k) ∙ ap (λ i. slice_index_or refusals (i - 1) Parties) e ∙ found q

pub number_between : (q : Refusal) → (0 < number q) × (number q ≤ 17)
number_between Parties = (omega arith, omega arith)
number_between AbsentOrColluding = (omega arith, omega arith)
number_between Counts = (omega arith, omega arith)
number_between BlockLength = (omega arith, omega arith)
number_between MessageLength = (omega arith, omega arith)
number_between Readers = (omega arith, omega arith)
number_between PartyNumbers = (omega arith, omega arith)
number_between KeysLength = (omega arith, omega arith)
number_between ShareLength = (omega arith, omega arith)
number_between OutputLength = (omega arith, omega arith)
number_between Padding = (omega arith, omega arith)
number_between ArchiveCount = (omega arith, omega arith)
number_between ArchiveEntries = (omega arith, omega arith)
number_between EntryNumber = (omega arith, omega arith)
number_between Range = (omega arith, omega arith)
number_between Pool = (omega arith, omega arith)
number_between TooFewShares = (omega arith, omega arith)
