-- The numbers of the refusals, document 01's and document 02's. 18, of shares that do not agree, comes with a party: it stands where a share is rebuilt.
-- Assumes nothing.
use Rattle.std.specs.Prelude.{ℕ}
use Rattle.scheme.specs.declared.refusal.Refusal.{Refusal}
use Rattle.scheme.specs.declared.refusal.Refusal.TheVariants.{Parties, AbsentOrColluding, Counts, BlockLength, MessageLength, Readers, PartyNumbers, KeysLength, ShareLength, OutputLength, Padding, ArchiveCount, ArchiveEntries, EntryNumber, Range, Pool, TooFewShares}

abbrev pub number : Refusal → ℕ
number Parties = 1
number AbsentOrColluding = 2
number Counts = 3
number BlockLength = 4
number MessageLength = 5
number Readers = 6
number PartyNumbers = 7
number KeysLength = 8
number ShareLength = 9
number OutputLength = 10
number Padding = 11
number ArchiveCount = 12
number ArchiveEntries = 13
number EntryNumber = 14
number Range = 15
number Pool = 16
number TooFewShares = 17
