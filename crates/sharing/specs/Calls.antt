-- Demand 1 of the request in words, call by call: the lines of document 01's table that apply to it in their order, what it answers by them, and what
-- it leaves, accepted or refused. A call is what its contract says of its answer and of what it writes or hands back, so these are statements about
-- every run of it, whatever it is given; those of the form without a scheme are the same at the default parameters. The sizes are written out as the
-- table has them: N is `blocks_of`, b is `rows` and P is `prefix_rows`. proofs/Calls.antt proves them. The check's own are `CheckedBy` in
-- crates/scheme/specs/Grounds.antt.
-- Assumes nothing.
use Rattle.std.specs.Prelude.{◌≡◌, ◌≢◌, List, [], ◌∷◌, ◌++◌, ℕ, ◌*◌, ◌<◌, length, take, Err, Ok, Result}
use Rattle.lists.specs.Each.{Each, Byte}
use Rattle.scheme.specs.declared.refusal.Refusal.{Refusal}
use Rattle.scheme.specs.Limits.{max_message}
use Rattle.scheme.specs.Outcome.{outcome}
use Rattle.scheme.specs.Grounds.{Ground, ground, scheme_grounds, AnsweredBy}
use Rattle.scheme.specs.Readers.{Rising}
use Rattle.staircase.specs.Parameters.{Parameters, rows, prefix_rows, blocks_of}
use Rattle.dealer.specs.Split.{SplitCall}
use Rattle.party.specs.Prefix.{prefix_answer, prefix_of}
use Rattle.reader.specs.Basis.{basis_answer, basis_of, BasisFor, AllZero}
use Rattle.reader.specs.Reconstruct.{ReconstructCall}
use Rattle.sharing.specs.Secrecy.{Wrote}
use Rattle.sharing.specs.Opening.{Opens}

-- ---- lines that several calls have

-- lines 1 to 4, those of the scheme
abbrev pub scheme_lines : Parameters → List Ground
scheme_lines p = scheme_grounds p.n p.r p.z p.counts

-- line 5: the message is longer than the limit
abbrev pub too_long : ℕ → Ground
too_long message = ground 5 (max_message < message)

-- line 6: d is not in the list of counts
abbrev pub no_count : Parameters → ℕ → Ground
no_count p d = ground 6 (Each (λ count. count ≢ d) p.counts)

-- line 7: the party numbers do not rise strictly, or one is outside 1 to n
abbrev pub not_rising : Parameters → List ℕ → Ground
not_rising p parties = ground 7 (Rising 0 p.n parties → ⊥)

-- ---- split

-- a message, keys and an output of so many bytes
abbrev pub split_lines : Parameters → ℕ → ℕ → ℕ → List Ground
split_lines p message keys out =
    scheme_lines p
    ++ (too_long message
    ∷ ground 8 (keys ≢ blocks_of p message * p.z * rows p)
    ∷ ground 10 (out ≢ p.n * blocks_of p message * rows p)
    ∷ [])

-- it answers N × b, the bytes of a share
pub record SplitInWords (p : Parameters) (message keys before : List ℕ) (a : Result ℕ Refusal) (after : List ℕ) : Type 0 where
  pub answered : AnsweredBy (split_lines p (length message) (length keys) (length before)) (blocks_of p (length message) * rows p) a
  pub wrote : Wrote p message keys before a after

abbrev pub EverySplit : Parameters → Type 0
EverySplit p =
    (message keys before : List ℕ) (a : Result ℕ Refusal) (after : List ℕ) → SplitCall p message keys before a after → SplitInWords p message keys before a after

-- ---- prefix: one operation answers the length, the other hands back the part

-- for the count d, of a share of so many bytes of a message of so many bytes
abbrev pub prefix_lines : Parameters → ℕ → ℕ → ℕ → List Ground
prefix_lines p message d share =
    scheme_lines p ++ (too_long message ∷ no_count p d ∷ ground 9 (share ≢ blocks_of p message * rows p) ∷ [])

-- the beginning of the share, as long as was answered; empty on a refusal
abbrev pub HandsBack : List ℕ → Result ℕ Refusal → List ℕ → Type 0
HandsBack share (Ok bytes) part = (part ≡ take bytes share) × (length part ≡ bytes)
HandsBack share (Err q) part = part ≡ []

-- it answers P × N
pub record PrefixInWords (p : Parameters) (message d : ℕ) (share : List ℕ) (a : Result ℕ Refusal) (part : List ℕ) : Type 0 where
  pub answered : AnsweredBy (prefix_lines p message d (length share)) (prefix_rows p d * blocks_of p message) a
  pub part_is : HandsBack share a part

abbrev pub EveryPrefix : Parameters → Type 0
EveryPrefix p =
    (message d : ℕ) (share : List ℕ) (a : Result ℕ Refusal) (part : List ℕ)
    → outcome a ≡ prefix_answer p message d (length share) → part ≡ prefix_of p message d share
    → PrefixInWords p message d share a part

-- ---- basis: one operation answers the number of the parties, the other the table

abbrev pub basis_lines : Parameters → List ℕ → List Ground
basis_lines p parties = scheme_lines p ++ (no_count p (length parties) ∷ not_rising p parties ∷ [])

-- the basis for the parties; all zero on a refusal
abbrev pub Tabulates : Parameters → List ℕ → Result ℕ Refusal → List (List ℕ) → Type 0
Tabulates p parties (Ok d) table = BasisFor p parties table
Tabulates p parties (Err q) table = AllZero table

pub record BasisInWords (p : Parameters) (parties : List ℕ) (a : Result ℕ Refusal) (table : List (List ℕ)) : Type 0 where
  pub answered : AnsweredBy (basis_lines p parties) (length parties) a
  pub table_is : Tabulates p parties a table

abbrev pub EveryBasis : Parameters → Type 0
EveryBasis p =
    (parties : List ℕ) (a : Result ℕ Refusal) (table : List (List ℕ)) → outcome a ≡ basis_answer p parties → table ≡ basis_of p parties
    → BasisInWords p parties a table

-- ---- reconstruct

-- a message of so many bytes, a list of parties, and prefixes and an output of so many bytes
abbrev pub reconstruct_lines : Parameters → ℕ → List ℕ → ℕ → ℕ → List Ground
reconstruct_lines p message parties prefixes out =
    scheme_lines p
    ++ (too_long message
    ∷ no_count p (length parties)
    ∷ not_rising p parties
    ∷ ground 9 (prefixes ≢ length parties * prefix_rows p (length parties) * blocks_of p message)
    ∷ ground 10 (out ≢ message)
    ∷ [])

-- it answers d × P × N, the bytes that it used
pub record ReconstructInWords (p : Parameters) (message : ℕ) (parties prefixes before : List ℕ) (a : Result ℕ Refusal) (after : List ℕ) : Type 0 where
  pub answered :
      AnsweredBy (reconstruct_lines p message parties (length prefixes) (length before)) (length parties * prefix_rows p (length parties) * blocks_of p message) a
  pub wrote : Opens p message parties prefixes before a after

-- with prefixes that are bytes
abbrev pub EveryReconstruct : Parameters → Type 0
EveryReconstruct p =
    (message : ℕ) (parties prefixes before : List ℕ) (a : Result ℕ Refusal) (after : List ℕ) → Each Byte prefixes
    → ReconstructCall p message parties prefixes before a after → ReconstructInWords p message parties prefixes before a after

-- ---- the words settle a call: two that fit them, given the same, answered and left the same. Refusals, answers and what a refused call leaves are settled
-- in words. What an accepted call leaves is settled by the definitions that the words cite, which other statements pin: `shares` by `Construction`,
-- `opened_string` by `Opened`, N by `FewestBlocks`, P and b by `SchemeFacts`, the points by `point_is`.

pub record WordsSettle (p : Parameters) : Type 0 where
  pub split : (message keys before : List ℕ) (a a' : Result ℕ Refusal) (after after' : List ℕ)
      → SplitInWords p message keys before a after → SplitInWords p message keys before a' after' → (a ≡ a') × (after ≡ after')
  pub prefix : (message d : ℕ) (share : List ℕ) (a a' : Result ℕ Refusal) (part part' : List ℕ)
      → PrefixInWords p message d share a part → PrefixInWords p message d share a' part' → (a ≡ a') × (part ≡ part')
  pub basis : (parties : List ℕ) (a a' : Result ℕ Refusal) (table table' : List (List ℕ))
      → BasisInWords p parties a table → BasisInWords p parties a' table' → (a ≡ a') × (table ≡ table')
  pub reconstruct : (message : ℕ) (parties prefixes before : List ℕ) (a a' : Result ℕ Refusal) (after after' : List ℕ)
      → ReconstructInWords p message parties prefixes before a after → ReconstructInWords p message parties prefixes before a' after'
      → (a ≡ a') × (after ≡ after')
