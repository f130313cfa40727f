-- The examples that document 01 marks with a star, as one list in its order, and what it is for one of them to hold. `starred_hold` of
-- proofs/Starred.antt proves the list. Every claim goes through the definitions that the contracts of the public functions cite, so it is a
-- claim about their answers and outputs.
-- Assumes nothing.
use Rattle.std.specs.Prelude.{◌≡◌, List, [], ◌∷◌, map, ℕ, ◌*◌, length, get_or, Some}
use Rattle.lists.specs.Table.{tabulate, flat}
use Rattle.gf256.specs.Byte.{◌⊗◌, inverse}
use Rattle.scheme.specs.Outcome.{accepted, refused}
use Rattle.scheme.specs.BlockLength.{block_length}
use Rattle.scheme.specs.Check.{checked}
use Rattle.staircase.specs.Parameters.{Parameters, parameters, scheme_a, block, rows, prefix_rows, blocks_of, output_bytes}
use Rattle.staircase.specs.Rows.{rows_of}
use Rattle.staircase.specs.Opening.{block_row}
use Rattle.staircase.specs.Shares.{part_of}
use Rattle.dealer.specs.Split.{split_answer, split_output}
use Rattle.reader.specs.Reconstruct.{reconstruct_answer, reconstruct_output}
use Rattle.sharing.specs.RoundTrip.{handed}

-- what stands at a degree of a row, by its place among the block's: a key byte, or a message byte
pub data Origin : Type 0 where
  key : ℕ → Origin
  byte : ℕ → Origin

-- the byte that it is, in a block under its keys
abbrev pub standing : List ℕ → List ℕ → Origin → ℕ
standing bytes keys (key i) = get_or keys i 0
standing bytes keys (byte i) = get_or bytes i 0

pub data Claim : Type 0 where
  -- a times b is c
  product_is : (a b c : ℕ) → Claim
  -- the inverse of a is b
  inverse_is : (a b : ℕ) → Claim
  -- the check accepts the scheme and answers m and b
  accepts : Parameters → (m b : ℕ) → Claim
  -- the check refuses it with this number
  refuses : Parameters → (number : ℕ) → Claim
  -- its block length is m, whatever the limit
  needs : Parameters → (m : ℕ) → Claim
  -- P of each of its counts
  prefix-rows : Parameters → List ℕ → Claim
  -- the rows of every block, degree 0 first
  rows_are : Parameters → List (List Origin) → Claim
  -- the splitter writes these shares, those of parties 1 to n, and answers the bytes of one
  splits : Parameters → (message keys : List ℕ) → (shares : List (List ℕ)) → (bytes : ℕ) → Claim
  -- party s has this share of what the splitter writes
  gives : Parameters → (message keys : List ℕ) → (s : ℕ) → (share : List ℕ) → Claim
  -- these parties send these prefixes of what the splitter writes
  sends : Parameters → (message keys : List ℕ) → (parties prefixes : List ℕ) → Claim
  -- from the prefixes of these parties the opener writes the message, and answers the bytes used
  opens : Parameters → (parties prefixes : List ℕ) → (message : List ℕ) → (used : ℕ) → Claim

-- What an output held before the call is of no account, so it is any list of the right length.
abbrev pub Holds : Claim → Type 0
Holds (product_is a b c) = a ⊗ b ≡ c
Holds (inverse_is a b) = inverse a ≡ Some b
Holds (accepts p m b) = checked p.n p.r p.z p.counts ≡ accepted (p.n ∷ p.r ∷ p.z ∷ m ∷ b ∷ [])
Holds (refuses p number) = checked p.n p.r p.z p.counts ≡ refused number
Holds (needs p m) = block_length p.z p.counts ≡ m
Holds (prefix-rows p Ps) = map (prefix_rows p) p.counts ≡ Ps
-- both ways to tell the rows: listed group by group, and each coefficient by following copies home
Holds (rows_are p origins) =
    (bytes keys : List ℕ) → length bytes ≡ block p → length keys ≡ rows p * p.z
    → (rows_of (block p) p.z p.counts bytes keys ≡ map (map (standing bytes keys)) origins)
    × (tabulate (rows p) (block_row (block p) p.z p.counts bytes keys) ≡ map (map (standing bytes keys)) origins)
Holds (splits p message keys shares bytes) =
    (before : List ℕ) → length before ≡ length (flat shares)
    → (split_answer p (length message) (length keys) (length before) ≡ accepted (bytes ∷ []))
    × (split_output p message keys before ≡ flat shares)
Holds (gives p message keys s share) =
    (before : List ℕ) → length before ≡ output_bytes p (blocks_of p (length message))
    → part_of p (blocks_of p (length message)) s (split_output p message keys before) ≡ share
Holds (sends p message keys parties prefixes) =
    (before : List ℕ) → length before ≡ output_bytes p (blocks_of p (length message))
    → handed p (length message) parties (split_output p message keys before) ≡ prefixes
Holds (opens p parties prefixes message used) =
    (before : List ℕ) → length before ≡ length message
    → (reconstruct_answer p (length message) parties (length prefixes) (length before) ≡ accepted (used ∷ []))
    × (reconstruct_output p (length message) parties prefixes before ≡ message)

-- the ten examples; each entry is one of them with all that it claims. The comments have the document's words, in which a scheme is a plan, a
-- message a letter and a party a site.
abbrev pub starred : List (List Claim)
starred =
    -- 57 times 83 hex is c1 hex; 57 times 13 hex is fe hex.
    (product_is 0x57 0x83 0xc1 ∷ product_is 0x57 0x13 0xfe ∷ [])
    -- The inverse of 2 is 8d hex.
    ∷ (inverse_is 2 0x8d ∷ [])
    -- Plan A has m 2, b 2, P 1 and 2. Its rows are k0 + m0·x + m1·x² and k1 + m1·x.
    ∷ (accepts scheme_a 2 2 ∷ prefix-rows scheme_a (1 ∷ 2 ∷ []) ∷ rows_are scheme_a ((key 0 ∷ byte 0 ∷ byte 1 ∷ []) ∷ (key 1 ∷ byte 1 ∷ []) ∷ []) ∷ [])
    -- Plan A, letter 5 7, keys 9 4: shares 11 3, then 31 10, then 29 13.
    ∷ (splits scheme_a (5 ∷ 7 ∷ []) (9 ∷ 4 ∷ []) ((11 ∷ 3 ∷ []) ∷ (31 ∷ 10 ∷ []) ∷ (29 ∷ 13 ∷ []) ∷ []) 2 ∷ [])
    -- Sites 1, 2, 3 send 11, 31, 29: the letter 5 7, 3 bytes used.
    ∷ (sends scheme_a (5 ∷ 7 ∷ []) (9 ∷ 4 ∷ []) (1 ∷ 2 ∷ 3 ∷ []) (11 ∷ 31 ∷ 29 ∷ [])
    ∷ opens scheme_a (1 ∷ 2 ∷ 3 ∷ []) (11 ∷ 31 ∷ 29 ∷ []) (5 ∷ 7 ∷ []) 3
    ∷ [])
    -- Sites 1 and 3 send 11 3 29 13: the same letter, 4 bytes used.
    ∷ (sends scheme_a (5 ∷ 7 ∷ []) (9 ∷ 4 ∷ []) (1 ∷ 3 ∷ []) (11 ∷ 3 ∷ 29 ∷ 13 ∷ [])
    ∷ opens scheme_a (1 ∷ 3 ∷ []) (11 ∷ 3 ∷ 29 ∷ 13 ∷ []) (5 ∷ 7 ∷ []) 4
    ∷ [])
    -- Letter 0 0 under keys 31 10 gives site 2 the bytes 31 10, as above.
    ∷ (gives scheme_a (0 ∷ 0 ∷ []) (31 ∷ 10 ∷ []) 2 (31 ∷ 10 ∷ []) ∷ gives scheme_a (5 ∷ 7 ∷ []) (9 ∷ 4 ∷ []) 2 (31 ∷ 10 ∷ []) ∷ [])
    -- Letter 5 7 1, keys 9 4 2 6: site 1 holds 11 3 3 6.
    ∷ (gives scheme_a (5 ∷ 7 ∷ 1 ∷ []) (9 ∷ 4 ∷ 2 ∷ 6 ∷ []) 1 (11 ∷ 3 ∷ 3 ∷ 6 ∷ []) ∷ [])
    -- n 9, r 3, z 1, counts 9 8 7 6: m 840, b 168.
    ∷ (accepts (parameters 9 3 1 (9 ∷ 8 ∷ 7 ∷ 6 ∷ [])) 840 168 ∷ [])
    -- n 10, r 4, z 1, counts 10 9 8 6 needs m 2,520: refused 4.
    ∷ (needs (parameters 10 4 1 (10 ∷ 9 ∷ 8 ∷ 6 ∷ [])) 2520 ∷ refuses (parameters 10 4 1 (10 ∷ 9 ∷ 8 ∷ 6 ∷ [])) 4 ∷ [])
    ∷ []
