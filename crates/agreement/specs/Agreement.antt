-- Whole shares of a list of parties (document 02, h): when they agree, what is rebuilt from them, and whom a disagreement names. The shares stand one
-- after another in the list's order, each of b × N bytes.
-- Assumes nothing.
use Rattle.std.specs.Prelude.{◌≡◌, Bool, true, cond, ◌≢◌, List, map, ℕ, ◌+◌, ◌-◌, ◌*◌, ◌≤◌, ◌<◌, ltb, eqb, length, get_or, take}
use Rattle.lists.specs.Each.{Each, Distinct}
use Rattle.lists.specs.Table.{joined, piece}
use Rattle.lists.specs.Without.{without, without_piece}
use Rattle.lists.specs.Differing.{differing}
use Rattle.lists.specs.FirstFrom.{first_from}
use Rattle.family.specs.Message.{Bytes}
use Rattle.family.specs.Family.{share_of_blocks}
use Rattle.family.specs.Exactness.{opened_blocks}
use Rattle.staircase.specs.Parameters.{Parameters, AcceptedScheme, Party, block, rows, prefix_rows, key_bytes, point}
use Rattle.staircase.specs.Shares.{staircase}
use Rattle.staircase.specs.Opening.{opened_keys}
use Rattle.staircase.specs.Exactness.{opened_string}

-- ---- what it is to agree

-- the share of party s of N whole blocks, whatever their padding, under their keys
abbrev pub share_in : Parameters → ℕ → List ℕ → List ℕ → ℕ → List ℕ
share_in p N blocks keys s = share_of_blocks (staircase p) N blocks keys s

-- these N whole blocks under these keys give each party of the list its share
abbrev pub GiveAll : Parameters → List ℕ → ℕ → List ℕ → List ℕ → List ℕ → Type 0
GiveAll p parties N shares blocks keys =
    (a : ℕ) → a < length parties → share_in p N blocks keys (get_or parties a 0) ≡ piece (rows p * N) a shares

-- some whole blocks, any padding allowed, and some keys give them all
pub record Agree (p : Parameters) (parties : List ℕ) (N : ℕ) (shares : List ℕ) : Type 0 where
  pub blocks : List ℕ
  pub keys : List ℕ
  pub blocks_are : Bytes (N * block p) blocks
  pub keys_are : Bytes (key_bytes p N) keys
  pub give : GiveAll p parties N shares blocks keys

-- all others agree without the share of party s, which is one of the list
pub record AgreeWithout (p : Parameters) (parties : List ℕ) (N : ℕ) (shares : List ℕ) (s : ℕ) : Type 0 where
  pub place : ℕ
  pub inside : place < length parties
  pub party_is : get_or parties place 0 ≡ s
  pub others : Agree p (without place parties) N (without_piece (rows p * N) place shares)

-- ---- the same as a test, and what is rebuilt

-- n − r: the fewest parties whose whole shares fix all others
abbrev pub enough : Parameters → ℕ
enough p = p.n - p.r

-- the first of the parties, as many as are enough, and their shares
abbrev pub first_parties : Parameters → List ℕ → List ℕ
first_parties p parties = take (enough p) parties

abbrev pub first_shares : Parameters → ℕ → List ℕ → List ℕ
first_shares p N shares = take (enough p * (rows p * N)) shares

-- the one string of whole blocks that has them, and its keys
unfoldable pub found_blocks : Parameters → List ℕ → ℕ → List ℕ → List ℕ
found_blocks p parties N shares = opened_string p (first_parties p parties) N (first_shares p N shares)

unfoldable pub found_keys : Parameters → List ℕ → ℕ → List ℕ → List ℕ
found_keys p parties N shares =
    opened_blocks (prefix_rows p (length (first_parties p parties)))
    (opened_keys (block p) (rows p) p.z p.counts (map (point p) (first_parties p parties))) N (first_shares p N shares)

-- the share that they give party s, in the list or not
unfoldable pub rebuilt : Parameters → List ℕ → ℕ → List ℕ → ℕ → List ℕ
rebuilt p parties N shares s = share_in p N (found_blocks p parties N shares) (found_keys p parties N shares) s

-- do they give all parties of the list their shares?
unfoldable pub agrees : Parameters → List ℕ → ℕ → List ℕ → Bool
agrees p parties N shares = eqb (differing shares (joined (length parties) (λ a. rebuilt p parties N shares (get_or parties a 0)))) 0

-- ---- whom a disagreement names

-- do all others agree without the one at place i of the list?
abbrev pub agrees_without : Parameters → List ℕ → ℕ → List ℕ → ℕ → Bool
agrees_without p parties N shares i = agrees p (without i parties) N (without_piece (rows p * N) i shares)

-- of shares that do not agree: the party without which all others do, where two more are lent than are enough; 0 where there is none, or fewer are lent
unfoldable pub named : Parameters → List ℕ → ℕ → List ℕ → ℕ
named p parties N shares =
    cond (ltb (length parties) (enough p + 2)) 0 (get_or parties (first_from (agrees_without p parties N shares) (length parties) 0) 0)

-- ---- what holds of them

-- whole shares, some bytes each, of distinct parties of an accepted scheme
pub record Lent (p : Parameters) (parties : List ℕ) (N : ℕ) (shares : List ℕ) : Type 0 where
  pub scheme : AcceptedScheme p
  pub distinct : Distinct parties
  pub inside : Each (Party p) parties
  pub bytes : Bytes (length parties * (rows p * N)) shares

-- of enough parties: the test decides agreement; blocks and keys that give the shares are the found ones, all keys too, and so give every party what is
-- rebuilt
pub record Agreement (p : Parameters) (parties : List ℕ) (N : ℕ) (shares : List ℕ) : Type 0 where
  pub tested : Agree p parties N shares → agrees p parties N shares ≡ true
  pub agreed : agrees p parties N shares ≡ true → Agree p parties N shares
  pub blocks_unique : (blocks keys : List ℕ) → Bytes (N * block p) blocks → Bytes (key_bytes p N) keys → GiveAll p parties N shares blocks keys
      → blocks ≡ found_blocks p parties N shares
  pub keys_unique : (blocks keys : List ℕ) → Bytes (N * block p) blocks → Bytes (key_bytes p N) keys → GiveAll p parties N shares blocks keys
      → keys ≡ found_keys p parties N shares
  pub share_rebuilt : (blocks keys : List ℕ) → Bytes (N * block p) blocks → Bytes (key_bytes p N) keys → GiveAll p parties N shares blocks keys
      → (s : ℕ) → rebuilt p parties N shares s ≡ share_in p N blocks keys s

-- of two more than enough that do not agree: there is at most one party without which all others do, and it is the one named; where none is, 0
pub record Named (p : Parameters) (parties : List ℕ) (N : ℕ) (shares : List ℕ) : Type 0 where
  pub one : (s s' : ℕ) → AgreeWithout p parties N shares s → AgreeWithout p parties N shares s' → s ≡ s'
  pub names : (s : ℕ) → AgreeWithout p parties N shares s → named p parties N shares ≡ s
  pub is : named p parties N shares ≢ 0 → AgreeWithout p parties N shares (named p parties N shares)

-- of an accepted scheme (`agreement` in proofs/Agreement.antt)
abbrev pub AgreementIs : Parameters → Type 0
AgreementIs p = (parties : List ℕ) (N : ℕ) (shares : List ℕ) → Lent p parties N shares → enough p ≤ length parties → Agreement p parties N shares

-- exactly n − r whole shares always agree (`enough-agree` in proofs/Agreement.antt), whatever their bytes
abbrev pub EnoughAgree : Parameters → Type 0
EnoughAgree p = (parties : List ℕ) (N : ℕ) (shares : List ℕ) → Lent p parties N shares → length parties ≡ enough p → Agree p parties N shares

-- of an accepted scheme (`names_one` in proofs/Named.antt)
abbrev pub NamedIs : Parameters → Type 0
NamedIs p =
    (parties : List ℕ) (N : ℕ) (shares : List ℕ) → Lent p parties N shares → enough p + 2 ≤ length parties → (Agree p parties N shares → ⊥)
    → Named p parties N shares

-- with fewer nobody is named (`names_none` in proofs/Named.antt)
abbrev pub NoneNamed : Parameters → Type 0
NoneNamed p = (parties : List ℕ) (N : ℕ) (shares : List ℕ) → length parties < enough p + 2 → named p parties N shares ≡ 0
