-- Whole shares of enough parties of a staircase scheme: the test decides agreement, and blocks, keys and every other share are determined.
-- Assumes nothing.
use mathlib.Core.Path.{◌≡◌, refl, sym, ap, ap₂, ◌∙◌}
use mathlib.Core.Bool.{true}
use mathlib.Core.List.{List, map}
use Prim.Native.Nat.{ℕ, ◌-◌, ◌*◌, ◌≤◌, ◌<◌}
use native.Mathlib.Nat.{le_of_eq, mul-le-mul_right}
use native.Mathlib.Omega.{arith}
use lib.ListN.{length, get_or, take}
use lib.Seq.{length-take-le, get_or-take}
use borrow.Author.Tests.{eqb-true, eq-eqb}
use Rattle.lists.specs.Each.{Each, Distinct, Byte}
use Rattle.lists.specs.Table.{joined, piece}
use Rattle.lists.specs.Differing.{differing}
use Rattle.lists.proofs.Each.{each_take, distinct-take}
use Rattle.lists.proofs.Joined.{length-joined, piece-joined}
use Rattle.lists.proofs.Piece.{joined_is, piece-take}
use Rattle.lists.proofs.Differing.{differing_self, differing_none}
use Rattle.scheme.specs.Check.{rows_of_count, rows_of_block}
use Rattle.scheme.proofs.Laws.{accepted}
use Rattle.family.specs.Message.{Bytes}
use Rattle.family.specs.Family.{share_of_blocks}
use Rattle.family.specs.Exactness as family
use Rattle.family.specs.Exactness.{opened_blocks}
use Rattle.family.proofs.Exactness.{has_gives, opened_has, blocks_exact}
use Rattle.family.proofs.Message.{joined_bytes}
use Rattle.family.proofs.Shares.{length_share}
use Rattle.staircase.specs.Parameters.{Parameters, AcceptedScheme, Party, block, rows, point, key_bytes}
use Rattle.staircase.specs.Shares.{staircase}
use Rattle.staircase.specs.Opening.{opened_block, opened_keys}
use Rattle.staircase.specs.Exactness.{opened_string}
use Rattle.staircase.proofs.Exactness.{staircase_exact}
use Rattle.staircase.proofs.WholeBlocks.{keys-number}
use Rattle.agreement.specs.Agreement.{share_in, GiveAll, Agree, enough, first_parties, first_shares, found_blocks, found_keys, rebuilt, agrees, Lent, Agreement, AgreementIs, EnoughAgree}
use Rattle.agreement.proofs.Sources.{all-rows, keys-same, same_blocks, same_keys}

-- the keys of N blocks, with the factors in document 01's order
pub key_number : (p : Parameters) (N : ℕ) → N * (rows p * p.z) ≡ key_bytes p N
unfolding staircase
key_number p N = keys-number p N

-- enough parties, exactly
module _ (p : Parameters) (A : AcceptedScheme p) (core : List ℕ) (many : length core ≡ enough p) (apart : Distinct core) (inside : Each (Party p) core) where
  -- they send all rows
  pub all-sent : rows_of_count (block p) p.z (length core) ≡ rows p
  unfolding rows_of_count rows_of_block
  all-sent = rw many

  abbrev opens : (ℕ → ℕ → ℕ) → List ℕ
  opens = opened_block (block p) p.z p.counts (map (point p) core)

  abbrev opens_keys : (ℕ → ℕ → ℕ) → List ℕ
  opens_keys = opened_keys (block p) (rows p) p.z p.counts (map (point p) core)

  one_block : family.BlockExact (staircase p) core (rows p) (rows p * p.z) opens opens_keys
  one_block =
      let f = accepted p.n p.r p.z p.counts A in
      rw all-sent at (staircase_exact p A (length p.counts - 1) (omega (arith, f.some)) core inside apart (many ∙ sym f.bottom))

  pub whole_exact : (N : ℕ) → family.Exact (staircase p) core (rows p) (rows p * p.z) opens N
  unfolding staircase
  whole_exact N = blocks_exact (staircase p) core (rows p) (rows p * p.z) opens opens_keys (le_of_eq refl) one_block N

  -- the opened blocks under the opened keys have the shares
  module _ (N : ℕ) (shares : List ℕ) (bytes : Bytes (length core * (rows p * N)) shares) where
    abbrev opened_all : List ℕ
    opened_all = opened_blocks (rows p) opens N shares

    abbrev opened_all_keys : List ℕ
    opened_all_keys = opened_blocks (rows p) opens_keys N shares

    pub opened_bytes : Bytes (N * block p) opened_all
    unfolding staircase
    opened_bytes = (whole_exact N).bytes shares

    pub opened_keys-bytes : Bytes (N * (rows p * p.z)) opened_all_keys
    unfolding opened_blocks staircase
    opened_keys-bytes = joined_bytes (rows p * p.z) N _ (λ t _. one_block.keys-bytes _)

    pub opened_gives : family.Gives (staircase p) core (rows p) N opened_all opened_all_keys shares
    unfolding opened_blocks staircase
    opened_gives =
        has_gives (staircase p) core (rows p) (le_of_eq refl) N shares opened_all opened_all_keys bytes.0
        (opened_has (staircase p) core (rows p) (rows p * p.z) opens opens_keys (le_of_eq refl) one_block N shares bytes)

-- blocks and keys that give enough parties the same shares give every party the same
module _ (p : Parameters) (A : AcceptedScheme p) (among : List ℕ) (many : enough p ≤ length among) (apart : Distinct among) (inside : Each (Party p) among)
    (N : ℕ) (blocks blocks' keys keys' : List ℕ) (B : Bytes (N * block p) blocks) (B' : Bytes (N * block p) blocks') (K : Bytes (key_bytes p N) keys)
    (K' : Bytes (key_bytes p N) keys') (same : Each (λ s. share_in p N blocks keys s ≡ share_in p N blocks' keys' s) among) where
  pub same_share : (s : ℕ) → share_in p N blocks keys s ≡ share_in p N blocks' keys' s
  unfolding staircase
  same_share s =
      let first : List ℕ = take (enough p) among in
      let X = whole_exact p A first (length-take-le (enough p) among many) (distinct-take (enough p) among apart) (each_take (Party p) (enough p) among inside) N in
      let W : Bytes (N * (rows p * p.z)) keys = rw (key_number p N) K in
      let W' : Bytes (N * (rows p * p.z)) keys' = rw (key_number p N) K' in
      let alike = each_take (λ s. share_in p N blocks keys s ≡ share_in p N blocks' keys' s) (enough p) among same in
      ap₂ (λ (b k : List ℕ). share_in p N b k s)
      (same_blocks (staircase p) N first _ X blocks blocks' keys keys' B B' W W' alike)
      (same_keys (staircase p) N first _ X blocks blocks' keys keys' B B' W W' alike)

-- enough parties, and more
module _ (p : Parameters) (parties : List ℕ) (N : ℕ) (shares : List ℕ) (L : Lent p parties N shares) (many : enough p ≤ length parties) where
  abbrev core : List ℕ
  core = first_parties p parties

  abbrev first : List ℕ
  first = first_shares p N shares

  pub core_long : length core ≡ enough p
  core_long = length-take-le (enough p) parties many

  core-apart : Distinct core
  core-apart = distinct-take (enough p) parties L.distinct

  core_inside : Each (Party p) core
  core_inside = each_take (Party p) (enough p) parties L.inside

  pub room : enough p * (rows p * N) ≤ length shares
  room = rw L.bytes.0 (mul-le-mul_right (rows p * N) many)

  first-bytes : Bytes (length core * (rows p * N)) first
  first-bytes =
      (length-take-le (enough p * (rows p * N)) shares room ∙ ap (λ (c : ℕ). c * (rows p * N)) (sym core_long), each_take Byte (enough p * (rows p * N)) shares L.bytes.1)

  blocks_are : found_blocks p parties N shares ≡ opened_blocks (rows p) (opened_block (block p) p.z p.counts (map (point p) core)) N first
  unfolding found_blocks opened_string
  blocks_are = rw (all-sent p L.scheme core core_long core-apart core_inside)

  keys_are : found_keys p parties N shares ≡ opened_blocks (rows p) (opened_keys (block p) (rows p) p.z p.counts (map (point p) core)) N first
  unfolding found_keys
  keys_are = rw (all-sent p L.scheme core core_long core-apart core_inside)

  pub found-bytes : Bytes (N * block p) (found_blocks p parties N shares)
  found-bytes = rw blocks_are (opened_bytes p L.scheme core core_long core-apart core_inside N first first-bytes)

  pub found_keys-bytes : Bytes (N * (rows p * p.z)) (found_keys p parties N shares)
  found_keys-bytes = rw keys_are (opened_keys-bytes p L.scheme core core_long core-apart core_inside N first first-bytes)

  pub found_gives : family.Gives (staircase p) core (rows p) N (found_blocks p parties N shares) (found_keys p parties N shares) first
  found_gives = rw (blocks_are, keys_are) (opened_gives p L.scheme core core_long core-apart core_inside N first first-bytes)

  -- what gives all gives the first
  module _ (blocks keys : List ℕ) (B : Bytes (N * block p) blocks) (K : Bytes (key_bytes p N) keys) (G : GiveAll p parties N shares blocks keys) where
    gives_first : family.Gives (staircase p) core (rows p) N blocks keys first
    unfolding staircase
    gives_first a h =
        let l : a < enough p = rw core_long at h in
        all-rows (staircase p) N blocks keys (get_or core a 0)
        ∙ ap (share_of_blocks (staircase p) N blocks keys) (get_or-take (enough p) parties a 0 l)
        ∙ G a (omega arith)
        ∙ sym (piece-take (rows p * N) a (enough p) shares l room)

    keys_whole : Bytes (N * (rows p * p.z)) keys
    keys_whole = rw (key_number p N) K

    pub blocks_found : blocks ≡ found_blocks p parties N shares
    unfolding staircase
    blocks_found =
        (whole_exact p L.scheme core core_long core-apart core_inside N).unique first blocks keys B keys_whole gives_first ∙ sym blocks_are

    pub keys_found : keys ≡ found_keys p parties N shares
    unfolding staircase
    keys_found =
        keys-same (staircase p) N core _ (whole_exact p L.scheme core core_long core-apart core_inside N) first blocks _ keys _ B found-bytes keys_whole found_keys-bytes
        gives_first found_gives

    pub rebuilt_is : (s : ℕ) → rebuilt p parties N shares s ≡ share_in p N blocks keys s
    unfolding rebuilt
    rebuilt_is s = ap₂ (λ (b k : List ℕ). share_in p N b k s) (sym blocks_found) (sym keys_found)

    pub gives_tested : agrees p parties N shares ≡ true
    unfolding agrees
    gives_tested =
        let same : shares ≡ joined (length parties) (λ a. rebuilt p parties N shares (get_or parties a 0)) =
        joined_is shares (length parties) (rows p * N) _ 0 L.bytes.0 (λ a h. sym (G a h) ∙ sym (rebuilt_is (get_or parties a 0))) in
        eq-eqb _ 0 (ap (differing shares) (sym same) ∙ differing_self shares)

  pub rebuilt_long : (s : ℕ) → length (rebuilt p parties N shares s) ≡ rows p * N
  unfolding rebuilt staircase
  rebuilt_long s = length_share (staircase p) N (found_blocks p parties N shares) (found_keys p parties N shares) s

  pub tested_gives : agrees p parties N shares ≡ true → GiveAll p parties N shares (found_blocks p parties N shares) (found_keys p parties N shares)
  unfolding agrees rebuilt
  tested_gives e a h =
      let f : ℕ → List ℕ = λ a. rebuilt p parties N shares (get_or parties a 0) in
      let long : (a : ℕ) → a < length parties → length (rebuilt p parties N shares (get_or parties a 0)) ≡ rows p * N = λ a _. rebuilt_long (get_or parties a 0) in
      let same = differing_none shares (joined (length parties) f) (L.bytes.0 ∙ sym (length-joined (length parties) (rows p * N) f long)) (eqb-true _ 0 e) in
      sym (piece-joined (length parties) (rows p * N) f long a h) ∙ ap (piece (rows p * N) a) (sym same)

  -- the first of them, as many as are enough, have what is rebuilt
  pub first-rebuilt : (a : ℕ) → a < enough p → rebuilt p parties N shares (get_or parties a 0) ≡ piece (rows p * N) a shares
  unfolding rebuilt staircase
  first-rebuilt a h =
      let found : List ℕ = found_blocks p parties N shares in
      let keys : List ℕ = found_keys p parties N shares in
      ap (share_in p N found keys) (sym (get_or-take (enough p) parties a 0 h))
      ∙ sym (all-rows (staircase p) N found keys (get_or core a 0))
      ∙ found_gives a (rw core_long h)
      ∙ piece-take (rows p * N) a (enough p) shares h room

  found-agree : GiveAll p parties N shares (found_blocks p parties N shares) (found_keys p parties N shares) → Agree p parties N shares
  found-agree G =
      record {
        blocks = found_blocks p parties N shares;
        keys = found_keys p parties N shares;
        blocks_are = found-bytes;
        keys_are = rw (key_number p N) at found_keys-bytes;
        give = G;
      }

  pub only_enough : length parties ≡ enough p → Agree p parties N shares
  unfolding rebuilt
  only_enough e = found-agree (λ a h. first-rebuilt a (rw e at h))

  pub agreement_of : Agreement p parties N shares
  agreement_of =
      record {
        tested = λ G. gives_tested G.blocks G.keys G.blocks_are G.keys_are G.give;
        agreed = λ e. found-agree (tested_gives e);
        blocks_unique = blocks_found;
        keys_unique = keys_found;
        share_rebuilt = rebuilt_is;
      }

pub agreement : (p : Parameters) → AgreementIs p
agreement p parties N shares L many = agreement_of p parties N shares L many

pub enough-agree : (p : Parameters) → EnoughAgree p
enough-agree p parties N shares L many = only_enough p parties N shares L (le_of_eq (sym many)) many
