-- Demand 3 of the request for runs of splits on one key pool (document 02, f), all bytes of the pool being the key string that is changed; and that lengths
-- alone decide how a run goes. The steps of a run are the contract's own (crates/key_pool/specs/Run.antt). proofs/PoolSecrecy.antt proves them.
-- Assumes nothing.
use Rattle.std.specs.Prelude.{◌≡◌, ◌⊎◌, List, [], ◌∷◌, map, ℕ, ◌≤◌, length}
use Rattle.lists.specs.Each.{Each, Byte}
use Rattle.scheme.specs.Limits.{max_message}
use Rattle.family.specs.Message.{Bytes}
use Rattle.staircase.specs.Parameters.{Parameters, Party, padded_blocks_of}
use Rattle.staircase.specs.Shares.{part_of}
use Rattle.scheme.specs.declared.forms.Form.{Form}
use Rattle.scheme.specs.declared.forms.Form.TheVariants.{Earlier, Padded}
use Rattle.key_pool.specs.declared.KeyPool.{KeyPool}
use Rattle.dealer.specs.Forms.{blocks_in}
use Rattle.key_pool.specs.Run.{Call, Step, calls_of, IsAccepted, Promised, Run, loaded}
use Rattle.sharing.specs.Secrecy.{written}

-- ---- two runs that differ in the bytes of their messages

-- the lengths of two messages are alike: equal, or of padded messages any two accepted ones that make equally many blocks
abbrev pub LikeLengths : Form → Parameters → ℕ → ℕ → Type 0
LikeLengths Earlier p message message' = message ≡ message'
LikeLengths Padded p message message' =
    (message ≡ message') ⊎ ((message ≤ max_message) × (message' ≤ max_message) × (padded_blocks_of p message ≡ padded_blocks_of p message'))

-- two calls with one form, one scheme and lengths that are alike
pub record LikeCall (c d : Call) : Type 0 where
  pub form : c.form ≡ d.form
  pub scheme : c.scheme ≡ d.scheme
  pub message : LikeLengths c.form c.scheme (length c.message) (length d.message)
  pub before : length c.before ≡ length d.before

-- as many calls, each like its counterpart
abbrev pub Alike : List Call → List Call → Type 0
Alike [] [] = Unit {0}
Alike [] (d ∷ ds) = ⊥
Alike (c ∷ cs) [] = ⊥
Alike (c ∷ cs) (d ∷ ds) = LikeCall c d × Alike cs ds

-- messages of bytes
abbrev pub ByteMessages : List Call → Type 0
ByteMessages calls = Each (λ (c : Call). Each Byte c.message) calls

-- for each call a choice of its own of at most z of its parties; none may be chosen, as for a call that is refused
abbrev pub Chosen : List Call → List (List ℕ) → Type 0
Chosen [] [] = Unit {0}
Chosen [] (parties ∷ more) = ⊥
Chosen (c ∷ cs) [] = ⊥
Chosen (c ∷ cs) (parties ∷ more) = Each (Party c.scheme) parties × (length parties ≤ c.scheme.z) × Chosen cs more

-- ---- what they see

-- party s's bytes of what a call wrote
abbrev pub seen_by : ℕ → Call → List ℕ → List ℕ
seen_by s c after = part_of c.scheme (blocks_in c.form c.scheme (length c.message)) s after

-- of two runs, call by call: where the first's was accepted so was the second's, and each of the chosen parties is written the same bytes
pub data SameSeen : List (List ℕ) → List Step → List Step → Type 0 where
  none : SameSeen [] [] []
  one : {parties : List ℕ} {more : List (List ℕ)} {s t : Step} {ss ts : List Step}
      → (IsAccepted s.answer → IsAccepted t.answer × Each (λ party. seen_by party s.call s.after ≡ seen_by party t.call t.after) parties)
      → SameSeen more ss ts
      → SameSeen (parties ∷ more) (s ∷ ss) (t ∷ ts)

-- one change of the whole pool, of so many bytes, under which they do
pub record SecretRuns (size : ℕ) (first second : List Call) (parties : List (List ℕ)) : Type 0 where
  pub change : List ℕ → List ℕ
  -- into the strings of so many bytes, one_to_one and onto them
  pub into : (bytes : List ℕ) → Bytes size bytes → Bytes size (change bytes)
  pub one_to_one : (bytes bytes' : List ℕ) → Bytes size bytes → Bytes size bytes' → change bytes ≡ change bytes' → bytes ≡ bytes'
  pub onto : (bytes : List ℕ) → Bytes size bytes → (from : List ℕ) × Bytes size from × (change from ≡ bytes)
  -- whatever the pool's bytes: of the first run on them and the second on the changed ones
  pub same : (bytes : List ℕ) → Bytes size bytes → (ss ts : List Step) (end end' : KeyPool)
      → calls_of ss ≡ first → calls_of ts ≡ second → Run bytes (loaded size) ss end → Run (change bytes) (loaded size) ts end'
      → SameSeen parties ss ts

-- for every two runs from the loading of the pool, refused calls included, and every choice
abbrev pub RunSecrecy : Type 0
RunSecrecy =
    (size : ℕ) (first second : List Call) → Alike first second → ByteMessages first → ByteMessages second → (parties : List (List ℕ)) → Chosen first parties
    → SecretRuns size first second parties

-- ---- how they end

-- two calls that are alike, accepted or not, on pools of one length and with one record, whatever the slices hold: the same answer, equally many bytes
-- written, and the same record after them
abbrev pub PoolOutcomeFromLengths : Type 0
PoolOutcomeFromLengths =
    (bytes bytes' : List ℕ) (s t : Step) → length bytes ≡ length bytes' → LikeCall s.call t.call → s.found ≡ t.found
    → Promised bytes s → Promised bytes' t
    → (s.answer ≡ t.answer) × (written s.answer s.after ≡ written t.answer t.after) × (s.next ≡ t.next)

-- so two runs of such calls, from one record, go alike to the end: answers, bytes written and records, call by call
abbrev pub RunOutcomeFromLengths : Type 0
RunOutcomeFromLengths =
    (bytes bytes' : List ℕ) (start : KeyPool) (ss ts : List Step) (end end' : KeyPool) → length bytes ≡ length bytes' → Alike (calls_of ss) (calls_of ts)
    → Run bytes start ss end → Run bytes' start ts end'
    → (map (λ (s : Step). s.answer) ss ≡ map (λ (s : Step). s.answer) ts)
    × (map (λ (s : Step). written s.answer s.after) ss ≡ map (λ (s : Step). written s.answer s.after) ts)
    × (map (λ (s : Step). s.next) ss ≡ map (λ (s : Step). s.next) ts)
    × (end ≡ end')
