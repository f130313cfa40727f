-- What a split from a pool answers, writes and takes at each way out, in both forms of message.
-- Assumes nothing.
use mathlib.Core.Path.{◌≡◌, refl, sym, ap, ◌∙◌}
use mathlib.Core.Bool.{Bool, false, cond, not}
use mathlib.Core.List.{List, [], ◌∷◌}
use mathlib.Core.Logic.{⊎_elim}
use Prim.Native.Nat.{ℕ, ◌+◌, ◌-◌, ◌≤◌, ◌<◌}
use native.Mathlib.Nat.{eq-zero-or-pos}
use native.Mathlib.Omega.{arith}
use lib.Dec.{ltb, eqb}
use lib.ListN.{length, take, drop, length-drop}
use lib.Seq.{length-take-le}
use borrow.Author.Tests.{ltb-false, le-ltb, eqb-true, eq-eqb, not-false}
use Rattle.std.specs.Prelude.{Result, Ok, Err}
use Rattle.scheme.specs.declared.refusal.Refusal.{Refusal}
use Rattle.scheme.specs.declared.forms.Form.{Form}
use Rattle.scheme.specs.declared.forms.Form.TheVariants.{Earlier, Padded}
use Rattle.scheme.specs.Refusals.{number}
use Rattle.scheme.specs.Limits.{max_message}
use Rattle.scheme.specs.Outcome.{Outcome, refused, outcome, number_if, first_of, answer}
use Rattle.scheme.specs.Check.{refusal}
use Rattle.scheme.proofs.Laws.{Way, answers, kept, refuses, first_none, first_if, first-passed, told-refused, told-accepted}
use Rattle.staircase.specs.Parameters.{Parameters, AcceptedScheme, key_bytes, share_bytes, output_bytes}
use Rattle.dealer.specs.Split.{split_refusal, split_answer, split_output}
use Rattle.dealer.specs.SplitPadded.{split_padded_refusal, split_padded_answer, split_padded_output}
use Rattle.dealer.proofs.Laws.{none_applies, padded_none_applies, written as split-written, padded-written, output_long as split-output-long, padded_output_long}
use Rattle.key_pool.specs.declared.KeyPool.{KeyPool}
use Rattle.dealer.specs.Forms.{blocks_in, shares_in, SplitInCall}
use Rattle.key_pool.specs.Pool.{pool_refused, needed, pool_refusal, pool_answer, next_bytes, pool_output, moved_by, pool_after, PoolSplitCall, taken, took_if}
use Rattle.key_pool.proofs.Room.{Room, room, taken_none, taken_some}

-- ---- where no refusal applies

pub record Passed (form : Form) (p : Parameters) (message bytes : ℕ) (pool : KeyPool) (out : ℕ) : Type 0 where
  pub good : AcceptedScheme p
  pub short : message ≤ max_message
  pub room : Room pool bytes (needed form p message)
  pub fits : out ≡ output_bytes p (blocks_in form p message)

pub passed : (form : Form) (p : Parameters) (message bytes : ℕ) (pool : KeyPool) (out : ℕ) → pool_refusal form p message bytes pool out ≡ 0 → Passed form p message bytes pool out
unfolding pool_refusal
passed form p message bytes pool out e =
    let scheme = first_none _ _ e in
    let five = first_if _ _ _ scheme.1 in
    let sixteen = first_if _ _ _ five.1 in
    let ten = first_if _ _ _ sixteen.1 in
    record {
      good = scheme.0;
      short = ltb-false max_message message five.0;
      room = room pool bytes _ sixteen.0;
      fits = eqb-true _ _ (not-false _ ten.0);
    }

-- then all shares are written and their keys taken
module _ (form : Form) (p : Parameters) (message bytes : List ℕ) (pool : KeyPool) (before : List ℕ) where
  pub written : pool_refusal form p (length message) (length bytes) pool (length before) ≡ 0
      → pool_output form p message bytes pool before ≡ shares_in form p message (next_bytes pool (needed form p (length message)) bytes)
  unfolding pool_output
  written e = rw (eq-eqb _ 0 e)

-- and the output never changes its length
shares_long : (form : Form) (p : Parameters) (message keys before : List ℕ) → AcceptedScheme p → length message ≤ max_message → length keys ≡ needed form p (length message)
    → length before ≡ output_bytes p (blocks_in form p (length message)) → length (shares_in form p message keys) ≡ length before
shares_long Earlier p message keys before good short enough fits =
    ap length (sym (split-written p message keys before (none_applies p good (length message) (length keys) (length before) short enough fits))) ∙ split-output-long p message keys before
shares_long Padded p message keys before good short enough fits =
    ap length (sym (padded-written p message keys before (padded_none_applies p good (length message) (length keys) (length before) short enough fits)))
    ∙ padded_output_long p message keys before

keys_long : (pool : KeyPool) (bytes : List ℕ) (need : ℕ) → Room pool (length bytes) need → length (next_bytes pool need bytes) ≡ need
keys_long pool bytes need left = length-take-le need (drop pool.position bytes) (rw length-drop (omega (arith, left.same, left.inside)))

pub output_long : (form : Form) (p : Parameters) (message bytes : List ℕ) (pool : KeyPool) (before : List ℕ) → length (pool_output form p message bytes pool before) ≡ length before
unfolding pool_output
output_long form p message bytes pool before =
    ⊎_elim
    (λ (e : pool_refusal form p (length message) (length bytes) pool (length before) ≡ 0).
    let ok = passed form p (length message) (length bytes) pool (length before) e in
    rw (eq-eqb _ 0 e) (shares_long form p message _ before ok.good ok.short (keys_long pool bytes _ ok.room) ok.fits))
    (λ (h : 0 < pool_refusal form p (length message) (length bytes) pool (length before)). ap length (sym (kept _ h)))
    (eq-zero-or-pos (pool_refusal form p (length message) (length bytes) pool (length before)))

module _ (form : Form) (p : Parameters) (message bytes : ℕ) (pool : KeyPool) (out : ℕ) where
  pub moves : pool_refusal form p message bytes pool out ≡ 0 → pool_after form p message bytes pool out ≡ moved_by pool (needed form p message)
  unfolding pool_after
  moves e = rw (eq-eqb _ 0 e)

  -- and else none is
  pub stays : 0 < pool_refusal form p message bytes pool out → pool_after form p message bytes pool out ≡ pool
  unfolding pool_after
  stays h = sym (kept _ h)

-- ---- a call that stops before it splits

-- the ways through its refusals
abbrev pub Ways : Form → Parameters → ℕ → ℕ → KeyPool → ℕ → Outcome → Type 0
Ways form p message bytes pool out o =
    Way (share_bytes p (blocks_in form p message) ∷ [])
    (refusal p.n p.r p.z p.counts
    ∷ number_if 5 (ltb max_message message)
    ∷ number_if 16 (pool_refused pool bytes (needed form p message))
    ∷ number_if 10 (not (eqb out (output_bytes p (blocks_in form p message))))
    ∷ [])
    o

-- nothing is written, and none is taken
pub stopped : (form : Form) (p : Parameters) (message bytes : List ℕ) (pool : KeyPool) (before : List ℕ) (q : Refusal)
    → Ways form p (length message) (length bytes) pool (length before) (refused (number q)) → PoolSplitCall form p message bytes pool before (Err q) before pool
unfolding pool_refusal pool_answer pool_output pool_after
stopped form p message bytes pool before q w = record { answered = answers w; wrote = (refuses _ w).1; moved = (refuses _ w).1 }

-- what `lacks` answered of so many bytes, of as many
pub at-need : (pool : KeyPool) (bytes need need' : ℕ) (r t : Bool) → need ≡ need' → r ≡ pool_refused pool bytes need → r ≡ t → pool_refused pool bytes need' ≡ t
at-need pool bytes need need' r t e is told = ap (pool_refused pool bytes) (sym e) ∙ sym is ∙ told

-- ---- a call that splits: past the scheme, the message's length and 16 the splitter's answer, which then tests the output alone

-- the splitter's refusals, in either form
abbrev split_refusals : Form → Parameters → ℕ → ℕ → ℕ → List ℕ
split_refusals form p message keys out =
    refusal p.n p.r p.z p.counts
    ∷ number_if 5 (ltb max_message message)
    ∷ number_if 8 (not (eqb keys (key_bytes p (blocks_in form p message))))
    ∷ number_if 10 (not (eqb out (output_bytes p (blocks_in form p message))))
    ∷ []

split_says : (form : Form) (p : Parameters) (message keys before : List ℕ) (a : Result ℕ Refusal) (after : List ℕ) → SplitInCall form p message keys before a after
    → (outcome a ≡ answer (first_of (split_refusals form p (length message) (length keys) (length before))) (share_bytes p (blocks_in form p (length message)) ∷ []))
    × (after ≡ cond (eqb (first_of (split_refusals form p (length message) (length keys) (length before))) 0) (shares_in form p message keys) before)
unfolding split_refusal split_answer split_output split_padded_refusal split_padded_answer split_padded_output
split_says Earlier p message keys before a after C = C
split_says Padded p message keys before a after C = C

module _ (form : Form) (p : Parameters) (message bytes : List ℕ) (pool : KeyPool) (before : List ℕ) (good : AcceptedScheme p) (short : length message ≤ max_message)
    (has : pool_refused pool (length bytes) (needed form p (length message)) ≡ false) where
  abbrev need : ℕ
  need = needed form p (length message)

  abbrev keys : List ℕ
  keys = next_bytes pool need bytes

  left : Room pool (length bytes) need
  left = room pool (length bytes) need has

  -- the test of the output
  abbrev ten : ℕ
  ten = first_of (number_if 10 (not (eqb (length before) (output_bytes p (blocks_in form p (length message))))) ∷ [])

  split-passed : first_of (split_refusals form p (length message) (length keys) (length before)) ≡ ten
  split-passed =
      first-passed _ _ good ∙ first-passed _ _ (rw (le-ltb max_message (length message) short)) ∙ first-passed _ _ (rw (eq-eqb _ _ (keys_long pool bytes need left)))

  pool_passed : pool_refusal form p (length message) (length bytes) pool (length before) ≡ ten
  unfolding pool_refusal
  pool_passed = first-passed _ _ good ∙ first-passed _ _ (rw (le-ltb max_message (length message) short)) ∙ first-passed _ _ (rw has)

  -- the bytes that it took, by its answer
  moved_on : (a : Result ℕ Refusal) → outcome a ≡ answer ten (share_bytes p (blocks_in form p (length message)) ∷ []) → taken pool (took_if a need) ≡ cond (eqb ten 0) (moved_by pool need) pool
  moved_on (Ok share) e = taken_some pool need left.inside ∙ rw (eq-eqb ten 0 (told-accepted (Ok share) ten _ e refl).0)
  moved_on (Err q) e = taken_none pool ∙ kept _ (told-refused (Err q) ten _ e refl)

  came : (a : Result ℕ Refusal) (after : List ℕ) → SplitInCall form p message keys before a after
      → PoolSplitCall form p message bytes pool before a after (taken pool (took_if a need))
  unfolding pool_answer pool_output pool_after
  came a after C =
      let says = split_says form p message keys before a after C in
      let told : outcome a ≡ answer ten (share_bytes p (blocks_in form p (length message)) ∷ []) = says.0 ∙ rw split-passed in
      record {
        answered = told ∙ rw pool_passed;
        wrote = says.1 ∙ rw (split-passed, pool_passed);
        moved = moved_on a told ∙ rw pool_passed;
      }

-- the same of the numbers that the code has: so many bytes as it found, and the part of the pool that it lends
pub came_out : (form : Form) (p : Parameters) (message bytes : List ℕ) (pool : KeyPool) (before : List ℕ) (found : ℕ) → found ≡ needed form p (length message)
    → AcceptedScheme p → length message ≤ max_message → pool_refused pool (length bytes) found ≡ false
    → (a : Result ℕ Refusal) (after : List ℕ)
    → SplitInCall form p message (take (pool.position + found - pool.position) (drop pool.position bytes)) before a after
    → PoolSplitCall form p message bytes pool before a after (taken pool (took_if a found))
came_out form p message bytes pool before found e good short has a after C =
    let part : pool.position + found - pool.position ≡ found = omega arith in
    rw e (came form p message bytes pool before good short (rw e at has) a after (rw (part, e) at C))

-- and where the splitter refuses none is taken
pub refused_out : (form : Form) (p : Parameters) (message bytes : List ℕ) (pool : KeyPool) (before : List ℕ) (q : Refusal) (after : List ℕ)
    → PoolSplitCall form p message bytes pool before (Err q) after (taken pool 0) → PoolSplitCall form p message bytes pool before (Err q) after pool
refused_out form p message bytes pool before q after C = rw (taken_none pool) at C
