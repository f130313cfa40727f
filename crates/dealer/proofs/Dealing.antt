-- What the splitter answers and writes, in both forms of message: they differ in the number of blocks and in the byte right after the message. The laws
-- are proved once, over both.
-- Assumes nothing.
use mathlib.Core.Path.{◌≡◌, refl, sym, ap, ◌∙◌}
use mathlib.Core.Bool.{cond, not}
use mathlib.Core.List.{List, [], ◌∷◌, ◌++◌}
use mathlib.Core.Logic.{⊎_elim}
use Prim.Native.Nat.{ℕ, ◌+◌, ◌*◌, ◌≤◌, ◌<◌}
use native.Mathlib.Nat.{div-le_self, mul-le-mul, mul_assoc, mul_comm, eq-zero-or-pos}
use native.Mathlib.Omega.{arith}
use lib.Dec.{ltb, eqb}
use lib.ListN.{length}
use borrow.Author.Tests.{ltb-false, eqb-true, eq-eqb, not-false}
use Rattle.scheme.specs.declared.accepted.Scheme.{Scheme}
use Rattle.scheme.specs.declared.refusal.Refusal.{Refusal}
use Rattle.scheme.specs.declared.forms.Form.{Form}
use Rattle.scheme.specs.declared.forms.Form.TheVariants.{Earlier, Padded}
use Rattle.scheme.specs.Facts.{SchemeIs}
use Rattle.scheme.specs.Limits.{max_parties, max_block, max_message, max_blocks}
use Rattle.scheme.specs.Refusals.{number}
use Rattle.scheme.specs.Forms.{blocks_of_length}
use Rattle.scheme.specs.Outcome.{outcome, accepted, refused, number_if, first_of, answer}
use Rattle.scheme.specs.Check.{refusal}
use Rattle.scheme.specs.Padding.{padded_count}
use Rattle.scheme.proofs.Laws.{Way, scheme_own, answer_none, refuses, done, pass, pass_within, pass_same, numbered, kept, first_none, first_if}
use Rattle.family.specs.Message.{padded}
use Rattle.family.specs.Padding.{marked}
use Rattle.family.specs.Family.{shares_of_blocks}
use Rattle.family.proofs.Shares.{length-shares}
use Rattle.staircase.specs.Parameters.{Parameters, AcceptedScheme, parameters_of, block, rows, blocks_of, padded_blocks_of, key_bytes, share_bytes, output_bytes, point}
use Rattle.staircase.specs.Shares.{staircase, shares, padded_shares}
use Rattle.lists.specs.Table.{tabulate, joined}
use Rattle.staircase.specs.Coefficients.{share_byte}
use Rattle.staircase.proofs.Bytes.{bytewise, shares_are, padded_shares_are}
use Rattle.staircase.proofs.Sizes.{rows_most, blocks_few}
use Rattle.rows.proofs.Scheme.{facts_of}
use Rattle.std.specs.Prelude.{Result, Ok, Err}
use Rattle.dealer.specs.Split.{split_refusal, split_answer, split_output}
use Rattle.dealer.specs.SplitPadded.{split_padded_refusal, split_padded_answer, split_padded_output}
use Rattle.dealer.specs.Forms.{blocks_in, shares_in, byte_after, SplitInCall}
use Rattle.dealer.specs.declared.source.Source.{Source}
use Rattle.dealer.specs.Sources.{filled_shares}

-- ---- a message of so many bytes that makes N blocks

abbrev refusals : Parameters → ℕ → ℕ → ℕ → ℕ → List ℕ
refusals p N message keys out =
    refusal p.n p.r p.z p.counts
    ∷ number_if 5 (ltb max_message message)
    ∷ number_if 8 (not (eqb keys (key_bytes p N)))
    ∷ number_if 10 (not (eqb out (output_bytes p N)))
    ∷ []

-- what holds where none applies
record Dealt (p : Parameters) (N message keys out : ℕ) : Type 0 where
  good : AcceptedScheme p
  short : message ≤ max_message
  enough : keys ≡ key_bytes p N
  room : out ≡ output_bytes p N

module _ (p : Parameters) (N message keys out : ℕ) where
  dealt : first_of (refusals p N message keys out) ≡ 0 → Dealt p N message keys out
  dealt e =
      let scheme = first_none _ _ e in
      let five = first_if _ _ _ scheme.1 in
      let eight = first_if _ _ _ five.1 in
      let ten = first_if _ _ _ eight.1 in
      record {
        good = scheme.0;
        short = ltb-false max_message message five.0;
        enough = eqb-true _ _ (not-false _ eight.0);
        room = eqb-true _ _ (not-false _ ten.0);
      }

  none : AcceptedScheme p → message ≤ max_message → keys ≡ key_bytes p N → out ≡ output_bytes p N → first_of (refusals p N message keys out) ≡ 0
  none good short enough room = numbered (pass good (pass_within 5 short (pass_same 8 enough (pass_same 10 room done))))

-- the shares of N blocks have n × N × b bytes
blocks_long : (p : Parameters) (N : ℕ) (blocks keys : List ℕ) → length (shares_of_blocks (staircase p) p.n N blocks keys) ≡ output_bytes p N
unfolding staircase
blocks_long p N blocks keys =
    length-shares (staircase p) N blocks keys p.n ∙ ap (λ (x : ℕ). p.n * x) (mul_comm (rows p) N) ∙ sym (mul_assoc p.n N (rows p))

-- what is new where no refusal applies, and old else, is as long as the old, if the new is
kept_long : (k : ℕ) (new old : List ℕ) → (k ≡ 0 → length new ≡ length old) → length (cond (eqb k 0) new old) ≡ length old
kept_long k new old same =
    ⊎_elim (λ (e : k ≡ 0). rw (eq-eqb k 0 e) (same e)) (λ (h : 0 < k). ap length (sym (kept new h))) (eq-zero-or-pos k)

-- ---- the two forms

module _ (p : Parameters) (good : AcceptedScheme p) (message keys out : ℕ) (short : message ≤ max_message) where
  pub none_applies : keys ≡ key_bytes p (blocks_of p message) → out ≡ output_bytes p (blocks_of p message) → split_refusal p message keys out ≡ 0
  unfolding split_refusal
  none_applies = none p _ message keys out good short

  pub padded_none_applies : keys ≡ key_bytes p (padded_blocks_of p message) → out ≡ output_bytes p (padded_blocks_of p message) → split_padded_refusal p message keys out ≡ 0
  unfolding split_padded_refusal
  padded_none_applies = none p _ message keys out good short

module _ (p : Parameters) (message keys out : List ℕ) where
  pub written : split_refusal p (length message) (length keys) (length out) ≡ 0 → split_output p message keys out ≡ shares p message keys
  unfolding split_output
  written e = simp e

  pub padded-written : split_padded_refusal p (length message) (length keys) (length out) ≡ 0 → split_padded_output p message keys out ≡ padded_shares p message keys
  unfolding split_padded_output
  padded-written e = simp e

  -- the output never changes its length
  pub output_long : length (split_output p message keys out) ≡ length out
  unfolding split_output split_refusal shares
  output_long =
      kept_long (split_refusal p (length message) (length keys) (length out)) (shares p message keys) out
      (λ e. blocks_long p (blocks_of p (length message)) (padded (block p) message) keys ∙ sym (dealt p (blocks_of p (length message)) (length message) (length keys) (length out) e).room)

  pub padded_output_long : length (split_padded_output p message keys out) ≡ length out
  unfolding split_padded_output split_padded_refusal padded_shares
  padded_output_long =
      kept_long (split_padded_refusal p (length message) (length keys) (length out)) (padded_shares p message keys) out
      (λ e. blocks_long p (padded_blocks_of p (length message)) (marked (block p) message) keys ∙ sym (dealt p (padded_blocks_of p (length message)) (length message) (length keys) (length out) e).room)

-- ---- the code's numbers, in a scheme that was accepted, of N blocks

module _ (s : Scheme) (N : ℕ) where
  -- the bytes of all shares, party by party
  pub output_parts : s.n * N * s.rows ≡ s.n * (s.rows * N)
  output_parts = mul_assoc s.n N s.rows ∙ ap (λ (x : ℕ). s.n * x) (mul_comm N s.rows)

  -- the products fit: n and z are at most 16
  module _ (few : N ≤ max_blocks) where
    b_most : s.rows ≤ max_block
    b_most = rw (scheme_own s).rows_is (rows_most (parameters_of s) (scheme_own s).passed)

    n_most : s.n ≤ max_parties
    n_most = (facts_of s _ (scheme_own s)).sizes.parties_high

    z_most : s.z ≤ max_parties
    z_most = omega (arith, (facts_of s _ (scheme_own s)).sizes)

    pub keys-part : N * s.z ≤ max_blocks * max_parties
    keys-part = mul-le-mul few z_most

    pub keys_whole : N * s.z * s.rows ≤ max_blocks * max_parties * max_block
    keys_whole = mul-le-mul keys-part b_most

    pub output-part : s.n * N ≤ max_parties * max_blocks
    output-part = mul-le-mul n_most few

    pub output_whole : s.n * N * s.rows ≤ max_parties * max_blocks * max_block
    output_whole = mul-le-mul output-part b_most

-- the blocks of a message that is not too long are few
pub blocks-few : (form : Form) (s : Scheme) (message : ℕ) → message ≤ max_message → blocks_of_length form s.block message ≤ max_blocks
unfolding padded_count
blocks-few Earlier s message short = blocks_few (parameters_of s) s (scheme_own s) message _ refl short
blocks-few Padded s message short = omega (arith, div-le_self message s.block, short)

-- what the code works out of s, which the check answered for the parameters p, of so many blocks N and so many bytes of a message; w is one of n and z
module _ (form : Form) (p : Parameters) (s : Scheme) (is : SchemeIs s p.n p.r p.z p.counts) (message N w : ℕ)
    (N_is : N ≡ blocks_of_length form s.block message) where
  blocks_are : N ≡ blocks_in form p message
  blocks_are = N_is ∙ ap (λ (m : ℕ). blocks_of_length form m message) is.block_is

  pub keys_are : w ≡ s.z → N * w * s.rows ≡ key_bytes p (blocks_in form p message)
  keys_are e = rw (e, blocks_are, is.z_is, is.rows_is)

  pub output_is : w ≡ s.n → w * N * s.rows ≡ output_bytes p (blocks_in form p message)
  output_is e = rw (e, blocks_are, is.n_is, is.rows_is)

  pub share_is : N * s.rows ≡ share_bytes p (blocks_in form p message)
  share_is = rw (blocks_are, is.rows_is)

-- ---- a call, in either form

-- what it answers and leaves
call : (form : Form) (p : Parameters) (message keys out : List ℕ) (a : Result ℕ Refusal) (w : List ℕ)
    → let N : ℕ = blocks_in form p (length message) in
    let q : ℕ = first_of (refusals p N (length message) (length keys) (length out)) in
    outcome a ≡ answer q (share_bytes p N ∷ []) → w ≡ cond (eqb q 0) (shares_in form p message keys) out → SplitInCall form p message keys out a w
unfolding split_refusal split_answer split_output split_padded_refusal split_padded_answer split_padded_output
call Earlier p message keys out a w e f = (e, f)
call Padded p message keys out a w e f = (e, f)

-- the shares, byte by byte
bytes_are : (form : Form) (p : Parameters) → AcceptedScheme p → (message keys : List ℕ)
    → let N : ℕ = blocks_in form p (length message) in
    length keys ≡ N * (rows p * p.z) → shares_in form p message keys ≡ bytewise p (message ++ byte_after form ∷ []) keys N
bytes_are Earlier p good message keys = shares_are p good message keys
bytes_are Padded p good message keys = padded_shares_are p good message keys

-- the table that the loops fill, by the numbers of the scheme
table_is : (p : Parameters) (N n z m b : ℕ) (ds bytes bytes' keys keys' : List ℕ) (q : Parameters)
    → n ≡ p.n → z ≡ p.z → m ≡ block p → b ≡ rows p → ds ≡ p.counts → bytes ≡ bytes' → keys ≡ keys'
    → joined n (λ a. tabulate (b * N) (share_byte m b z ds bytes keys N (point q (a + 1)))) ≡ bytewise p bytes' keys' N
unfolding point
table_is p N n z m b ds bytes bytes' keys keys' q e f g h i j k = rw (e, f, g, h, i, j, k)

module _ (form : Form) (p : Parameters) (message keys out : List ℕ) where
  -- it is refused
  pub stops : (q : Refusal)
      → let N : ℕ = blocks_in form p (length message) in
      Way (share_bytes p N ∷ []) (refusals p N (length message) (length keys) (length out)) (refused (number q))
      → SplitInCall form p message keys out (Err q) out
  stops q way =
      let r = refuses (shares_in form p message keys) way in
      call form p message keys out (Err q) out r.0 r.1

  -- or all is written that the loops write of a source
  module _ (x : Source) (is : SchemeIs x.scheme p.n p.r p.z p.counts) (counts : x.scheme.counts.now ≡ p.counts) (of : x.message.now ≡ message)
      (byte : x.end.byte ≡ byte_after form) (under : x.keys.now ≡ keys) where
    filled_are : length keys ≡ key_bytes p (blocks_in form p (length message))
        → filled_shares x (blocks_in form p (length message)) ≡ shares_in form p message keys
    filled_are enough =
        let N : ℕ = blocks_in form p (length message) in
        let own : length keys ≡ N * (rows p * p.z) = enough ∙ mul_assoc N p.z (rows p) ∙ ap (λ (k : ℕ). N * k) (mul_comm p.z (rows p)) in
        table_is p N _ _ _ _ _ _ _ _ _ _ is.n_is is.z_is is.block_is is.rows_is counts (ap (λ (m : List ℕ). m ++ x.end.byte ∷ []) of ∙ ap (λ (b : ℕ). message ++ b ∷ []) byte) under
        ∙ sym (bytes_are form p is.passed message keys own)

    pub writes : (N share : ℕ) (w : List ℕ) → N ≡ blocks_of_length form x.scheme.block (length message) → length message ≤ max_message
        → length keys ≡ key_bytes p (blocks_in form p (length message)) → length out ≡ output_bytes p (blocks_in form p (length message))
        → share ≡ N * x.scheme.rows → w ≡ filled_shares x N → SplitInCall form p message keys out (Ok share) w
    writes N share w N_is short enough room share_are w_is =
        let M : ℕ = blocks_in form p (length message) in
        let nothing : first_of (refusals p M (length message) (length keys) (length out)) ≡ 0 = none p M _ _ _ is.passed short enough room in
        let of_blocks : N ≡ M = blocks_are form p x.scheme is (length message) N 0 N_is in
        let written : w ≡ shares_in form p message keys = w_is ∙ ap (filled_shares x) of_blocks ∙ filled_are enough in
        call form p message keys out (Ok share) w
        (ap (λ (k : ℕ). accepted (k ∷ [])) (share_are ∙ share_is form p x.scheme is (length message) N 0 N_is) ∙ sym (answer_none _ _ nothing))
        (rw nothing written)
