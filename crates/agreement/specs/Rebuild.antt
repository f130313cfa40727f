-- The call that rebuilds a party's share (document 02, h): its answer and its output. It is lent whole shares of some parties, the party whose share is
-- wanted, the copy that this party holds, empty where it holds none, and the output. Nobody says how long the message is: the shares' length tells the
-- number N of blocks, in either form of message. The call itself stands in `reader`.
-- Assumes nothing.
use Rattle.std.specs.Prelude.{Bool, cond, not, ◌&&◌, ◌||◌, List, [], ◌∷◌, ℕ, ◌*◌, ltb, eqb, length}
use Rattle.lists.specs.Differing.{differing}
use Rattle.scheme.specs.Outcome.{Outcome, accepted, refused, number_if, first_of}
use Rattle.scheme.specs.Check.{refusal}
use Rattle.scheme.specs.Readers.{readers_refused}
use Rattle.scheme.specs.Padding.{most_padded, blocks_held}
use Rattle.staircase.specs.Parameters.{Parameters, block, rows, share_bytes}
use Rattle.agreement.specs.Agreement.{enough, rebuilt, agrees, named}

-- N of the shares of so many parties, from the bytes of all; 0 where they are not whole shares of one number of blocks, or of more than a message of an
-- accepted length makes. A padded message makes the most: 16,384 ÷ m rounded down, plus 1
unfoldable pub blocks_lent : Parameters → ℕ → ℕ → ℕ
blocks_lent p parties shares = blocks_held (most_padded (block p)) (parties * rows p) shares

-- the wanted party, which may be one of the list, is outside 1 to n
unfoldable pub wanted_refused : ℕ → ℕ → Bool
wanted_refused n wanted = eqb wanted 0 || ltb n wanted

-- a copy is held, and of another length than a share
unfoldable pub held_refused : ℕ → ℕ → Bool
held_refused held share = not (eqb held 0) && not (eqb held share)

-- the first refusal that applies, but for 18, which is the last: it depends on the scheme, the parties and on lengths alone
unfoldable pub lent_refusal : Parameters → List ℕ → ℕ → ℕ → ℕ → ℕ → ℕ
lent_refusal p parties shares wanted held out =
    let N : ℕ = blocks_lent p (length parties) shares in
    first_of
    (refusal p.n p.r p.z p.counts
    ∷ number_if 7 (readers_refused p.n parties)
    ∷ number_if 7 (wanted_refused p.n wanted)
    ∷ number_if 17 (ltb (length parties) (enough p))
    ∷ number_if 9 (not (eqb shares (length parties * share_bytes p N)))
    ∷ number_if 9 (held_refused held (share_bytes p N))
    ∷ number_if 10 (not (eqb out (share_bytes p N)))
    ∷ [])

-- refusal 18, with the party that is named, or 0
abbrev pub disagreeing : ℕ → Outcome
disagreeing party = record { number = 18; values = party ∷ [] }

-- accepted: in how many bytes the held copy differs from the rebuilt share, 0 for an empty one
unfoldable pub rebuild_answer : Parameters → List ℕ → List ℕ → ℕ → List ℕ → ℕ → Outcome
rebuild_answer p parties shares wanted held out =
    let N : ℕ = blocks_lent p (length parties) (length shares) in
    let q : ℕ = lent_refusal p parties (length shares) wanted (length held) out in
    cond (eqb q 0)
    (cond (agrees p parties N shares) (accepted (differing held (rebuilt p parties N shares wanted) ∷ [])) (disagreeing (named p parties N shares)))
    (refused q)

-- the output after the call: the rebuilt share, or what it held before where the call is refused
unfoldable pub rebuild_output : Parameters → List ℕ → List ℕ → ℕ → ℕ → List ℕ → List ℕ
rebuild_output p parties shares wanted held before =
    let N : ℕ = blocks_lent p (length parties) (length shares) in
    cond (eqb (lent_refusal p parties (length shares) wanted held (length before)) 0)
    (cond (agrees p parties N shares) (rebuilt p parties N shares wanted) before)
    before
