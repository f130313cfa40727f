-- Demand 3 for runs on one key pool. The secrecy of one call, cited for each accepted one, gives a change of the bytes that it takes; side by side, with the
-- bytes that no call takes left as they are, these are the change of the whole pool. And how a run goes depends on the forms, the schemes and the lengths
-- alone.
-- Assumes nothing.
use Rattle.std.specs.Prelude.{Result}
use mathlib.Core.Path.{◌≡◌, refl, sym, ap, ◌∙◌}
use mathlib.Core.Logic.{⊎_elim}
use mathlib.Core.List.{List, [], ◌∷◌, ◌++◌, append_assoc}
use Prim.Native.Nat.{ℕ, ◌+◌, ◌-◌, ◌≤◌, ◌<◌}
use native.Mathlib.Nat.{eq-zero-or-pos}
use native.Mathlib.Omega.{arith}
use lib.Dec.{ltb}
use lib.ListN.{length, take, drop, replicate, length-append, length-replicate, take-append-drop}
use lib.Seq.{take_at, drop_at}
use borrow.Author.Tests.{le-ltb, ltb-false}
use Rattle.lists.specs.Each.{Each, Byte}
use Rattle.scheme.specs.declared.refusal.Refusal.{Refusal}
use Rattle.scheme.specs.Limits.{max_message}
use Rattle.scheme.specs.Outcome.{outcome}
use Rattle.family.specs.Message.{Bytes}
use Rattle.staircase.specs.Parameters.{Parameters, AcceptedScheme, Party, output_bytes}
use Rattle.staircase.specs.Shares.{part_of}
use Rattle.dealer.proofs.Laws.{written as split-written, padded-written}
use Rattle.scheme.specs.declared.forms.Form.{Form}
use Rattle.scheme.specs.declared.forms.Form.TheVariants.{Earlier, Padded}
use Rattle.key_pool.specs.declared.KeyPool.{KeyPool}
use Rattle.dealer.specs.Forms.{blocks_in, shares_in}
use Rattle.key_pool.specs.Pool.{needed, pool_refusal, pool_answer, pool_after, next_bytes, moved_by, PoolSplitCall}
use Rattle.key_pool.specs.Run.{Call, needs, Step, calls_of, IsAccepted, Promised, Run, loaded}
use Rattle.key_pool.proofs.Laws.{passed, written as pool-written, moves, stays, output_long, refusal_of, told_none, none_told}
use Rattle.sharing.specs.PoolSecrecy.{LikeLengths, LikeCall, Alike, ByteMessages, Chosen, seen_by, SameSeen, none, one, RunSecrecy, PoolOutcomeFromLengths, RunOutcomeFromLengths}
use Rattle.sharing.proofs.Secrecy.{secrecy, alike}
use Rattle.sharing.proofs.PaddedSecrecy.{padded_secrecy}
use Rattle.sharing.proofs.Changes.{Change, unchanged, front, back, both}

-- ---- lengths that are alike decide the same

like_long : (form : Form) (p : Parameters) (message message' : ℕ) → LikeLengths form p message message' → ltb max_message message ≡ ltb max_message message'
like_long Earlier p message message' e = ap (ltb max_message) e
like_long Padded p message message' like =
    ⊎_elim (λ (e : message ≡ message'). ap (ltb max_message) e) (λ h. le-ltb max_message message h.0 ∙ sym (le-ltb max_message message' h.1)) like

like_blocks : (form : Form) (p : Parameters) (message message' : ℕ) → LikeLengths form p message message' → blocks_in form p message ≡ blocks_in form p message'
like_blocks Earlier p message message' e = ap (blocks_in Earlier p) e
like_blocks Padded p message message' like = ⊎_elim (λ (e : message ≡ message'). ap (blocks_in Padded p) e) (λ h. h.2) like

-- ---- one message: a change of its keys under which the parties are written the same, of either form

record MessageSecret (form : Form) (p : Parameters) (first second parties : List ℕ) : Type 0 where
  change : List ℕ → List ℕ
  changes : Change (needed form p (length first)) change
  same : (keys : List ℕ) → Bytes (needed form p (length first)) keys
      → Each (λ s. part_of p (blocks_in form p (length first)) s (shares_in form p first keys) ≡ part_of p (blocks_in form p (length first)) s (shares_in form p second (change keys))) parties

module _ (p : Parameters) (A : AcceptedScheme p) (first second : List ℕ) (b₁ : Each Byte first) (b₂ : Each Byte second) (short : length first ≤ max_message)
    (parties : List ℕ) (in-range : Each (Party p) parties) (few : length parties ≤ p.z) where
  message_secret : (form : Form) → LikeLengths form p (length first) (length second) → MessageSecret form p first second parties
  message_secret Earlier e =
      let S = secrecy p A first second b₁ b₂ e short parties in-range few in
      let out : List ℕ = replicate (output_bytes p (blocks_in Earlier p (length first))) 0 in
      let l : length out ≡ output_bytes p (blocks_in Earlier p (length first)) = length-replicate {A = ℕ} _ 0 in
      record {
        change = S.change;
        changes = record { into = S.into; one_to_one = S.one_to_one; onto = S.onto };
        same =
            λ keys K.
            let ok = S.accepted keys out out K l l in
            rw (split-written p first keys out ok.0, split-written p second (S.change keys) out ok.1) at (S.same keys out out K l l);
      }
  message_secret Padded like =
      let short' : length second ≤ max_message = ltb-false max_message _ (sym (like_long Padded p (length first) (length second) like) ∙ le-ltb max_message _ short) in
      let S = padded_secrecy p A first second b₁ b₂ short short' (like_blocks Padded p (length first) (length second) like) parties in-range few in
      let out : List ℕ = replicate (output_bytes p (blocks_in Padded p (length first))) 0 in
      let l : length out ≡ output_bytes p (blocks_in Padded p (length first)) = length-replicate {A = ℕ} _ 0 in
      record {
        change = S.change;
        changes = record { into = S.into; one_to_one = S.one_to_one; onto = S.onto };
        same =
            λ keys K.
            let ok = S.accepted keys out out K l l in
            rw (padded-written p first keys out ok.0, padded-written p second (S.change keys) out ok.1) at (S.same keys out out K l l);
      }

-- ---- one call

-- what is promised of it
abbrev PromisedOf : Call → List ℕ → KeyPool → Result ℕ Refusal → List ℕ → KeyPool → Type 0
PromisedOf c bytes start a after next = PoolSplitCall c.form c.scheme c.message bytes start c.before a after next

like_refusal : (c d : Call) (size : ℕ) (pool : KeyPool) → LikeCall c d → refusal_of c size pool ≡ refusal_of d size pool
unfolding pool_refusal
like_refusal c d size pool like =
    rw (← like.form, ← like.scheme, ← like.before, like_long c.form c.scheme _ _ like.message, like_blocks c.form c.scheme _ _ like.message)

call_blocks : (c d : Call) → LikeCall c d → blocks_in c.form c.scheme (length c.message) ≡ blocks_in d.form d.scheme (length d.message)
call_blocks c d like = rw (← like.form, ← like.scheme) (like_blocks c.form c.scheme _ _ like.message)

like_needs : (c d : Call) → LikeCall c d → needs c ≡ needs d
like_needs c d like = rw (call_blocks c d like, like.scheme)

-- ---- runs, from a record on: a change of the bytes from its position on, whatever stands before them

record RunSecret (size : ℕ) (start : KeyPool) (first second : List Call) (parties : List (List ℕ)) : Type 0 where
  change : List ℕ → List ℕ
  changes : Change (size - start.position) change
  same : (used used' rest : List ℕ) → length used ≡ start.position → length used' ≡ start.position → Bytes (size - start.position) rest
      → (ss ts : List Step) (end end' : KeyPool) → calls_of ss ≡ first → calls_of ts ≡ second → Run (used ++ rest) start ss end → Run (used' ++ change rest) start ts end'
      → SameSeen parties ss ts

-- no call: nothing is seen
ended : (size : ℕ) (start : KeyPool) → RunSecret size start [] [] []
ended size start = record { change = λ bytes. bytes; changes = unchanged (size - start.position); same = none_seen }
  where
    none_seen : (used used' rest : List ℕ) → length used ≡ start.position → length used' ≡ start.position → Bytes (size - start.position) rest
        → (ss ts : List Step) (end end' : KeyPool) → calls_of ss ≡ [] → calls_of ts ≡ [] → Run (used ++ rest) start ss end → Run (used' ++ rest) start ts end' → SameSeen [] ss ts
    none_seen used used' rest u u' B [] [] end end' e e' R R' = none
    none_seen used used' rest u u' B [] (t ∷ ts) end end' e e' R R' = absurd (let z : ◌≡◌ {A = ℕ} 0 1 = cc in let x : ⊥ = omega arith in x)
    none_seen used used' rest u u' B (s ∷ ss) ts end end' e e' R R' = absurd (let z : ◌≡◌ {A = ℕ} 0 1 = cc in let x : ⊥ = omega arith in x)

-- the pool's bytes, before the position and from it on
whole : (size position : ℕ) (used rest : List ℕ) → position ≤ size → length used ≡ position → Bytes (size - position) rest → length (used ++ rest) ≡ size
whole size position used rest h u B = length-append used rest ∙ omega (arith, B.0)

module _ (size : ℕ) (start : KeyPool) (inside : start.position ≤ size) (c d : Call) (like : LikeCall c d) (parties : List ℕ) (cs ds : List Call) (more : List (List ℕ)) where
  -- a refused call takes nothing and shows nothing
  module _ (refuses : 0 < refusal_of c size start) (tail : RunSecret size start cs ds more) where
    refused-same : (used used' rest : List ℕ) → length used ≡ start.position → length used' ≡ start.position → Bytes (size - start.position) rest
        → (ss ts : List Step) (end end' : KeyPool) → calls_of ss ≡ c ∷ cs → calls_of ts ≡ d ∷ ds
        → Run (used ++ rest) start ss end → Run (used' ++ tail.change rest) start ts end' → SameSeen (parties ∷ more) ss ts
    refused-same used used' rest u u' B [] ts end end' e e' R R' = absurd (let z : ◌≡◌ {A = ℕ} 0 1 = cc in let x : ⊥ = omega arith in x)
    refused-same used used' rest u u' B (s ∷ ss) [] end end' e e' R R' = absurd (let z : ◌≡◌ {A = ℕ} 0 1 = cc in let x : ⊥ = omega arith in x)
    refused-same used used' rest u u' B (s ∷ ss) (t ∷ ts) end end' e e' (f, P, R) (f', P', R') =
        let call : s.call ≡ c = cc in
        let call' : t.call ≡ d = cc in
        let Q : PromisedOf c (used ++ rest) start s.answer s.after s.next = rw (call, f) at P in
        let Q' : PromisedOf d (used' ++ tail.change rest) start t.answer t.after t.next = rw (call', f') at P' in
        let stops : 0 < refusal_of c (length (used ++ rest)) start = rw (whole size start.position used rest inside u B) refuses in
        let stops' : 0 < refusal_of d (length (used' ++ tail.change rest)) start
        = rw (whole size start.position used' (tail.change rest) inside u' (tail.changes.into rest B), ← like_refusal c d size start like) refuses in
        one {parties = parties} {s = s} {t = t}
        (λ (ok : IsAccepted s.answer). absurd (let x : ⊥ = omega (arith, told_none c (length (used ++ rest)) start s.answer Q.answered ok) in x))
        (tail.same used used' rest u u' B ss ts end end' (cc) (cc) (rw (Q.moved ∙ stays _ _ _ _ start _ stops) at R) (rw (Q'.moved ∙ stays _ _ _ _ start _ stops') at R'))

    refused_step : RunSecret size start (c ∷ cs) (d ∷ ds) (parties ∷ more)
    refused_step = record { change = tail.change; changes = tail.changes; same = refused-same }

  -- an accepted one takes the next bytes: the change of its keys, and beside it that of the run from there on
  module _ (accepts : refusal_of c size start ≡ 0) (M : MessageSecret c.form c.scheme c.message d.message parties) (room : start.position + needs c ≤ size)
      (tail : RunSecret size (moved_by start (needs c)) cs ds more) where
    abbrev left : ℕ
    left = size - (start.position + needs c)

    apart : needs c + left ≡ size - start.position
    apart = omega arith

    abbrev change : List ℕ → List ℕ
    change bytes = M.change (take (needs c) bytes) ++ tail.change (drop (needs c) bytes)

    changes : Change (size - start.position) change
    changes = rw apart at (both (needs c) left M.change tail.change M.changes tail.changes)

    module _ (used used' rest : List ℕ) (u : length used ≡ start.position) (u' : length used' ≡ start.position) (B : Bytes (size - start.position) rest) where
      abbrev keys : List ℕ
      keys = take (needs c) rest

      abbrev later : List ℕ
      later = drop (needs c) rest

      keys-bytes : Bytes (needs c) keys
      keys-bytes = front (needs c) left rest (rw (← apart) at B)

      later-bytes : Bytes left later
      later-bytes = back (needs c) left rest (rw (← apart) at B)

      -- the keys that the two calls take
      taken : next_bytes start (needs c) (used ++ rest) ≡ keys
      taken = ap (take (needs c)) (drop_at used rest start.position u)

      taken' : next_bytes start (needs c) (used' ++ change rest) ≡ M.change keys
      taken' = ap (take (needs c)) (drop_at used' (change rest) start.position u') ∙ take_at (M.change keys) (tail.change later) (needs c) (M.changes.into keys keys-bytes).0

      clear : refusal_of c (length (used ++ rest)) start ≡ 0
      clear = rw (whole size start.position used rest inside u B) accepts

      clear' : refusal_of d (length (used' ++ change rest)) start ≡ 0
      clear' = rw (whole size start.position used' (change rest) inside u' (changes.into rest B), ← like_refusal c d size start like) accepts

      -- what they write
      module _ (a a' : Result ℕ Refusal) (after after' : List ℕ) (next next' : KeyPool) (Q : PromisedOf c (used ++ rest) start a after next) (Q' : PromisedOf d (used' ++ change rest) start a' after' next') where
        wrote : after ≡ shares_in c.form c.scheme c.message keys
        wrote = Q.wrote ∙ pool-written c.form c.scheme c.message (used ++ rest) start c.before clear ∙ ap (shares_in c.form c.scheme c.message) taken

        wrote' : after' ≡ shares_in c.form c.scheme d.message (M.change keys)
        wrote' =
            Q'.wrote
            ∙ pool-written d.form d.scheme d.message (used' ++ change rest) start d.before clear'
            ∙ rw (← like_needs c d like, taken', ← like.form, ← like.scheme)

        seen : Each (λ party. seen_by party c after ≡ seen_by party d after') parties
        seen = rw (wrote, wrote', ← like.form, ← like.scheme, ← like_blocks c.form c.scheme _ _ like.message) (M.same keys keys-bytes)

        on : next ≡ moved_by start (needs c)
        on = Q.moved ∙ moves c.form c.scheme _ _ start _ clear

        on' : next' ≡ moved_by start (needs c)
        on' = Q'.moved ∙ moves d.form d.scheme _ _ start _ clear' ∙ ap (moved_by start) (sym (like_needs c d like))

    accepted-same : (used used' rest : List ℕ) → length used ≡ start.position → length used' ≡ start.position → Bytes (size - start.position) rest
        → (ss ts : List Step) (end end' : KeyPool) → calls_of ss ≡ c ∷ cs → calls_of ts ≡ d ∷ ds
        → Run (used ++ rest) start ss end → Run (used' ++ change rest) start ts end' → SameSeen (parties ∷ more) ss ts
    accepted-same used used' rest u u' B [] ts end end' e e' R R' = absurd (let z : ◌≡◌ {A = ℕ} 0 1 = cc in let x : ⊥ = omega arith in x)
    accepted-same used used' rest u u' B (s ∷ ss) [] end end' e e' R R' = absurd (let z : ◌≡◌ {A = ℕ} 0 1 = cc in let x : ⊥ = omega arith in x)
    accepted-same used used' rest u u' B (s ∷ ss) (t ∷ ts) end end' e e' (f, P, R) (f', P', R') =
        let call : s.call ≡ c = cc in
        let call' : t.call ≡ d = cc in
        let Q : PromisedOf c (used ++ rest) start s.answer s.after s.next = rw (call, f) at P in
        let Q' : PromisedOf d (used' ++ change rest) start t.answer t.after t.next = rw (call', f') at P' in
        let kb = keys-bytes used used' rest u u' B in
        let k : List ℕ = take (needs c) rest in
        let l : List ℕ = drop (needs c) rest in
        one {parties = parties} {s = s} {t = t}
        (λ (ok : IsAccepted s.answer). (
          none_told d (length (used' ++ change rest)) start t.answer Q'.answered (clear' used used' rest u u' B),
          rw (call, call') (seen used used' rest u u' B s.answer t.answer s.after t.after s.next t.next Q Q'),
        ))
        (tail.same (used ++ k) (used' ++ M.change k) l
        (length-append used k ∙ omega (arith, kb.0))
        (length-append used' (M.change k) ∙ omega (arith, (M.changes.into k kb).0))
        (later-bytes used used' rest u u' B) ss ts end end' (cc) (cc)
        (rw (append_assoc used k l, take-append-drop (needs c) rest) (rw (on used used' rest u u' B s.answer t.answer s.after t.after s.next t.next Q Q') at R))
        (rw (append_assoc used' (M.change k) (tail.change l)) (rw (on' used used' rest u u' B s.answer t.answer s.after t.after s.next t.next Q Q') at R')))

    accepted_step : RunSecret size start (c ∷ cs) (d ∷ ds) (parties ∷ more)
    accepted_step = record { change = change; changes = changes; same = accepted-same }

-- ---- all calls, one after another

from_record : (size : ℕ) (start : KeyPool) → start.position ≤ size → start.length ≡ size → (first second : List Call) → Alike first second → ByteMessages first
    → ByteMessages second → (parties : List (List ℕ)) → Chosen first parties → RunSecret size start first second parties
from_record size start h l [] [] alike b₁ b₂ [] chosen = ended size start
from_record size start h l [] [] alike b₁ b₂ (parties ∷ more) chosen = absurd chosen
from_record size start h l [] (d ∷ ds) alike b₁ b₂ parties chosen = absurd alike
from_record size start h l (c ∷ cs) [] alike b₁ b₂ parties chosen = absurd alike
from_record size start h l (c ∷ cs) (d ∷ ds) alike b₁ b₂ [] chosen = absurd chosen
from_record size start h l (c ∷ cs) (d ∷ ds) (like, alike) (b₁, B₁) (b₂, B₂) (parties ∷ more) (in-range, few, chosen) =
    ⊎_elim
    (λ (e : refusal_of c size start ≡ 0).
    let ok = passed c.form c.scheme _ size start _ e in
    let room : start.position + needs c ≤ size = omega (arith, ok.room.inside) in
    let M = message_secret c.scheme ok.good c.message d.message b₁ b₂ ok.short parties in-range few c.form like.message in
    accepted_step size start h c d like parties cs ds more e M room (from_record size (moved_by start (needs c)) room l cs ds alike B₁ B₂ more chosen))
    (λ (refuses : 0 < refusal_of c size start). refused_step size start h c d like parties cs ds more refuses (from_record size start h l cs ds alike B₁ B₂ more chosen))
    (eq-zero-or-pos (refusal_of c size start))

pub run_secrecy : RunSecrecy
run_secrecy size first second alike b₁ b₂ parties chosen =
    let S = from_record size (loaded size) (omega arith) refl first second alike b₁ b₂ parties chosen in
    let all : size - 0 ≡ size = omega arith in
    let C : Change size S.change = rw all at S.changes in
    record {
      change = S.change;
      into = C.into;
      one_to_one = C.one_to_one;
      onto = C.onto;
      same = λ bytes B ss ts end end' e e' R R'. S.same [] [] bytes refl refl (rw all B) ss ts end end' e e' R R';
    }

-- ---- how they end

module _ (bytes bytes' : List ℕ) (s t : Step) (long : length bytes ≡ length bytes') (like : LikeCall s.call t.call) (found : s.found ≡ t.found)
    (P : Promised bytes s) (P' : Promised bytes' t) where
  same-refusal : refusal_of s.call (length bytes) s.found ≡ refusal_of t.call (length bytes') t.found
  same-refusal = rw (long, found) (like_refusal s.call t.call (length bytes') t.found like)

  same-told : outcome s.answer ≡ outcome t.answer
  unfolding pool_answer
  same-told = P.answered ∙ rw (same-refusal, call_blocks s.call t.call like, like.scheme) (sym P'.answered)

  same_next : s.next ≡ t.next
  unfolding pool_after
  same_next = P.moved ∙ rw (same-refusal, like_needs s.call t.call like, found) (sym P'.moved)

pub pool_outcome_from_lengths : PoolOutcomeFromLengths
pool_outcome_from_lengths bytes bytes' s t long like found P P' =
    let ends = alike s.answer t.answer s.call.before t.call.before s.after t.after (same-told bytes bytes' s t long like found P P')
    (ap length P.wrote ∙ output_long s.call.form s.call.scheme s.call.message bytes s.found s.call.before)
    (ap length P'.wrote ∙ output_long t.call.form t.call.scheme t.call.message bytes' t.found t.call.before) like.before in
    (ends.0, ends.1, same_next bytes bytes' s t long like found P P')

pub run_outcome_from_lengths : RunOutcomeFromLengths
run_outcome_from_lengths bytes bytes' start [] [] end end' l A R R' = (refl, refl, refl, R ∙ sym R')
run_outcome_from_lengths bytes bytes' start [] (t ∷ ts) end end' l A R R' = absurd A
run_outcome_from_lengths bytes bytes' start (s ∷ ss) [] end end' l A R R' = absurd A
run_outcome_from_lengths bytes bytes' start (s ∷ ss) (t ∷ ts) end end' l (like, A) (f, P, R) (f', P', R') =
    let ends = pool_outcome_from_lengths bytes bytes' s t l like (f ∙ sym f') P P' in
    let rest = run_outcome_from_lengths bytes bytes' t.next ss ts end end' l A (rw ends.2 at R) R' in
    (rw (ends.0, rest.0), rw (ends.1, rest.1), rw (ends.2, rest.2), rest.3)
