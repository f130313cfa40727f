-- The prefixes that are read, where one is passed over: all of them where none is, and the bytes that are lent of each.
-- Assumes nothing.
use mathlib.Core.Path.{◌≡◌, sym, ap, ◌∙◌}
use mathlib.Core.List.{List}
use Prim.Native.Nat.{ℕ, ◌+◌, ◌-◌, ◌*◌, ◌≤◌, ◌<◌}
use native.Mathlib.Nat.{add-sub_cancel_left}
use native.Mathlib.Omega.{arith}
use lib.ListN.{get_or, take, drop}
use lib.Seq.{get_or-take, get_or-drop}
use Rattle.lists.specs.Without.{without_piece, skipped}
use Rattle.lists.proofs.Skipped.{without_none, get_or-without_piece}
use Rattle.scheme.specs.declared.accepted.Scheme.{Scheme}
use Rattle.reader.specs.Decoding.{sent_rows, read_from, Input, Sent}

-- where the place passed over is d, all are read
module _ {s : Scheme} {ds : List ℕ} {d blocks : ℕ} {prefixes : List ℕ} (I : Input s ds d blocks prefixes) where
  pub all_read : Input s ds d blocks (read_from s d blocks d prefixes)
  all_read = rw (without_none (sent_rows s d * blocks) d prefixes I.prefixes_long) I

  pub sent_whole : {points B K : List ℕ} → Sent s ds d blocks points prefixes B K → Sent s ds d blocks points (read_from s d blocks d prefixes) B K
  sent_whole X = rw (without_none (sent_rows s d * blocks) d prefixes I.prefixes_long) X

-- the bytes from place q on, of the prefix that is read as number a
pub lent_at : (w skip : ℕ) (prefixes : List ℕ) (a q many place : ℕ) (y : List ℕ) → place ≡ skipped skip a → q + many ≤ w
    → y ≡ take (place * w + q + many - (place * w + q)) (drop (place * w + q) prefixes)
    → (k : ℕ) → k < many → get_or y k 0 ≡ get_or (without_piece w skip prefixes) (a * w + q + k) 0
lent_at w skip prefixes a q many place y e room is k h =
    let o : place * w + q + k ≡ skipped skip a * w + (q + k) = rw e (omega arith) in
    let o' : a * w + (q + k) ≡ a * w + q + k = omega arith in
    ap (λ (r : List ℕ). get_or r k 0) (rw add-sub_cancel_left at is)
    ∙ get_or-take many (drop (place * w + q) prefixes) k 0 h
    ∙ get_or-drop (place * w + q) prefixes k 0
    ∙ ap (λ (x : ℕ). get_or prefixes x 0) o
    ∙ sym (get_or-without_piece w skip prefixes a (q + k) (omega arith))
    ∙ ap (λ (x : ℕ). get_or (without_piece w skip prefixes) x 0) o'
