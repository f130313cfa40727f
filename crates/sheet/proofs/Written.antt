-- A text that grows at its end: what the array holds after a byte more, with room left and with none, and after several parts in a
-- row; and what is printed of it.
-- Assumes nothing.
use mathlib.Core.Path.{◌≡◌, refl, sym, ap, ◌∙◌}
use mathlib.Core.List.{List, [], ◌∷◌, ◌++◌, append-nil, append_assoc}
use Prim.Native.Nat.{ℕ, zero, suc, ◌+◌, ◌<◌, ◌≤◌}
use native.Mathlib.Nat.{le_of_suc-le-suc, not-suc-le-zero}
use native.Mathlib.Omega.{arith}
use lib.ListN.{length, set, take, replicate, length-append}
use lib.Seq.{set_out}
use Rattle.sheet.specs.declared.writer.Text.{Text}
use Rattle.sheet.specs.Writing.{Whole, Contains, Adds, max_text, with_zeros}

pub zeros_none : (k : ℕ) → with_zeros k [] ≡ replicate k 0
unfolding with_zeros
zeros_none zero = refl
zeros_none (suc k) = ap (λ l. 0 ∷ l) (zeros_none k)

length-zeros : (k : ℕ) (text : List ℕ) → length (with_zeros k text) ≡ k
unfolding with_zeros
length-zeros zero text = refl
length-zeros (suc k) [] = ap suc (length-zeros k [])
length-zeros (suc k) (x ∷ text) = ap suc (length-zeros k text)

-- a text that fits is what the array starts with
take-zeros : (k : ℕ) (text : List ℕ) → length text ≤ k → take (length text) (with_zeros k text) ≡ text
unfolding with_zeros
take-zeros k [] h = refl
take-zeros zero (x ∷ text) h = absurd (not-suc-le-zero h)
take-zeros (suc k) (x ∷ text) h = ap (λ l. x ∷ l) (take-zeros k text (le_of_suc-le-suc h))

-- a byte more is written after the text, and nowhere where the text is full
zeros-byte : (k : ℕ) (text : List ℕ) (b : ℕ) → set (with_zeros k text) (length text) b ≡ with_zeros k (text ++ (b ∷ []))
unfolding with_zeros
zeros-byte zero text b = refl
zeros-byte (suc k) [] b = refl
zeros-byte (suc k) (x ∷ text) b = ap (λ l. x ∷ l) (zeros-byte k text b)

module _ (t : Text) (text : List ℕ) (b : ℕ) (h : Contains t text) where
  pub holds_byte : t.length < max_text
      → Contains (record { bytes = set t.bytes t.length b; length = t.length + 1 }) (text ++ (b ∷ []))
  holds_byte room =
      let e : t.length ≡ length text = omega arith in
      record {
        long = simp length-append (omega arith);
        bytes = rw (e, h.bytes) (zeros-byte max_text text b);
      }

  pub holds_full : max_text ≤ t.length → Contains t (text ++ (b ∷ []))
  holds_full full =
      let e : max_text ≤ length text = omega arith in
      record {
        long = simp length-append (omega arith);
        bytes =
            h.bytes ∙ sym (set_out (with_zeros max_text text) (length text) b (rw (length-zeros) e)) ∙ zeros-byte max_text text b;
      }

pub adds_none : (t : Text) → Adds t t []
adds_none t = record { holds = λ text h. rw append-nil h }

pub adds_then : {s t u : Text} {xs ys : List ℕ} → Adds s t xs → Adds t u ys → Adds s u (xs ++ ys)
adds_then {xs = xs} f g =
    record {
      holds = λ text h. rw (← append_assoc text xs) (g.holds (text ++ xs) (f.holds text h));
    }

-- of a text that fits nothing is dropped
pub whole : {t : Text} {text : List ℕ} → Contains t text → length text ≤ max_text → Whole t text
whole {t} {text} h fits =
    let room : length t.bytes ≡ max_text = ap length h.bytes ∙ length-zeros max_text text in
    record { within = omega arith; long = omega arith; bytes = h.bytes }

-- what is printed is the text
pub printed : (t : Text) (text : List ℕ) → Whole t text → take t.length t.bytes ≡ text
printed t text w =
    let room : length t.bytes ≡ max_text = ap length w.bytes ∙ length-zeros max_text text in
    rw (w.long, w.bytes) (take-zeros max_text text (omega (arith, w.within, w.long)))
