-- The upper part of a polynomial: its lengths, bytes and single coefficients, and that with the coefficients below it makes up the polynomial.
-- Assumes nothing.
use mathlib.Core.Path.{◌≡◌, refl, sym, ap, ap₂, ◌∙◌}
use mathlib.Core.List.{List, [], ◌∷◌}
use mathlib.Core.Logic.{⊎_elim}
use Prim.Native.Nat.{ℕ, zero, suc, ◌≤◌, ◌<◌}
use native.Mathlib.Nat.{not-suc-le-zero, le_of_suc-le-suc}
use lib.Dec.{lit<}
use lib.ListN.{length, get_or, take}
use lib.Seq.{ext_get_or}
use Rattle.lists.specs.Each.{Each, Byte}
use Rattle.lists.specs.Table.{tabulate}
use Rattle.lists.proofs.Tests.{lt_or_le}
use Rattle.lists.proofs.Table.{length-tabulate, get_or-tabulate}
use Rattle.gf256.proofs.Laws.{⊕-zero}
use Rattle.interpolation.specs.Polynomial.{plus, above}

pub above-length : (d : ℕ) (cs : List ℕ) → length (above d cs) ≡ length cs
unfolding above
above-length zero cs = refl
above-length (suc d) [] = refl
above-length (suc d) (c ∷ cs) = ap suc (above-length d cs)

pub above-byte : (d : ℕ) (cs : List ℕ) → Each Byte cs → Each Byte (above d cs)
unfolding above
above-byte zero cs h = h
above-byte (suc d) [] h = tt
above-byte (suc d) (c ∷ cs) h = (lit< tt, above-byte d cs h.1)

pub above_low : (d : ℕ) (cs : List ℕ) (e : ℕ) → e < d → get_or (above d cs) e 0 ≡ 0
unfolding above
above_low zero cs e h = absurd (not-suc-le-zero h)
above_low (suc d) [] e h = refl
above_low (suc d) (c ∷ cs) zero h = refl
above_low (suc d) (c ∷ cs) (suc e) h = above_low d cs e (le_of_suc-le-suc h)

pub above_high : (d : ℕ) (cs : List ℕ) (e : ℕ) → d ≤ e → get_or (above d cs) e 0 ≡ get_or cs e 0
unfolding above
above_high zero cs e h = refl
above_high (suc d) [] e h = refl
above_high (suc d) (c ∷ cs) zero h = absurd (not-suc-le-zero h)
above_high (suc d) (c ∷ cs) (suc e) h = above_high d cs e (le_of_suc-le-suc h)

-- a list is the upper part by its entries below d and from d up
pub above_is : (l : List ℕ) (d : ℕ) (cs : List ℕ) → length l ≡ length cs → ((e : ℕ) → e < length cs → e < d → get_or l e 0 ≡ 0)
    → ((e : ℕ) → e < length cs → d ≤ e → get_or l e 0 ≡ get_or cs e 0) → l ≡ above d cs
above_is l d cs n low high =
    ext_get_or 0 l (above d cs) (n ∙ sym (above-length d cs))
    (λ e h.
    let b : e < length cs = rw n at h in
    ⊎_elim (λ (k : e < d). low e b k ∙ sym (above_low d cs e k)) (λ (k : d ≤ e). high e b k ∙ sym (above_high d cs e k)) (lt_or_le e d))

-- two rules that agree from d up have the same upper part
pub above_same : (d n : ℕ) (f g : ℕ → ℕ) → ((e : ℕ) → d ≤ e → e < n → f e ≡ g e) → above d (tabulate n f) ≡ above d (tabulate n g)
above_same d n f g same =
    above_is (above d (tabulate n f)) d (tabulate n g) (above-length d (tabulate n f) ∙ length-tabulate n f ∙ sym (length-tabulate n g))
    (λ e _ k. above_low d (tabulate n f) e k)
    (λ e h k.
    let b : e < n = rw length-tabulate at h in
    above_high d (tabulate n f) e k ∙ get_or-tabulate n f e 0 b ∙ same e k b ∙ sym (get_or-tabulate n g e 0 b))

-- the first d coefficients and the upper part make up the polynomial
pub plus-above : (d : ℕ) (cs : List ℕ) → plus (take d cs) (above d cs) ≡ cs
unfolding above plus
plus-above zero cs = refl
plus-above (suc d) [] = refl
plus-above (suc d) (c ∷ cs) = ap₂ ◌∷◌ (⊕-zero c) (plus-above d cs)
