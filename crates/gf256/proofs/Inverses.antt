-- The inverse: it is one, it is the only one, only 0 has none, and no two bytes but 0 have the product 0.
-- The table of 256 inverses is tested once, by computing; each entry's rule follows.
-- Assumes nothing.
use mathlib.Core.Path.{◌≡◌, refl, sym, ap, ◌∙◌}
use mathlib.Core.Bool.{Bool, true, false, cond, ◌&&◌}
use mathlib.Core.List.{List, [], ◌∷◌}
use mathlib.Core.Logic.{◌⊎◌, ◌≢◌, inl, inr, ⊎_elim}
use Prim.Native.Nat.{ℕ, zero, suc, ◌<◌}
use native.Mathlib.Nat.{le_of_suc-le-suc, le_step, le_refl, not-suc-le-zero, eq-or-lt_of_le, suc-ne-zero}
use lib.Dec.{T, ltb, eqb, eqb→eq, ltb→lt, lit<}
use lib.ListN.{get_or}
use borrow.Author.Tests.{eqb-true, eqb-false}
use Rattle.std.specs.Prelude.{Option, Some, None}
use Rattle.gf256.specs.Byte.{◌⊕◌, product, cut, reduce, ◌⊗◌, inverse_below, inverse}
use Rattle.lists.proofs.Tests.{both_left, both_right}
use Rattle.lists.proofs.Computed.{at}
use Rattle.gf256.proofs.Ring.{⊗_comm, ⊗_assoc, ⊗-zero, zero-⊗, one_⊗}

-- ---- the search finds an inverse where there is one

-- found below n: an answered inverse has the product 1, and where none is answered no number below n has it
abbrev Found : ℕ → ℕ → Option ℕ → Type 0
Found n a (Some x) = (x < n) × (a ⊗ x ≡ 1)
Found n a None = (x : ℕ) → x < n → a ⊗ x ≢ 1

one_more : (n a : ℕ) (t : Bool) (rest : Option ℕ) → eqb (a ⊗ n) 1 ≡ t → Found n a rest → Found (suc n) a (cond t (Some n) rest)
one_more n a true rest e h = (le_refl (suc n), eqb-true (a ⊗ n) 1 e)
one_more n a false (Some x) e h = (le_step h.0, h.1)
one_more n a false None e h =
    λ x l. ⊎_elim (λ (q : x ≡ n). λ f. eqb-false (a ⊗ n) 1 e (ap (◌⊗◌ a) (sym q) ∙ f)) (h x) (eq-or-lt_of_le (le_of_suc-le-suc l))

searched : (n a : ℕ) → Found n a (inverse_below n a)
unfolding inverse_below
searched zero a = λ x h. absurd (not-suc-le-zero h)
searched (suc n) a = one_more n a (eqb (a ⊗ n) 1) (inverse_below n a) refl (searched n a)

found-answer : (a : ℕ) → Found 256 a (inverse a)
unfolding inverse
found-answer a = searched 256 a

-- ---- the table

unfoldable pub inverses : List ℕ
inverses =
    0 ∷ 1 ∷ 141 ∷ 246 ∷ 203 ∷ 82 ∷ 123 ∷ 209 ∷ 232 ∷ 79 ∷ 41 ∷ 192 ∷ 176 ∷ 225 ∷ 229 ∷ 199 ∷
    116 ∷ 180 ∷ 170 ∷ 75 ∷ 153 ∷ 43 ∷ 96 ∷ 95 ∷ 88 ∷ 63 ∷ 253 ∷ 204 ∷ 255 ∷ 64 ∷ 238 ∷ 178 ∷
    58 ∷ 110 ∷ 90 ∷ 241 ∷ 85 ∷ 77 ∷ 168 ∷ 201 ∷ 193 ∷ 10 ∷ 152 ∷ 21 ∷ 48 ∷ 68 ∷ 162 ∷ 194 ∷
    44 ∷ 69 ∷ 146 ∷ 108 ∷ 243 ∷ 57 ∷ 102 ∷ 66 ∷ 242 ∷ 53 ∷ 32 ∷ 111 ∷ 119 ∷ 187 ∷ 89 ∷ 25 ∷
    29 ∷ 254 ∷ 55 ∷ 103 ∷ 45 ∷ 49 ∷ 245 ∷ 105 ∷ 167 ∷ 100 ∷ 171 ∷ 19 ∷ 84 ∷ 37 ∷ 233 ∷ 9 ∷
    237 ∷ 92 ∷ 5 ∷ 202 ∷ 76 ∷ 36 ∷ 135 ∷ 191 ∷ 24 ∷ 62 ∷ 34 ∷ 240 ∷ 81 ∷ 236 ∷ 97 ∷ 23 ∷
    22 ∷ 94 ∷ 175 ∷ 211 ∷ 73 ∷ 166 ∷ 54 ∷ 67 ∷ 244 ∷ 71 ∷ 145 ∷ 223 ∷ 51 ∷ 147 ∷ 33 ∷ 59 ∷
    121 ∷ 183 ∷ 151 ∷ 133 ∷ 16 ∷ 181 ∷ 186 ∷ 60 ∷ 182 ∷ 112 ∷ 208 ∷ 6 ∷ 161 ∷ 250 ∷ 129 ∷ 130 ∷
    131 ∷ 126 ∷ 127 ∷ 128 ∷ 150 ∷ 115 ∷ 190 ∷ 86 ∷ 155 ∷ 158 ∷ 149 ∷ 217 ∷ 247 ∷ 2 ∷ 185 ∷ 164 ∷
    222 ∷ 106 ∷ 50 ∷ 109 ∷ 216 ∷ 138 ∷ 132 ∷ 114 ∷ 42 ∷ 20 ∷ 159 ∷ 136 ∷ 249 ∷ 220 ∷ 137 ∷ 154 ∷
    251 ∷ 124 ∷ 46 ∷ 195 ∷ 143 ∷ 184 ∷ 101 ∷ 72 ∷ 38 ∷ 200 ∷ 18 ∷ 74 ∷ 206 ∷ 231 ∷ 210 ∷ 98 ∷
    12 ∷ 224 ∷ 31 ∷ 239 ∷ 17 ∷ 117 ∷ 120 ∷ 113 ∷ 165 ∷ 142 ∷ 118 ∷ 61 ∷ 189 ∷ 188 ∷ 134 ∷ 87 ∷
    11 ∷ 40 ∷ 47 ∷ 163 ∷ 218 ∷ 212 ∷ 228 ∷ 15 ∷ 169 ∷ 39 ∷ 83 ∷ 4 ∷ 27 ∷ 252 ∷ 172 ∷ 230 ∷
    122 ∷ 7 ∷ 174 ∷ 99 ∷ 197 ∷ 219 ∷ 226 ∷ 234 ∷ 148 ∷ 139 ∷ 196 ∷ 213 ∷ 157 ∷ 248 ∷ 144 ∷ 107 ∷
    177 ∷ 13 ∷ 214 ∷ 235 ∷ 198 ∷ 14 ∷ 207 ∷ 173 ∷ 8 ∷ 78 ∷ 215 ∷ 227 ∷ 93 ∷ 80 ∷ 30 ∷ 179 ∷
    91 ∷ 35 ∷ 56 ∷ 52 ∷ 104 ∷ 70 ∷ 3 ∷ 140 ∷ 221 ∷ 156 ∷ 125 ∷ 160 ∷ 205 ∷ 26 ∷ 65 ∷ 28 ∷ []

-- the one rule: a byte but 0 times its entry is 1, and the entry of 0 is 0
right : ℕ → ℕ → Bool
right zero x = eqb x 0
right (suc a) x = ltb x 256 && eqb (suc a ⊗ x) 1

rule : (a : ℕ) → a < 256 → T (right a (get_or inverses a 0))
unfolding inverses right ◌⊗◌ product reduce ◌⊕◌ cut
rule a h = at right inverses tt a h

entry_right : (a : ℕ) → a ≢ 0 → a < 256 → (get_or inverses a 0 < 256) × (a ⊗ get_or inverses a 0 ≡ 1)
unfolding right
entry_right zero n h = absurd (n refl)
entry_right (suc a) n h = (ltb→lt x 256 (both_left small one (rule (suc a) h)), eqb→eq (suc a ⊗ x) 1 (both_right small one (rule (suc a) h)))
  where
    x : ℕ
    x = get_or inverses (suc a) 0

    small : Bool
    small = ltb x 256

    one : Bool
    one = eqb (suc a ⊗ x) 1

-- ---- the laws

-- a factor that has an inverse may be left out
cancel_by : (a i b c : ℕ) → a ⊗ i ≡ 1 → b < 256 → c < 256 → a ⊗ b ≡ a ⊗ c → b ≡ c
cancel_by a i b c one hb hc e = sym (undo b hb) ∙ ap (◌⊗◌ i) e ∙ undo c hc
  where
    undo : (x : ℕ) → x < 256 → i ⊗ (a ⊗ x) ≡ x
    undo x hx = sym (⊗_assoc i a x) ∙ ap (λ y. y ⊗ x) (⊗_comm i a ∙ one) ∙ one_⊗ x hx

-- and so may one that is not 0
pub ⊗_cancel : (a b c : ℕ) → a ≢ 0 → a < 256 → b < 256 → c < 256 → a ⊗ b ≡ a ⊗ c → b ≡ c
⊗_cancel a b c n h = cancel_by a (get_or inverses a 0) b c (entry_right a n h).1

pub ⊗-inverse : (a x : ℕ) → inverse a ≡ Some x → (x < 256) × (a ⊗ x ≡ 1)
⊗-inverse a x e = rw e at (found-answer a)

pub inverse_only : (a x : ℕ) → a < 256 → x < 256 → a ⊗ x ≡ 1 → inverse a ≡ Some x
inverse_only a x h hx e = only (inverse a) (found-answer a)
  where
    only : (answer : Option ℕ) → Found 256 a answer → answer ≡ Some x
    only (Some y) r = ap Some (cancel_by a x y x e r.0 hx (r.1 ∙ sym e))
    only None r = absurd (r x hx e)

-- each entry of the table but that of 0 is the inverse
pub entry : (a : ℕ) → a ≢ 0 → a < 256 → inverse a ≡ Some (get_or inverses a 0)
entry a n h =
    let r = entry_right a n h in
    inverse_only a (get_or inverses a 0) h r.0 r.1

pub inverse-zero : inverse 0 ≡ None
inverse-zero = none (inverse 0) (found-answer 0)
  where
    none : (answer : Option ℕ) → Found 256 0 answer → answer ≡ None
    none (Some y) r = absurd (eqb-false 0 1 refl (sym (zero-⊗ y) ∙ r.1))
    none None r = refl

pub no_inverse : (a : ℕ) → a < 256 → inverse a ≡ None → a ≡ 0
no_inverse zero h e = refl
no_inverse (suc a) h e =
    let r = entry_right (suc a) (suc-ne-zero a) h in
    absurd ((rw e at (found-answer (suc a))) (get_or inverses (suc a) 0) r.0 r.1)

pub no_zero_divisors : (a b : ℕ) → a < 256 → b < 256 → a ⊗ b ≡ 0 → (a ≡ 0) ⊎ (b ≡ 0)
no_zero_divisors zero b h hb e = inl refl
no_zero_divisors (suc a) b h hb e = inr (⊗_cancel (suc a) b 0 (suc-ne-zero a) h hb (lit< tt) (e ∙ sym (⊗-zero (suc a))))
