-- Powers and logarithms of 3, and the product by their tables.
-- Each table is tested once, by computing: in that of the powers each entry is 3 times the one before, and at the logarithm of a byte stands the byte.
-- Assumes nothing.
use mathlib.Core.Path.{◌≡◌, refl, sym, ap, ◌∙◌}
use mathlib.Core.Bool.{Bool, true, ◌&&◌}
use mathlib.Core.List.{List, [], ◌∷◌}
use Prim.Native.Nat.{ℕ, zero, suc, ◌+◌, ◌<◌}
use native.Mathlib.Nat.{le_of_suc-le-suc, not-suc-le-zero, zero-add, suc-add, add-suc}
use native.Mathlib.Nat as N
use native.Mathlib.Omega.{arith}
use lib.Dec.{T, ltb, eqb, eqb→eq, ltb→lt, lit<}
use lib.ListN.{get_or, length}
use Rattle.gf256.specs.Byte.{◌⊕◌, product, cut, reduce, ◌⊗◌, power}
use Rattle.lists.proofs.Tests.{both_left, both_right}
use Rattle.lists.proofs.Computed.{at}
use Rattle.gf256.proofs.Ring.{⊗-byte, ⊗_assoc, one_⊗}

pub power-byte : (a n : ℕ) → power a n < 256
unfolding power
power-byte a zero = lit< tt
power-byte a (suc n) = ⊗-byte a (power a n)

pub power-add : (a i j : ℕ) → power a (i + j) ≡ power a i ⊗ power a j
unfolding power
power-add a zero j = ap (power a) (zero-add j) ∙ sym (one_⊗ (power a j) (power-byte a j))
power-add a (suc i) j =
    ap (power a) (suc-add i j) ∙ ap (◌⊗◌ a) (power-add a i j) ∙ sym (⊗_assoc a (power a i) (power a j))

-- ---- the tables

unfoldable pub powers : List ℕ
powers =
    1 ∷ 3 ∷ 5 ∷ 15 ∷ 17 ∷ 51 ∷ 85 ∷ 255 ∷ 26 ∷ 46 ∷ 114 ∷ 150 ∷ 161 ∷ 248 ∷ 19 ∷ 53 ∷
    95 ∷ 225 ∷ 56 ∷ 72 ∷ 216 ∷ 115 ∷ 149 ∷ 164 ∷ 247 ∷ 2 ∷ 6 ∷ 10 ∷ 30 ∷ 34 ∷ 102 ∷ 170 ∷
    229 ∷ 52 ∷ 92 ∷ 228 ∷ 55 ∷ 89 ∷ 235 ∷ 38 ∷ 106 ∷ 190 ∷ 217 ∷ 112 ∷ 144 ∷ 171 ∷ 230 ∷ 49 ∷
    83 ∷ 245 ∷ 4 ∷ 12 ∷ 20 ∷ 60 ∷ 68 ∷ 204 ∷ 79 ∷ 209 ∷ 104 ∷ 184 ∷ 211 ∷ 110 ∷ 178 ∷ 205 ∷
    76 ∷ 212 ∷ 103 ∷ 169 ∷ 224 ∷ 59 ∷ 77 ∷ 215 ∷ 98 ∷ 166 ∷ 241 ∷ 8 ∷ 24 ∷ 40 ∷ 120 ∷ 136 ∷
    131 ∷ 158 ∷ 185 ∷ 208 ∷ 107 ∷ 189 ∷ 220 ∷ 127 ∷ 129 ∷ 152 ∷ 179 ∷ 206 ∷ 73 ∷ 219 ∷ 118 ∷ 154 ∷
    181 ∷ 196 ∷ 87 ∷ 249 ∷ 16 ∷ 48 ∷ 80 ∷ 240 ∷ 11 ∷ 29 ∷ 39 ∷ 105 ∷ 187 ∷ 214 ∷ 97 ∷ 163 ∷
    254 ∷ 25 ∷ 43 ∷ 125 ∷ 135 ∷ 146 ∷ 173 ∷ 236 ∷ 47 ∷ 113 ∷ 147 ∷ 174 ∷ 233 ∷ 32 ∷ 96 ∷ 160 ∷
    251 ∷ 22 ∷ 58 ∷ 78 ∷ 210 ∷ 109 ∷ 183 ∷ 194 ∷ 93 ∷ 231 ∷ 50 ∷ 86 ∷ 250 ∷ 21 ∷ 63 ∷ 65 ∷
    195 ∷ 94 ∷ 226 ∷ 61 ∷ 71 ∷ 201 ∷ 64 ∷ 192 ∷ 91 ∷ 237 ∷ 44 ∷ 116 ∷ 156 ∷ 191 ∷ 218 ∷ 117 ∷
    159 ∷ 186 ∷ 213 ∷ 100 ∷ 172 ∷ 239 ∷ 42 ∷ 126 ∷ 130 ∷ 157 ∷ 188 ∷ 223 ∷ 122 ∷ 142 ∷ 137 ∷ 128 ∷
    155 ∷ 182 ∷ 193 ∷ 88 ∷ 232 ∷ 35 ∷ 101 ∷ 175 ∷ 234 ∷ 37 ∷ 111 ∷ 177 ∷ 200 ∷ 67 ∷ 197 ∷ 84 ∷
    252 ∷ 31 ∷ 33 ∷ 99 ∷ 165 ∷ 244 ∷ 7 ∷ 9 ∷ 27 ∷ 45 ∷ 119 ∷ 153 ∷ 176 ∷ 203 ∷ 70 ∷ 202 ∷
    69 ∷ 207 ∷ 74 ∷ 222 ∷ 121 ∷ 139 ∷ 134 ∷ 145 ∷ 168 ∷ 227 ∷ 62 ∷ 66 ∷ 198 ∷ 81 ∷ 243 ∷ 14 ∷
    18 ∷ 54 ∷ 90 ∷ 238 ∷ 41 ∷ 123 ∷ 141 ∷ 140 ∷ 143 ∷ 138 ∷ 133 ∷ 148 ∷ 167 ∷ 242 ∷ 13 ∷ 23 ∷
    57 ∷ 75 ∷ 221 ∷ 124 ∷ 132 ∷ 151 ∷ 162 ∷ 253 ∷ 28 ∷ 36 ∷ 108 ∷ 180 ∷ 199 ∷ 82 ∷ 246 ∷ 1 ∷
    3 ∷ 5 ∷ 15 ∷ 17 ∷ 51 ∷ 85 ∷ 255 ∷ 26 ∷ 46 ∷ 114 ∷ 150 ∷ 161 ∷ 248 ∷ 19 ∷ 53 ∷ 95 ∷
    225 ∷ 56 ∷ 72 ∷ 216 ∷ 115 ∷ 149 ∷ 164 ∷ 247 ∷ 2 ∷ 6 ∷ 10 ∷ 30 ∷ 34 ∷ 102 ∷ 170 ∷ 229 ∷
    52 ∷ 92 ∷ 228 ∷ 55 ∷ 89 ∷ 235 ∷ 38 ∷ 106 ∷ 190 ∷ 217 ∷ 112 ∷ 144 ∷ 171 ∷ 230 ∷ 49 ∷ 83 ∷
    245 ∷ 4 ∷ 12 ∷ 20 ∷ 60 ∷ 68 ∷ 204 ∷ 79 ∷ 209 ∷ 104 ∷ 184 ∷ 211 ∷ 110 ∷ 178 ∷ 205 ∷ 76 ∷
    212 ∷ 103 ∷ 169 ∷ 224 ∷ 59 ∷ 77 ∷ 215 ∷ 98 ∷ 166 ∷ 241 ∷ 8 ∷ 24 ∷ 40 ∷ 120 ∷ 136 ∷ 131 ∷
    158 ∷ 185 ∷ 208 ∷ 107 ∷ 189 ∷ 220 ∷ 127 ∷ 129 ∷ 152 ∷ 179 ∷ 206 ∷ 73 ∷ 219 ∷ 118 ∷ 154 ∷ 181 ∷
    196 ∷ 87 ∷ 249 ∷ 16 ∷ 48 ∷ 80 ∷ 240 ∷ 11 ∷ 29 ∷ 39 ∷ 105 ∷ 187 ∷ 214 ∷ 97 ∷ 163 ∷ 254 ∷
    25 ∷ 43 ∷ 125 ∷ 135 ∷ 146 ∷ 173 ∷ 236 ∷ 47 ∷ 113 ∷ 147 ∷ 174 ∷ 233 ∷ 32 ∷ 96 ∷ 160 ∷ 251 ∷
    22 ∷ 58 ∷ 78 ∷ 210 ∷ 109 ∷ 183 ∷ 194 ∷ 93 ∷ 231 ∷ 50 ∷ 86 ∷ 250 ∷ 21 ∷ 63 ∷ 65 ∷ 195 ∷
    94 ∷ 226 ∷ 61 ∷ 71 ∷ 201 ∷ 64 ∷ 192 ∷ 91 ∷ 237 ∷ 44 ∷ 116 ∷ 156 ∷ 191 ∷ 218 ∷ 117 ∷ 159 ∷
    186 ∷ 213 ∷ 100 ∷ 172 ∷ 239 ∷ 42 ∷ 126 ∷ 130 ∷ 157 ∷ 188 ∷ 223 ∷ 122 ∷ 142 ∷ 137 ∷ 128 ∷ 155 ∷
    182 ∷ 193 ∷ 88 ∷ 232 ∷ 35 ∷ 101 ∷ 175 ∷ 234 ∷ 37 ∷ 111 ∷ 177 ∷ 200 ∷ 67 ∷ 197 ∷ 84 ∷ 252 ∷
    31 ∷ 33 ∷ 99 ∷ 165 ∷ 244 ∷ 7 ∷ 9 ∷ 27 ∷ 45 ∷ 119 ∷ 153 ∷ 176 ∷ 203 ∷ 70 ∷ 202 ∷ 69 ∷
    207 ∷ 74 ∷ 222 ∷ 121 ∷ 139 ∷ 134 ∷ 145 ∷ 168 ∷ 227 ∷ 62 ∷ 66 ∷ 198 ∷ 81 ∷ 243 ∷ 14 ∷ 18 ∷
    54 ∷ 90 ∷ 238 ∷ 41 ∷ 123 ∷ 141 ∷ 140 ∷ 143 ∷ 138 ∷ 133 ∷ 148 ∷ 167 ∷ 242 ∷ 13 ∷ 23 ∷ 57 ∷
    75 ∷ 221 ∷ 124 ∷ 132 ∷ 151 ∷ 162 ∷ 253 ∷ 28 ∷ 36 ∷ 108 ∷ 180 ∷ 199 ∷ 82 ∷ 246 ∷ []

unfoldable pub logarithms : List ℕ
logarithms =
    0 ∷ 0 ∷ 25 ∷ 1 ∷ 50 ∷ 2 ∷ 26 ∷ 198 ∷ 75 ∷ 199 ∷ 27 ∷ 104 ∷ 51 ∷ 238 ∷ 223 ∷ 3 ∷
    100 ∷ 4 ∷ 224 ∷ 14 ∷ 52 ∷ 141 ∷ 129 ∷ 239 ∷ 76 ∷ 113 ∷ 8 ∷ 200 ∷ 248 ∷ 105 ∷ 28 ∷ 193 ∷
    125 ∷ 194 ∷ 29 ∷ 181 ∷ 249 ∷ 185 ∷ 39 ∷ 106 ∷ 77 ∷ 228 ∷ 166 ∷ 114 ∷ 154 ∷ 201 ∷ 9 ∷ 120 ∷
    101 ∷ 47 ∷ 138 ∷ 5 ∷ 33 ∷ 15 ∷ 225 ∷ 36 ∷ 18 ∷ 240 ∷ 130 ∷ 69 ∷ 53 ∷ 147 ∷ 218 ∷ 142 ∷
    150 ∷ 143 ∷ 219 ∷ 189 ∷ 54 ∷ 208 ∷ 206 ∷ 148 ∷ 19 ∷ 92 ∷ 210 ∷ 241 ∷ 64 ∷ 70 ∷ 131 ∷ 56 ∷
    102 ∷ 221 ∷ 253 ∷ 48 ∷ 191 ∷ 6 ∷ 139 ∷ 98 ∷ 179 ∷ 37 ∷ 226 ∷ 152 ∷ 34 ∷ 136 ∷ 145 ∷ 16 ∷
    126 ∷ 110 ∷ 72 ∷ 195 ∷ 163 ∷ 182 ∷ 30 ∷ 66 ∷ 58 ∷ 107 ∷ 40 ∷ 84 ∷ 250 ∷ 133 ∷ 61 ∷ 186 ∷
    43 ∷ 121 ∷ 10 ∷ 21 ∷ 155 ∷ 159 ∷ 94 ∷ 202 ∷ 78 ∷ 212 ∷ 172 ∷ 229 ∷ 243 ∷ 115 ∷ 167 ∷ 87 ∷
    175 ∷ 88 ∷ 168 ∷ 80 ∷ 244 ∷ 234 ∷ 214 ∷ 116 ∷ 79 ∷ 174 ∷ 233 ∷ 213 ∷ 231 ∷ 230 ∷ 173 ∷ 232 ∷
    44 ∷ 215 ∷ 117 ∷ 122 ∷ 235 ∷ 22 ∷ 11 ∷ 245 ∷ 89 ∷ 203 ∷ 95 ∷ 176 ∷ 156 ∷ 169 ∷ 81 ∷ 160 ∷
    127 ∷ 12 ∷ 246 ∷ 111 ∷ 23 ∷ 196 ∷ 73 ∷ 236 ∷ 216 ∷ 67 ∷ 31 ∷ 45 ∷ 164 ∷ 118 ∷ 123 ∷ 183 ∷
    204 ∷ 187 ∷ 62 ∷ 90 ∷ 251 ∷ 96 ∷ 177 ∷ 134 ∷ 59 ∷ 82 ∷ 161 ∷ 108 ∷ 170 ∷ 85 ∷ 41 ∷ 157 ∷
    151 ∷ 178 ∷ 135 ∷ 144 ∷ 97 ∷ 190 ∷ 220 ∷ 252 ∷ 188 ∷ 149 ∷ 207 ∷ 205 ∷ 55 ∷ 63 ∷ 91 ∷ 209 ∷
    83 ∷ 57 ∷ 132 ∷ 60 ∷ 65 ∷ 162 ∷ 109 ∷ 71 ∷ 20 ∷ 42 ∷ 158 ∷ 93 ∷ 86 ∷ 242 ∷ 211 ∷ 171 ∷
    68 ∷ 17 ∷ 146 ∷ 217 ∷ 35 ∷ 32 ∷ 46 ∷ 137 ∷ 180 ∷ 124 ∷ 184 ∷ 38 ∷ 119 ∷ 153 ∷ 227 ∷ 165 ∷
    103 ∷ 74 ∷ 237 ∷ 222 ∷ 197 ∷ 49 ∷ 254 ∷ 24 ∷ 13 ∷ 99 ∷ 140 ∷ 128 ∷ 192 ∷ 247 ∷ 112 ∷ 7 ∷ []

-- each entry is 3 times the one before
tripled : ℕ → List ℕ → Bool
tripled x [] = true
tripled x (y ∷ ys) = eqb y (3 ⊗ x) && tripled y ys

from : (i x : ℕ) (ys : List ℕ) → x ≡ power 3 i → T (tripled x ys) → (k : ℕ) → k < length (x ∷ ys) → get_or (x ∷ ys) k 0 ≡ power 3 (i + k)
unfolding tripled power
from i x ys e t zero h = e ∙ ap (power 3) (sym (N.add-zero i))
from i x [] e t (suc k) h = absurd (not-suc-le-zero (le_of_suc-le-suc h))
from i x (y ∷ ys) e t (suc k) h =
    from (suc i) y ys (eqb→eq y (3 ⊗ x) (both_left (eqb y (3 ⊗ x)) (tripled y ys) t) ∙ ap (◌⊗◌ 3) e)
    (both_right (eqb y (3 ⊗ x)) (tripled y ys) t) k (le_of_suc-le-suc h)
    ∙ ap (power 3) (suc-add i k ∙ sym (add-suc i k))

rest : List ℕ → List ℕ
rest [] = []
rest (x ∷ xs) = xs

pub power-entry : (k : ℕ) → k < 510 → get_or powers k 0 ≡ power 3 k
unfolding powers rest tripled ◌⊗◌ product reduce power ◌⊕◌ cut
power-entry k h = from 0 1 (rest powers) refl tt k h ∙ ap (power 3) (zero-add k)

right : ℕ → ℕ → Bool
right zero l = ltb l 255
right (suc a) l = ltb l 255 && eqb (get_or powers l 0) (suc a)

rule : (a : ℕ) → a < 256 → T (right a (get_or logarithms a 0))
unfolding right powers logarithms
rule a h = at right logarithms tt a h

pub logarithm_lt : (a : ℕ) → a < 256 → get_or logarithms a 0 < 255
unfolding right
logarithm_lt zero h = ltb→lt (get_or logarithms 0 0) 255 (rule 0 h)
logarithm_lt (suc a) h =
    ltb→lt (get_or logarithms (suc a) 0) 255 (both_left (ltb (get_or logarithms (suc a) 0) 255) (eqb (get_or powers (get_or logarithms (suc a) 0) 0) (suc a)) (rule (suc a) h))

pub power_of_logarithm : (a : ℕ) → 0 < a → a < 256 → power 3 (get_or logarithms a 0) ≡ a
unfolding right
power_of_logarithm zero p h = absurd (not-suc-le-zero p)
power_of_logarithm (suc a) p h =
    sym (power-entry (get_or logarithms (suc a) 0) (let l : get_or logarithms (suc a) 0 < 255 = logarithm_lt (suc a) h in omega arith))
    ∙ eqb→eq (get_or powers (get_or logarithms (suc a) 0) 0) (suc a) (both_right (ltb (get_or logarithms (suc a) 0) 255) (eqb (get_or powers (get_or logarithms (suc a) 0) 0) (suc a)) (rule (suc a) h))
