-- The sheet's text: a count more makes a line more, and no text is longer than there is room for. A number has at most 6 digits, so a
-- count's line has at most 21 bytes, 8 of them 168, and the first line at most 25.
-- Assumes nothing.
use mathlib.Core.Path.{◌≡◌, refl, sym, ap, ◌∙◌}
use mathlib.Core.Bool.{Bool, true, false}
use mathlib.Core.List.{List, [], ◌∷◌, ◌++◌, append-nil, append_assoc}
use mathlib.Core.Logic.{⊎_elim}
use Prim.Native.Nat.{ℕ, suc, ◌-◌, ◌*◌, ◌/◌, ◌<◌, ◌≤◌, suc-le-suc}
use native.Mathlib.Nat.{div-le_self, mul-le-mul, eq-zero-or-pos}
use native.Mathlib.Omega.{arith}
use lib.ListN.{length, get_or, take, drop, length-append}
use borrow.Author.Tests.{eq-eqb, ne_eqb}
use Rattle.scheme.specs.declared.accepted.Scheme.{Scheme}
use Rattle.scheme.specs.declared.refusal.Refusal.{Refusal}
use Rattle.scheme.specs.Facts.{SchemeIs}
use Rattle.scheme.specs.Refusals.{number}
use Rattle.scheme.specs.Limits.{max_parties, max_block, default_n, default_r, default_z, default_counts}
use Rattle.scheme.specs.Outcome.{refused, number_if, first_of}
use Rattle.scheme.specs.BlockLength.{block_length}
use Rattle.scheme.specs.Check.{parties_refused, thresholds_refused, counts_refused, block_refused, refusal, rows_of_count, rows_of_block, checked}
use Rattle.sheet.specs.Sheet.{decimal, line, count_line, count_lines, scheme_text, sheet_text, word_block, word_rows, word_refused, max_input}
use Rattle.sheet.specs.Writing.{max_text}
use Rattle.scheme.proofs.Laws.{accepted, scheme_own, scheme-told}
use Rattle.sheet.proofs.Decimal.{decimal_short}

pub count_lines_more : (m z : ℕ) (ds : List ℕ) (d : ℕ) → count_lines m z (ds ++ (d ∷ [])) ≡ count_lines m z ds ++ count_line m z d
unfolding count_lines
count_lines_more m z [] d = append-nil (count_line m z d)
count_lines_more m z (e ∷ ds) d =
    ap (λ l. count_line m z e ++ l) (count_lines_more m z ds d) ∙ sym (append_assoc (count_line m z e) (count_lines m z ds) (count_line m z d))

pub rows_most : (m z d : ℕ) → rows_of_count m z d ≤ m
unfolding rows_of_count
rows_most m z d = div-le_self m (d - z)

count_line_short : (m z d : ℕ) → m ≤ max_block → d ≤ max_parties → length (count_line m z d) ≤ 21
unfolding count_line line
count_line_short m z d hm hd =
    let p : rows_of_count m z d ≤ max_block = omega (arith, rows_most m z d) in
    let q : d * rows_of_count m z d ≤ max_parties * max_block = mul-le-mul hd p in
    simp length-append
    (omega (arith, decimal_short d (omega arith), decimal_short (rows_of_count m z d) (omega arith), decimal_short (d * rows_of_count m z d) (omega arith)))

count_lines_short : (m z : ℕ) (ds : List ℕ) → m ≤ max_block → ((i : ℕ) → i < length ds → get_or ds i 0 ≤ max_parties)
    → length (count_lines m z ds) ≤ 21 * length ds
unfolding count_lines
count_lines_short m z [] hm h = omega arith
count_lines_short m z (d ∷ ds) hm h =
    simp length-append
    (omega (arith, count_line_short m z d hm (h 0 (omega arith)), count_lines_short m z ds hm (λ i l. h (suc i) (suc-le-suc l))))

number_most : (s t u v : Bool) → first_of (number_if 1 s ∷ number_if 2 t ∷ number_if 3 u ∷ number_if 4 v ∷ []) ≤ 4
unfolding first_of
number_most true t u v = omega arith
number_most false true u v = omega arith
number_most false false true v = omega arith
number_most false false false true = omega arith
number_most false false false false = omega arith

refusal_most : (n r z : ℕ) (ds : List ℕ) → refusal n r z ds ≤ 4
unfolding refusal
refusal_most n r z ds = number_most (parties_refused n) (thresholds_refused n r z) (counts_refused n r ds) (block_refused z ds)

-- a scheme's block length is within its limit
pub block_most : (s : Scheme) → s.block ≤ max_block
block_most s =
    let is = scheme_own s in
    omega (arith, (accepted s.n s.r s.z s.counts.now is.passed).limit, is.block_is)

-- the two cases of a scheme's text, from what the check answers
module _ (n r z : ℕ) (ds : List ℕ) where
  text_accepted : refusal n r z ds ≡ 0 → scheme_text n r z ds
      ≡ line (word_block ∷ decimal (block_length z ds) ∷ word_rows ∷ decimal (rows_of_block n r z (block_length z ds)) ∷ []) ++ count_lines (block_length z ds) z ds
  unfolding scheme_text
  text_accepted e = rw (eq-eqb (refusal n r z ds) 0 e)

  text_refused : (refusal n r z ds ≡ 0 → ⊥) → scheme_text n r z ds ≡ line (word_refused ∷ decimal (refusal n r z ds) ∷ [])
  unfolding scheme_text
  text_refused e = rw (ne_eqb (refusal n r z ds) 0 e)

  pub accepted_text : (s : Scheme) → SchemeIs s n r z ds → s.counts.now ≡ ds
      → scheme_text n r z ds ≡ line (word_block ∷ decimal s.block ∷ word_rows ∷ decimal s.rows ∷ []) ++ count_lines s.block s.z s.counts.now
  accepted_text s is lent = rw (is.block_is, is.rows_is, is.z_is, lent) (text_accepted is.passed)

  pub refused_text : (q : Refusal) → refused (number q) ≡ checked n r z ds → scheme_text n r z ds ≡ line (word_refused ∷ decimal (number q) ∷ [])
  refused_text q e =
      let told = scheme-told n r z ds q e in
      rw (sym told.0) (text_refused (λ passed. omega (arith, told.1)))

  pub scheme_text_short : length (scheme_text n r z ds) ≤ max_text
  unfolding line rows_of_block
  scheme_text_short =
      ⊎_elim
      (λ e.
      let m : ℕ = block_length z ds in
      let a = accepted n r z ds e in
      let rows = div-le_self m (n - r - z) in
      let lines = count_lines_short m z ds a.limit (λ i h. omega (arith, a.high i h, a.sizes.parties_high)) in
      rw (text_accepted e)
      (simp length-append
      (omega (arith, lines, a.most, decimal_short m (omega (arith, a.limit)), decimal_short (m / (n - r - z)) (omega (arith, a.limit, rows))))))
      (λ some.
      rw (text_refused (λ e. omega arith))
      (simp length-append (omega (arith, decimal_short (refusal n r z ds) (omega (arith, refusal_most n r z ds))))))
      (eq-zero-or-pos (refusal n r z ds))

-- what the input stands for
pub sheet_default : (input : List ℕ) → length input ≡ 0 → (n r z : ℕ) (ds : List ℕ) → (n ≡ default_n) × (r ≡ default_r) × (z ≡ default_z) × (ds ≡ default_counts)
    → sheet_text input ≡ scheme_text n r z ds
unfolding sheet_text
sheet_default [] e n r z ds is = rw (is.0, is.1, is.2, is.3) refl
sheet_default (first ∷ more) e n r z ds is = absurd (let no : ⊥ = omega arith in no)

pub sheet-given : (input : List ℕ) → (length input ≡ 0 → ⊥)
    → sheet_text input ≡ scheme_text (get_or input 0 0) (get_or input 1 0) (get_or input 2 0) (drop 3 (take max_input input))
unfolding sheet_text
sheet-given [] e = absurd (e refl)
sheet-given (n ∷ more) e = refl
