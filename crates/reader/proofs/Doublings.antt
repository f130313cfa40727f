-- The sum of weighted columns by one chain of doublings: one bit of the weights, column by column, and the bits from the highest down.
-- Assumes nothing.
use mathlib.Core.Path.{◌≡◌, sym, ap, ◌∙◌}
use mathlib.Core.List.{List, []}
use Prim.Native.Nat.{ℕ, zero, suc, ◌+◌, ◌*◌, ◌^◌, ◌/◌, ◌%◌, ◌≤◌, ◌<◌}
use native.Mathlib.Nat.{div-div-eq-div-mul, div-eq_of_lt, div-one, pow-suc, mul-div_cancel, zero-lt-suc}
use native.Mathlib.Numerals.{add-one}
use native.Mathlib.Omega.{arith}
use lib.Pow.{pow_pos}
use lib.ListN.{length, get_or, replicate, length-replicate}
use Rattle.lists.specs.Table.{tabulate}
use Rattle.lists.proofs.Each.{replicate-at}
use Rattle.lists.proofs.Table.{length-tabulate, get_or-tabulate, tabulate-same, tabulate_is}
use Rattle.gf256.specs.Byte.{◌⊕◌, ◌⊗◌}
use Rattle.gf256.specs.Lanes.{lanes, sums, scaled}
use Rattle.gf256.proofs.Laws.{⊕_assoc, ⊕_comm, ⊕-zero, ⊗_assoc, ⊗_comm, ⊗-zero, zero-⊗, ⊗_by_digit}
use Rattle.gf256.proofs.Shifting.{odd, even}
use Rattle.interpolation.specs.Polynomial.{sum_to}
use Rattle.interpolation.proofs.Laws.{sum_to-same, sum_to-zero, sum_to-linear}
use Rattle.columns.specs.Columns.{flat_column}
use Rattle.reader.specs.Decoding.{combined}

-- the byte of column i in block k
abbrev byte_at : List ℕ → ℕ → ℕ → ℕ
byte_at columns i k = get_or columns (i * lanes + k) 0

-- ---- one bit

-- the sum with those of the first n columns whose weight has the bit
abbrev pub marked : List ℕ → List ℕ → List ℕ → ℕ → ℕ → List ℕ
marked sum columns weights bit n = tabulate lanes (λ k. get_or sum k 0 ⊕ sum_to n (λ i. byte_at columns i k * (get_or weights i 0 / bit % 2)))

module _ (sum columns weights : List ℕ) (bit : ℕ) where
  pub marked_none : length sum ≡ lanes → sum ≡ marked sum columns weights bit 0
  unfolding sum_to
  marked_none long = tabulate_is sum lanes _ 0 long (λ k h. sym (⊕-zero (get_or sum k 0)))

  -- one column more
  module _ (i : ℕ) {total : List ℕ} (so_far : total ≡ marked sum columns weights bit i) {t : List ℕ} where
    next : length t ≡ lanes → ((k : ℕ) → k < lanes → get_or t k 0 ≡ get_or total k 0 ⊕ byte_at columns i k * (get_or weights i 0 / bit % 2))
        → t ≡ marked sum columns weights bit (i + 1)
    unfolding sum_to
    next long at =
        rw add-one
        (tabulate_is t lanes _ 0 long
        (λ k h. at k h
        ∙ ap (λ (s : ℕ). s ⊕ byte_at columns i k * (get_or weights i 0 / bit % 2)) (ap (λ (l : List ℕ). get_or l k 0) so_far ∙ get_or-tabulate lanes _ k 0 h)
        ∙ ⊕_assoc (get_or sum k 0) _ _))

    pub marked_more : {column more : List ℕ} → get_or weights i 0 / bit % 2 ≡ 1 → column ≡ flat_column columns i → more ≡ sums total column → t ≡ more
        → t ≡ marked sum columns weights bit (i + 1)
    unfolding sums flat_column
    marked_more has is added e =
        next (ap length (e ∙ added) ∙ length-tabulate lanes _)
        (λ k h. odd (get_or total k 0) (byte_at columns i k) (get_or weights i 0 / bit) has
        (ap (λ (l : List ℕ). get_or l k 0) (e ∙ added) ∙ get_or-tabulate lanes _ k 0 h
        ∙ ap (◌⊕◌ (get_or total k 0)) (ap (λ (l : List ℕ). get_or l k 0) is ∙ get_or-tabulate lanes _ k 0 h)))

    pub marked-same : (get_or weights i 0 / bit % 2 ≡ 1 → ⊥) → t ≡ total → t ≡ marked sum columns weights bit (i + 1)
    marked-same not e =
        next (ap length (e ∙ so_far) ∙ length-tabulate lanes _)
        (λ k h. even (get_or total k 0) (byte_at columns i k) (get_or weights i 0 / bit) not (ap (λ (l : List ℕ). get_or l k 0) e))

-- ---- the bits from the highest down

-- the sum of the first n columns, each times what its weight's bits from u on, a power of 2, make as a number of their own
abbrev upper : List ℕ → List ℕ → ℕ → ℕ → List ℕ
upper columns weights n u = tabulate lanes (λ k. sum_to n (λ i. get_or weights i 0 / u ⊗ byte_at columns i k))

-- the bits above `bit` are taken; `bit` is the next, and 0 after the last
pub record BitsAbove (columns weights : List ℕ) (n bit : ℕ) (sum : List ℕ) : Type 0 where
  pub place : ℕ
  pub next : bit ≡ 2 ^ place / 2
  pub sums : sum ≡ upper columns weights n (2 ^ place)

half : (j : ℕ) → 2 ^ suc j / 2 ≡ 2 ^ j
half j = ap (λ (u : ℕ). u / 2) (pow-suc 2 j) ∙ mul-div_cancel (2 ^ j) (zero-lt-suc 1)

-- the next bit b of a weight w: twice what the bits above make, and the bit
with_bit : (x w b : ℕ) → x < 256 → 2 ⊗ (w / (b * 2) ⊗ x) ⊕ x * (w / b % 2) ≡ w / b ⊗ x
with_bit x w b h =
    let v : ℕ = w / b in
    ap (λ (q : ℕ). 2 ⊗ (q ⊗ x) ⊕ x * (v % 2)) (sym (div-div-eq-div-mul w b 2))
    ∙ ⊕_comm (2 ⊗ (v / 2 ⊗ x)) (x * (v % 2))
    ∙ ap (◌⊕◌ (x * (v % 2))) (⊗_comm 2 (v / 2 ⊗ x) ∙ ⊗_assoc (v / 2) x 2 ∙ ⊗_comm (v / 2) (x ⊗ 2))
    ∙ sym (⊗_by_digit x v h) ∙ ⊗_comm x v

module _ (columns weights : List ℕ) (n : ℕ) where
  -- at the start no weight has a bit above
  bits_none : {bit : ℕ} (place : ℕ) → bit ≡ 2 ^ place / 2 → ((i : ℕ) → i < n → get_or weights i 0 < 2 ^ place)
      → BitsAbove columns weights n bit (replicate lanes 0)
  bits_none place first low =
      record {
        place = place;
        next = first;
        sums = tabulate_is (replicate lanes 0) lanes _ 0 (length-replicate {A = ℕ} lanes 0)
            (λ k h. replicate-at lanes k 0
            ∙ sym (sum_to-zero n _ (λ i b. ap (λ (q : ℕ). q ⊗ byte_at columns i k) (div-eq_of_lt (low i b)) ∙ zero-⊗ (byte_at columns i k))));
      }

  -- one bit more
  module _ (bytes : (i : ℕ) → get_or columns i 0 < 256) where
    more_at : (b : ℕ) {sum twice more : List ℕ} → sum ≡ upper columns weights n (b * 2) → twice ≡ scaled 2 sum → more ≡ marked twice columns weights b n
        → more ≡ upper columns weights n b
    unfolding scaled
    more_at b {sum} {twice} hs ht hm =
        hm ∙ tabulate-same lanes _ _
        (λ k h.
        let f : ℕ → ℕ = λ i. get_or weights i 0 / (b * 2) ⊗ byte_at columns i k in
        let g : ℕ → ℕ = λ i. byte_at columns i k * (get_or weights i 0 / b % 2) in
        ap (λ (s : ℕ). s ⊕ sum_to n g)
        (ap (λ (l : List ℕ). get_or l k 0) ht ∙ get_or-tabulate lanes _ k 0 h
        ∙ ap (◌⊗◌ 2) (ap (λ (l : List ℕ). get_or l k 0) hs ∙ get_or-tabulate lanes _ k 0 h))
        ∙ sym (sum_to-linear 2 n f g)
        ∙ sum_to-same n _ _ (λ i l. with_bit (byte_at columns i k) (get_or weights i 0) b (bytes (i * lanes + k))))

    pub bits_more : {bit : ℕ} {sum twice more : List ℕ} → 0 < bit → BitsAbove columns weights n bit sum → twice ≡ scaled 2 sum
        → more ≡ marked twice columns weights bit n → BitsAbove columns weights n (bit / 2) more
    bits_more {bit} {sum} {twice} {more} positive B ht hm = by B.place B.next B.sums
      where
        by : (j : ℕ) → bit ≡ 2 ^ j / 2 → sum ≡ upper columns weights n (2 ^ j) → BitsAbove columns weights n (bit / 2) more
        by zero e s = absurd (omega arith)
        by (suc j) e s =
            let is : bit ≡ 2 ^ j = e ∙ half j in
            let here : more ≡ upper columns weights n (2 ^ j) = more_at (2 ^ j) (rw (pow-suc 2 j) at s) ht (rw is at hm) in
            record { place = j; next = ap (λ (u : ℕ). u / 2) is; sums = here }

    -- the highest bit, before which there is nothing to double
    pub bits_first : (place : ℕ) {bit : ℕ} {more : List ℕ} → 0 < bit → bit ≡ 2 ^ place / 2 → ((i : ℕ) → i < n → get_or weights i 0 < 2 ^ place)
        → more ≡ marked (replicate lanes 0) columns weights bit n → BitsAbove columns weights n (bit / 2) more
    unfolding scaled
    bits_first place positive first low hm =
        bits_more positive (bits_none place first low)
        (tabulate_is (replicate lanes 0) lanes _ 0 (length-replicate {A = ℕ} lanes 0)
        (λ k h. replicate-at lanes k 0 ∙ sym (ap (◌⊗◌ 2) (replicate-at lanes k 0) ∙ ⊗-zero 2)))
        hm

  -- at the end the bits are the whole weights
  pub bits_all : (table : List (List ℕ)) (e : ℕ) {bit : ℕ} {sum : List ℕ} → ((i : ℕ) → i < n → get_or weights i 0 ≡ get_or (get_or table i []) e 0)
      → bit ≤ 0 → BitsAbove columns weights n bit sum → sum ≡ combined columns table e n
  unfolding combined
  bits_all table e {bit} {sum} chosen none B =
      by B.place B.next B.sums
      ∙ tabulate-same lanes _ _
      (λ k h. sum_to-same n _ _ (λ i l. ap (λ (w : ℕ). w ⊗ byte_at columns i k) (div-one (get_or weights i 0) ∙ chosen i l)))
    where
      by : (j : ℕ) → bit ≡ 2 ^ j / 2 → sum ≡ upper columns weights n (2 ^ j) → sum ≡ upper columns weights n 1
      by zero e s = s
      by (suc j) e s =
          let is : bit ≡ 2 ^ j = e ∙ half j in
          absurd (omega (arith, pow_pos j))
