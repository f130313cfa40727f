-- Laws of the blocks of padded messages: how many there are, and which lengths tell a number of blocks.
-- Assumes nothing.
use mathlib.Core.Path.{◌≡◌, refl, sym, ap, ◌∙◌}
use mathlib.Core.Bool.{true, ◌&&◌}
use Prim.Native.Nat.{ℕ, ◌+◌, ◌-◌, ◌*◌, ◌/◌, ◌%◌, ◌≤◌, ◌<◌}
use native.Mathlib.Nat.{div-zero, div-add-mod', mod-lt, div-le_self, div-mul-le_self, div-lt_iff_lt-mul, le-div_iff_mul-le, mul-div_cancel, add-div_right, add-mul, one-mul}
use native.Mathlib.Omega.{arith}
use lib.Dec.{eqb, leb}
use borrow.Author.Tests.{eqb-true, eq-eqb, ne_eqb, leb-true, le-leb, lt-leb}
use Rattle.lists.proofs.Tests.{both, cond_ind, test_positive}
use Rattle.scheme.specs.Limits.{max_message, max_blocks}
use Rattle.scheme.specs.Check.{block_count}
use Rattle.scheme.specs.Facts.{FewestBlocks}
use Rattle.scheme.specs.Padding.{padded_count, most_padded, blocks_held, NoMessageGives}
use Rattle.scheme.proofs.Grounds.{Reflects}

-- ---- N of a padded message

pub padded_count_positive : (m message : ℕ) → 0 < padded_count m message
unfolding padded_count
padded_count_positive m message = omega arith

-- as many as those of a message that is a byte longer, where zeros pad it
pub padded_count_is : (m message : ℕ) → 0 < m → padded_count m message ≡ block_count m (message + 1)
unfolding padded_count block_count
padded_count_is m message positive =
    let e : message + 1 + (m - 1) ≡ message + m = omega arith in
    sym (ap (λ (x : ℕ). x / m) e ∙ add-div_right message positive)

-- the first N − 1 blocks are full
pub padded_count_full : (m message : ℕ) → (padded_count m message - 1) * m ≤ message
unfolding padded_count
padded_count_full m message =
    let e : message / m + 1 - 1 ≡ message / m = omega arith in
    rw e (div-mul-le_self message m)

-- N in words: the fewest blocks that hold the message and one byte more
pub padded_count_least : (m message : ℕ) → 0 < m → FewestBlocks m (message + 1) (padded_count m message)
unfolding padded_count
padded_count_least m message positive =
    record {
      enough = omega (arith, div-add-mod' message m, mod-lt message positive, add-mul (message / m) 1 m, one-mul m);
      fewest = λ blocks h. let below : message / m < blocks = (div-lt_iff_lt-mul positive).1 (omega arith) in omega arith;
    }

-- N is told by the blocks that are full
pub padded-count_of : (m N : ℕ) → 0 < m → 0 < N → padded_count m ((N - 1) * m) ≡ N
unfolding padded_count
padded-count_of m N positive some = omega (arith, mul-div_cancel (N - 1) positive)

module _ (m message : ℕ) (short : message ≤ max_message) where
  pub padded_count_most : 0 < m → padded_count m message ≤ most_padded m
  unfolding padded_count
  padded_count_most positive =
      let less : message / m ≤ max_message / m = (le-div_iff_mul-le positive).1 (omega (arith, div-mul-le_self message m)) in
      omega arith

  pub padded_count_few : padded_count m message ≤ max_blocks
  unfolding padded_count
  padded_count_few = omega (arith, div-le_self message m)

-- of no more blocks than the most, all but the last are no longer than the longest message
pub most_full : (m N : ℕ) → 0 < m → N ≤ most_padded m → (N - 1) * m ≤ max_message
unfolding padded_count
most_full m N positive h = (le-div_iff_mul-le positive).0 (omega arith)

-- ---- the blocks that a length tells

-- the code's ways out
module _ (most unit bytes : ℕ) where
  pub held_no_unit : unit ≡ 0 → 0 ≡ blocks_held most unit bytes
  unfolding blocks_held
  held_no_unit e =
      let none : bytes / unit ≡ 0 = ap (λ (x : ℕ). bytes / x) e ∙ div-zero bytes in
      rw none (cond_ind (λ (N : ℕ). 0 ≡ N) {t = eqb bytes (0 * unit) && leb 0 most} (λ _. refl) (λ _. refl))

  pub held-part : (bytes % unit ≡ 0 → ⊥) → 0 ≡ blocks_held most unit bytes
  unfolding blocks_held
  held-part h = simp (ne_eqb bytes (bytes / unit * unit) (λ e. h (omega (arith, div-add-mod' bytes unit))))

  module _ (whole : bytes % unit ≡ 0) where
    exact : eqb bytes (bytes / unit * unit) ≡ true
    exact = eq-eqb bytes (bytes / unit * unit) (omega (arith, div-add-mod' bytes unit))

    pub held_over : most < bytes / unit → 0 ≡ blocks_held most unit bytes
    unfolding blocks_held
    held_over h = simp (exact, lt-leb (bytes / unit) most h)

    pub held_whole : bytes / unit ≤ most → bytes / unit ≡ blocks_held most unit bytes
    unfolding blocks_held
    held_whole h = simp (exact, le-leb (bytes / unit) most h)

pub held-told : (most unit bytes : ℕ) → 0 < blocks_held most unit bytes
    → (bytes ≡ blocks_held most unit bytes * unit) × (blocks_held most unit bytes ≤ most)
unfolding blocks_held
held-told most unit bytes =
    cond_ind (λ (N : ℕ). 0 < N → (bytes ≡ N * unit) × (N ≤ most)) {t = eqb bytes (bytes / unit * unit) && leb (bytes / unit) most}
    (λ e h. let yes = both _ _ e in (eqb-true _ _ yes.0, leb-true _ _ yes.1))
    (λ e h. absurd (let no : ⊥ = omega arith in no))

-- it is the quotient
pub held_quotient : (most unit bytes : ℕ) → 0 < blocks_held most unit bytes → blocks_held most unit bytes ≡ bytes / unit
unfolding blocks_held
held_quotient most unit bytes =
    cond_ind (λ (N : ℕ). 0 < N → N ≡ bytes / unit) {t = eqb bytes (bytes / unit * unit) && leb (bytes / unit) most}
    (λ e h. refl)
    (λ e h. absurd (let no : ⊥ = omega arith in no))

pub held_of : (most unit N : ℕ) → 0 < unit → N ≤ most → blocks_held most unit (N * unit) ≡ N
unfolding blocks_held
held_of most unit N positive h =
    let e : N * unit / unit ≡ N = mul-div_cancel N positive in
    simp (e, eq-eqb (N * unit) (N * unit) refl, le-leb N most h)

-- a length tells no blocks just if no padded message of an accepted length makes it
pub none_gives : (m unit bytes : ℕ) → 0 < m → 0 < unit → Reflects (eqb (blocks_held (most_padded m) unit bytes) 0) (NoMessageGives m unit bytes)
none_gives m unit bytes positive some =
    record {
      holds = λ e message short is.
          let told : blocks_held (most_padded m) unit bytes ≡ padded_count m message =
          ap (blocks_held (most_padded m) unit) is ∙ held_of (most_padded m) unit (padded_count m message) some (padded_count_most m message short positive) in
          omega (arith, eqb-true (blocks_held (most_padded m) unit bytes) 0 e, padded_count_positive m message);
      fails = λ e none.
          let N : ℕ = blocks_held (most_padded m) unit bytes in
          let above : 0 < N = test_positive N e in
          let told = held-told (most_padded m) unit bytes above in
          none ((N - 1) * m) (most_full m N positive told.1) (told.0 ∙ ap (λ (x : ℕ). x * unit) (sym (padded-count_of m N positive above)));
    }
