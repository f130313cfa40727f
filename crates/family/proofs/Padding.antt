-- Laws of padding with a marked end: it is whole blocks of bytes, the end is found where it was put and nowhere else, and what is found can be taken
-- off again.
-- Assumes nothing.
use mathlib.Core.Path.{◌≡◌, refl, sym, ap, ◌∙◌}
use mathlib.Core.Bool.{true, false, not, ◌||◌}
use mathlib.Core.Logic.{◌≢◌, ⊎_elim}
use mathlib.Core.List.{List, [], ◌∷◌, ◌++◌, append_assoc}
use Prim.Native.Nat.{ℕ, zero, suc, ◌+◌, ◌-◌, ◌*◌, ◌/◌, ◌≤◌, ◌<◌}
use native.Mathlib.Nat.{not-suc-le-zero, eq-or-lt_of_le, eq-zero-or-pos, div-eq_of_lt-le}
use native.Mathlib.Omega.{arith}
use lib.Dec.{ltb, lit<}
use lib.ListN.{length, get_or, take, replicate, length-append, get_or-append}
use lib.Seq.{take_at, get_or_at, get_or-append-add, get_or-take, length-take-le, ext_get_or}
use borrow.Author.Tests.{eqb-true, eq-eqb, ne_eqb, ltb-true, ltb-false, not-false}
use Rattle.lists.specs.Each.{Each, Byte}
use Rattle.lists.specs.Table.{piece}
use Rattle.lists.proofs.Each.{each_append, replicate-at}
use Rattle.lists.proofs.Tests.{lt_or_le, neither}
use Rattle.lists.proofs.Joined.{last_row}
use Rattle.lists.proofs.Piece.{get_or-piece}
use Rattle.scheme.specs.Limits.{max_message}
use Rattle.scheme.specs.Padding.{end_marker, padded_count}
use Rattle.scheme.proofs.Laws.{padded_count_is, padded_count_full, padded_count_least, Reflects}
use Rattle.family.specs.Message.{Bytes, padded}
use Rattle.family.specs.Padding.{marked, PaddingOff, last_nonzero, end_place, end_missing, end_refused, EndsAt}
use Rattle.family.proofs.Message.{length-padded, padded-bytes}

-- ---- the padded message

module _ (m : ℕ) (message : List ℕ) where
  one_more : length (message ++ end_marker ∷ []) ≡ length message + 1
  one_more = length-append message (end_marker ∷ [])

  -- it is the message and the marker, padded with zeros
  pub marked_is : 0 < m → marked m message ≡ padded m (message ++ end_marker ∷ [])
  unfolding marked padded
  marked_is positive = rw (one_more, padded_count_is m (length message) positive) (sym (append_assoc message (end_marker ∷ []) _))

  pub length_marked : 0 < m → length (marked m message) ≡ padded_count m (length message) * m
  length_marked positive =
      ap length (marked_is positive)
      ∙ length-padded m (message ++ end_marker ∷ []) positive
      ∙ rw (one_more, padded_count_is m (length message) positive)

  pub marked-bytes : 0 < m → Each Byte message → Bytes (padded_count m (length message) * m) (marked m message)
  marked-bytes positive h = (
    length_marked positive,
    rw (marked_is positive) (padded-bytes m (message ++ end_marker ∷ []) positive (each_append {A = ℕ} Byte message (end_marker ∷ []) h (lit< tt, tt))).1,
  )

  -- it begins with the message: the padding can be taken off
  pub unmarked : take (length message) (marked m message) ≡ message
  unfolding marked
  unmarked = take_at message _ (length message) refl

  pub marked_begins : (i : ℕ) → i < length message → get_or (marked m message) i 0 ≡ get_or message i 0
  unfolding marked
  marked_begins i h = get_or-append message _ 0 i h

  -- and ends as it should
  pub marked_ends : 0 < m → EndsAt m (padded_count m (length message)) (marked m message) (length message)
  unfolding marked
  marked_ends positive =
      record {
        last_block = padded_count_full m (length message);
        within = omega (arith, (padded_count_least m (length message) positive).enough);
        marker = get_or_at message end_marker _ 0 (length message) refl;
        zeros = λ i h _.
            let place : i ≡ length message + suc (i - length message - 1) = omega arith in
            ap (λ (k : ℕ). get_or (marked m message) k 0) place
            ∙ get_or-append-add message (end_marker ∷ replicate (padded_count m (length message) * m - (length message + 1)) 0) (suc (i - length message - 1)) 0
            ∙ replicate-at (padded_count m (length message) * m - (length message + 1)) (i - length message - 1) 0;
      }

-- ---- the last byte that is not 0

module _ (bytes : List ℕ) (n : ℕ) where
  pub last_past : get_or bytes n 0 ≡ 0 → last_nonzero bytes (suc n) ≡ last_nonzero bytes n
  unfolding last_nonzero
  last_past e = simp (eq-eqb (get_or bytes n 0) 0 e)

  pub last_here : get_or bytes n 0 ≢ 0 → last_nonzero bytes (suc n) ≡ suc n
  unfolding last_nonzero
  last_here h = simp (ne_eqb (get_or bytes n 0) 0 h)

pub last_within : (bytes : List ℕ) (n : ℕ) → last_nonzero bytes n ≤ n
unfolding last_nonzero
last_within bytes zero = omega arith
last_within bytes (suc n) =
    ⊎_elim
    (λ (e : get_or bytes n 0 ≡ 0). omega (arith, last_past bytes n e, last_within bytes n))
    (λ (h : 0 < get_or bytes n 0). omega (arith, last_here bytes n (λ e. omega arith)))
    (eq-zero-or-pos (get_or bytes n 0))

-- after it there are zeros
pub last-zeros : (bytes : List ℕ) (n i : ℕ) → last_nonzero bytes n ≤ i → i < n → get_or bytes i 0 ≡ 0
last-zeros bytes zero i h l = absurd (not-suc-le-zero l)
last-zeros bytes (suc n) i h l =
    ⊎_elim
    (λ (e : get_or bytes n 0 ≡ 0).
    ⊎_elim
    (λ (same : i ≡ n). ap (λ (k : ℕ). get_or bytes k 0) same ∙ e)
    (λ (less : i < n). last-zeros bytes n i (omega (arith, last_past bytes n e)) less)
    (eq-or-lt_of_le {n = i} {m = n} (omega arith)))
    (λ (some : 0 < get_or bytes n 0).
    absurd (let no : ⊥ = omega (arith, last_here bytes n (λ e. omega arith)) in no))
    (eq-zero-or-pos (get_or bytes n 0))

-- it is the one after which there are zeros
last_is : (bytes : List ℕ) (n i : ℕ) → i < n → get_or bytes i 0 ≢ 0 → ((k : ℕ) → i < k → k < n → get_or bytes k 0 ≡ 0) → last_nonzero bytes n ≡ suc i
last_is bytes zero i l some zeros = absurd (not-suc-le-zero l)
last_is bytes (suc n) i l some zeros =
    ⊎_elim
    (λ (same : i ≡ n). last_here bytes n (rw same at some) ∙ ap suc (sym same))
    (λ (less : i < n).
    last_past bytes n (zeros n less (omega arith)) ∙ last_is bytes n i less some (λ k h b. zeros k h (omega arith)))
    (eq-or-lt_of_le {n = i} {m = n} (omega arith))

-- ---- the end that is found

module _ (m N : ℕ) (blocks : List ℕ) where
  -- the last block, byte by byte
  in-last : (k : ℕ) → k < m → get_or (piece m (N - 1) blocks) k 0 ≡ get_or blocks ((N - 1) * m + k) 0
  in-last k h = get_or-piece {A = ℕ} m (N - 1) blocks k 0 h

  module _ (some : 0 < N) where
    -- where the blocks end with a marker, that is the end that is found
    pub end_is : (message : ℕ) → EndsAt m N blocks message → end_place m N blocks ≡ message
    unfolding end_place
    end_is message E =
        let k : ℕ = message - (N - 1) * m in
        let place : (N - 1) * m + k ≡ message = omega (arith, E.last_block) in
        let below : k < m = omega (arith, E.within, last_row N m some) in
        let marker : get_or (piece m (N - 1) blocks) k 0 ≡ end_marker = in-last k below ∙ ap (λ (i : ℕ). get_or blocks i 0) place ∙ E.marker in
        let last : last_nonzero (piece m (N - 1) blocks) m ≡ suc k =
        last_is _ m k below (λ e. omega arith) (λ i h b. in-last i b ∙ E.zeros ((N - 1) * m + i) (omega arith) (omega (arith, last_row N m some))) in
        omega arith

    -- and where the byte that is found is the marker, the blocks end there
    pub end_found : 0 < m → end_missing m N blocks ≡ false → EndsAt m N blocks (end_place m N blocks)
    unfolding end_missing end_place
    end_found positive e =
        let last : List ℕ = piece m (N - 1) blocks in
        let up_to : ℕ = last_nonzero last m in
        record {
          last_block = omega arith;
          within = omega (arith, last_within last m, last_row N m some);
          marker = eqb-true _ _ (not-false _ e);
          zeros = λ i h b.
              let k : ℕ = i - (N - 1) * m in
              let place : (N - 1) * m + k ≡ i = omega arith in
              ap (λ (x : ℕ). get_or blocks x 0) (sym place)
              ∙ sym (in-last k (omega (arith, last_row N m some)))
              ∙ last-zeros last m k (omega arith) (omega (arith, last_row N m some));
        }

    pub end_there : (message : ℕ) → EndsAt m N blocks message → end_missing m N blocks ≡ false
    unfolding end_missing
    end_there message E = ap not (eq-eqb _ _ (ap (λ (i : ℕ). get_or blocks i 0) (end_is message E) ∙ E.marker))

    -- refusal 11, both ways
    pub no_end_lem : 0 < m → Reflects (end_refused m N blocks) ((message : ℕ) → EndsAt m N blocks message → max_message < message)
    unfolding end_refused
    no_end_lem positive =
        record {
          holds = λ e message E.
              let long : ltb max_message (end_place m N blocks) ≡ true = sym (ap (λ t. t || ltb max_message (end_place m N blocks)) (end_there message E)) ∙ e in
              omega (arith, ltb-true max_message (end_place m N blocks) long, end_is message E);
          fails = λ e far.
              let passed = neither (end_missing m N blocks) (ltb max_message (end_place m N blocks)) e in
              omega (arith, ltb-false max_message (end_place m N blocks) passed.1, far (end_place m N blocks) (end_found positive passed.0));
        }

-- ---- no two ends, and no two messages

ends_before : (m n N M : ℕ) (blocks : List ℕ) (message other : ℕ) → N * m ≡ M * n → EndsAt m N blocks message → EndsAt n M blocks other → message < other → ⊥
ends_before m n N M blocks message other same E F h =
    let zero-there : get_or blocks other 0 ≡ 0 = E.zeros other h (omega (arith, F.within)) in
    omega (arith, F.marker)

-- two messages with the same padded string are equal
pub marked_one : (m : ℕ) (message other : List ℕ) → 0 < m → marked m message ≡ marked m other → message ≡ other
marked_one m message other positive e =
    let E = marked_ends m message positive in
    let F : EndsAt m (padded_count m (length other)) (marked m message) (length other) = rw e (marked_ends m other positive) in
    let same : padded_count m (length message) * m ≡ padded_count m (length other) * m =
    sym (length_marked m message positive) ∙ ap length e ∙ length_marked m other positive in
    let no_less : length message < length other → ⊥ = ends_before _ _ _ _ (marked m message) _ _ same E F in
    let no_more : length other < length message → ⊥ = ends_before _ _ _ _ (marked m message) _ _ (sym same) F E in
    let long : length message ≡ length other =
    ⊎_elim (λ (h : length message < length other). absurd (no_less h))
    (λ (h : length other ≤ length message). ⊎_elim (λ (q : length other ≡ length message). sym q) (λ (q : length other < length message). absurd (no_more q)) (eq-or-lt_of_le h))
    (lt_or_le (length message) (length other)) in
    sym (unmarked m message) ∙ ap (take (length message)) e ∙ ap (λ (n : ℕ). take n (marked m other)) long ∙ unmarked m other

pub padding_off : (m : ℕ) → 0 < m → PaddingOff m
padding_off m positive =
    record {
      whole = λ message. length_marked m message positive;
      begins = unmarked m;
      once = λ message other. marked_one m message other positive;
    }

-- ---- blocks that end with a marker are a padded message

module _ (m N : ℕ) (blocks : List ℕ) (message : ℕ) (positive : 0 < m) (some : 0 < N) (E : EndsAt m N blocks message) where
  -- they are as many as that message makes
  pub ends_count : padded_count m message ≡ N
  unfolding padded_count
  ends_count =
      let e : N - 1 + 1 ≡ N = omega arith in
      let full : message / m ≡ N - 1 = div-eq_of_lt-le m E.last_block (rw e E.within) in
      omega arith

  module _ (whole : length blocks ≡ N * m) where
    pub ends_length : length (take message blocks) ≡ message
    ends_length = length-take-le message blocks (omega (arith, E.within))

    -- and are its padded string
    pub ends_marked : blocks ≡ marked m (take message blocks)
    ends_marked =
        let begin : List ℕ = take message blocks in
        let M : EndsAt m (padded_count m message) (marked m begin) message = rw ends_length at (marked_ends m begin positive) in
        let long : length (marked m begin) ≡ N * m = length_marked m begin positive ∙ rw (ends_length, ends_count) in
        ext_get_or 0 blocks (marked m begin) (whole ∙ sym long)
        (λ i b.
        ⊎_elim (λ (h : i < message). sym (get_or-take message blocks i 0 h) ∙ sym (marked_begins m begin i (rw ends_length h)))
        (λ (h : message ≤ i).
        ⊎_elim (λ (e : message ≡ i). rw (← e) (E.marker ∙ sym M.marker))
        (λ (l : message < i). E.zeros i l (omega arith) ∙ sym (M.zeros i l (rw ends_count (omega arith))))
        (eq-or-lt_of_le h))
        (lt_or_le i message))
