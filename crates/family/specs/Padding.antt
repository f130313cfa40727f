-- Padding that shows where the message ends (document 02, a; ISO/IEC 7816-4): a byte 128 right after the message, then zeros to the block's end.
-- Assumes nothing.
use Rattle.std.specs.Prelude.{◌≡◌, Bool, cond, not, ◌||◌, List, ◌∷◌, ◌++◌, ℕ, zero, suc, ◌+◌, ◌-◌, ◌*◌, ◌≤◌, ◌<◌, eqb, ltb, length, get_or, take, replicate}
use Rattle.lists.specs.Table.{piece}
use Rattle.scheme.specs.Limits.{max_message}
use Rattle.scheme.specs.Padding.{end_marker, padded_count}

-- the message as whole blocks of m bytes: N of them, L ÷ m rounded down, plus 1
unfoldable pub marked : ℕ → List ℕ → List ℕ
marked m message = message ++ end_marker ∷ replicate (padded_count m (length message) * m - (length message + 1)) 0

-- of every block length m above 0 (`padding_off` in proofs/Padding.antt): the padding can be taken off again, and no two messages have the same padded
-- string
pub record PaddingOff (m : ℕ) : Type 0 where
  pub whole : (message : List ℕ) → length (marked m message) ≡ padded_count m (length message) * m
  pub begins : (message : List ℕ) → take (length message) (marked m message) ≡ message
  pub once : (message other : List ℕ) → marked m message ≡ marked m other → message ≡ other

-- ---- the end, found again in N whole blocks of m bytes

-- one more than the place of the last of the first n bytes that is not 0; 0 where all are 0
unfoldable pub last_nonzero : List ℕ → ℕ → ℕ
last_nonzero bytes zero = 0
last_nonzero bytes (suc n) =
    let earlier : ℕ = last_nonzero bytes n in
    cond (eqb (get_or bytes n 0) 0) earlier (suc n)

-- the place of the last block's last byte that is not 0, and the block's first place where all are 0: the length L of the message, if the marker is there
unfoldable pub end_place : ℕ → ℕ → List ℕ → ℕ
end_place m N blocks = (N - 1) * m + (last_nonzero (piece m (N - 1) blocks) m - 1)

-- the byte there is not the marker, which none of a block of zeros is
unfoldable pub end_missing : ℕ → ℕ → List ℕ → Bool
end_missing m N blocks = not (eqb (get_or blocks (end_place m N blocks) 0) end_marker)

-- refusal 11: there is no end, or the message would be longer than the limit
unfoldable pub end_refused : ℕ → ℕ → List ℕ → Bool
end_refused m N blocks = end_missing m N blocks || ltb max_message (end_place m N blocks)

-- in words: the blocks end as those of a padded message of so many bytes do. In the last block the marker stands at that place, and only zeros after it
pub record EndsAt (m N : ℕ) (blocks : List ℕ) (message : ℕ) : Type 0 where
  pub last_block : (N - 1) * m ≤ message
  pub within : message < N * m
  pub marker : get_or blocks message 0 ≡ end_marker
  pub zeros : (i : ℕ) → message < i → i < N * m → get_or blocks i 0 ≡ 0
