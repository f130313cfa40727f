-- What the steps of a rebuilding do. The shares are those of the parties of a list, in the scheme s; the one at place `skip` is left out, or none where
-- there is no such place.
-- Assumes nothing.
use Rattle.std.specs.Prelude.{◌≡◌, Bool, false, ◌||◌, List, map, ℕ, ◌+◌, ◌-◌, ◌*◌, ◌≤◌, ◌<◌, eqb, length, get_or, take}
use Rattle.lists.specs.Differing.{differing}
use Rattle.lists.specs.Table.{piece}
use Rattle.lists.specs.Without.{without, without_piece}
use Rattle.interpolation.specs.Opening.{opening_table}
use Rattle.scheme.specs.declared.accepted.Scheme.{Scheme}
use Rattle.scheme.specs.Limits.{max_block, max_blocks, max_message}
use Rattle.scheme.specs.Readers.{readers_refused}
use Rattle.staircase.specs.Parameters.{parameters_of, point}
use Rattle.agreement.specs.Agreement.{found_blocks, rebuilt, agrees}

-- what is lent: enough shares of N blocks without the one left out
pub record Lending (s : Scheme) (parties : List ℕ) (blocks skip : ℕ) (shares : List ℕ) : Type 0 where
  pub passed : readers_refused s.n parties ≡ false
  pub blocks_high : blocks ≤ max_blocks
  pub shares_long : length shares ≡ length parties * (s.rows * blocks)
  pub bytes : (i : ℕ) → get_or shares i 0 < 256
  pub many : s.n - s.r ≤ length (without skip parties)

-- the blocks are no longer than the longest message and a block, and a share is no longer than the blocks
pub record RoomFits (s : Scheme) (blocks : ℕ) : Type 0 where
  pub blocks_fit : blocks * s.block ≤ max_message + max_block
  pub share_fits : s.rows * blocks ≤ blocks * s.block

-- the first n − r shares that are left
abbrev pub first_in : Scheme → ℕ → ℕ → List ℕ → List ℕ
first_in s blocks skip shares = take ((s.n - s.r) * (s.rows * blocks)) (without_piece (s.rows * blocks) skip shares)

-- the weights of an opening by the first n − r parties that are left
abbrev pub weights_in : Scheme → List ℕ → ℕ → List (List ℕ)
weights_in s parties skip = opening_table (map (point (parameters_of s)) (take (s.n - s.r) (without skip parties))) (get_or s.counts.now 0 0)

-- the blocks, a party's share and the test of agreement, from what is left
abbrev pub found_in : Scheme → List ℕ → ℕ → ℕ → List ℕ → List ℕ
found_in s parties blocks skip shares = found_blocks (parameters_of s) (without skip parties) blocks (without_piece (s.rows * blocks) skip shares)

abbrev pub rebuilt_in : Scheme → List ℕ → ℕ → ℕ → List ℕ → ℕ → List ℕ
rebuilt_in s parties blocks skip shares party = rebuilt (parameters_of s) (without skip parties) blocks (without_piece (s.rows * blocks) skip shares) party

abbrev pub agrees_in : Scheme → List ℕ → ℕ → ℕ → List ℕ → Bool
agrees_in s parties blocks skip shares = agrees (parameters_of s) (without skip parties) blocks (without_piece (s.rows * blocks) skip shares)

-- is the share at place a left out, or what is rebuilt for its party?
abbrev pub same_at : Scheme → List ℕ → ℕ → ℕ → List ℕ → ℕ → Bool
same_at s parties blocks skip shares a =
    eqb a skip || eqb (differing (rebuilt_in s parties blocks skip shares (get_or parties a 0)) (piece (s.rows * blocks) a shares)) 0
