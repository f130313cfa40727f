-- What is used once: each key byte in one row of one block, at one degree; each message byte of a block at most once among the rows that a count
-- sends, and at most once in a group.
-- Assumes nothing.
use Rattle.std.specs.Prelude.{◌≡◌, true, ℕ, ◌≤◌, ◌<◌}
use Rattle.lists.specs.Each.{occurs}
use Rattle.staircase.specs.Parameters.{Parameters, block, rows, prefix_rows, key_bytes}
use Rattle.staircase.specs.Coefficients.{key_place, group_of, count_of, origin}

-- of any parameters (`key_once` in proofs/Origin.antt): document 01's "never used in another row"
pub record KeyOnce (p : Parameters) : Type 0 where
  -- the place of a key lies in the key string of N blocks
  pub within : (N t j e : ℕ) → t < N → j < rows p → e < p.z → key_place (rows p) p.z t j e < key_bytes p N
  -- and is the place of no other key
  pub once : (t j e t' j' e' : ℕ) → j < rows p → e < p.z → j' < rows p → e' < p.z
      → key_place (rows p) p.z t j e ≡ key_place (rows p) p.z t' j' e' → (t ≡ t') × (j ≡ j') × (e ≡ e')

-- of an accepted scheme (`origin-once` in proofs/Origin.antt): of the rows that a count d sends, at the degrees from z, below d
abbrev pub OriginOnce : Parameters → Type 0
OriginOnce p =
    (d : ℕ) → occurs d p.counts ≡ true
    → (j e j' e' : ℕ) → j < prefix_rows p d → p.z ≤ e → e < d → j' < prefix_rows p d → p.z ≤ e' → e' < d
    → origin (block p) p.z p.counts j e ≡ origin (block p) p.z p.counts j' e' → (j ≡ j') × (e ≡ e')

-- of an accepted scheme (`origin_once_in_group` in proofs/Origin.antt): of the rows of one group, at all their degrees from z
abbrev pub OriginOnceInGroup : Parameters → Type 0
OriginOnceInGroup p =
    (j e j' e' : ℕ) → j < rows p → p.z ≤ e → e < count_of (block p) p.z p.counts j
    → j' < rows p → p.z ≤ e' → e' < count_of (block p) p.z p.counts j'
    → group_of (block p) p.z p.counts j ≡ group_of (block p) p.z p.counts j'
    → origin (block p) p.z p.counts j e ≡ origin (block p) p.z p.counts j' e' → (j ≡ j') × (e ≡ e')
