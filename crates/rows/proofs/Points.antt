-- The points of parties in an array: how a loop fills it, and what the array holds.
-- Assumes nothing.
use mathlib.Core.Path.{◌≡◌, refl, sym, ap, ◌∙◌}
use mathlib.Core.List.{List, map}
use Prim.Native.Nat.{ℕ, ◌+◌, ◌≤◌, ◌<◌, min, zero-le}
use native.Mathlib.Omega.{arith}
use lib.ListN.{length, get_or, take, set, replicate, length-map}
use lib.Seq.{get_or-take, length-take-le}
use borrow.Author.Tests.{lt-ltb, le-ltb}
use Rattle.lists.proofs.Each.{replicate-at, get_or-map}
use Rattle.lists.proofs.Table.{length-tabulate, get_or-tabulate, tabulate_is}
use Rattle.interpolation.specs.Interpolation.{side}
use Rattle.staircase.specs.Parameters.{Parameters, point}
use Rattle.rows.specs.Points.{point_at, points_at, points_of, party_points}
use Rattle.lists.proofs.Known.{Written, written_more, written_all}

module _ (p : Parameters) (many : ℕ) (s : ℕ → ℕ) where
  here : (i : ℕ) → i < many → point_at p many s i ≡ point p (s i)
  unfolding point_at
  here i h = rw (lt-ltb i many h)

  beyond : (i : ℕ) → many ≤ i → point_at p many s i ≡ 0
  unfolding point_at
  beyond i h = rw (le-ltb i many h)

  -- ---- the loop

  pub points_none : Written 0 (point_at p many s) side (min many side) 0 (replicate side 0)
  points_none = record { long = refl; is = λ k l left. replicate-at side k 0 ∙ sym (beyond k (omega (arith, left zero-le))) }

  pub points_more : {i x : ℕ} {points : List ℕ} → Written 0 (point_at p many s) side (min many side) i points → i < min many side → x ≡ point p (s i)
      → Written 0 (point_at p many s) side (min many side) (i + 1) (set points i x)
  points_more {i} W h x-is = written_more W h (omega arith) (x-is ∙ sym (here i (omega arith)))

  pub points-all : {i : ℕ} {points : List ℕ} → Written 0 (point_at p many s) side (min many side) i points → min many side ≤ i → points ≡ points_at p many s
  unfolding points_at
  points-all W h = written_all W h

  -- ---- the entries of as many parties

  module _ (points : List ℕ) (are : points ≡ points_at p many s) (few : many ≤ side) where
    long : length (take many points) ≡ many
    unfolding points_at
    long = length-take-le many points (rw (are, length-tabulate side (point_at p many s)) few)

    at : (i : ℕ) → i < many → get_or (take many points) i 0 ≡ point p (s i)
    unfolding points_at
    at i h =
        get_or-take many points i 0 h
        ∙ ap (λ (l : List ℕ). get_or l i 0) are
        ∙ get_or-tabulate side (point_at p many s) i 0 (omega arith)
        ∙ here i h

-- ---- for whoever reads the points, in a scheme, where there are at most 16 parties: the first entries are the parties' points

pub points_are : (p : Parameters) (parties points : List ℕ) → points ≡ points_of p parties → length parties ≤ side
    → take (length parties) points ≡ map (point p) parties
unfolding points_of
points_are p parties points are few =
    let s : ℕ → ℕ = λ i. get_or parties i 0 in
    let rule : ℕ → ℕ = λ i. point p (s i) in
    tabulate_is _ (length parties) rule 0 (long p (length parties) s points are few) (at p (length parties) s points are few)
    ∙ sym (tabulate_is _ (length parties) rule 0 (length-map parties (point p)) (λ i b. get_or-map (point p) parties i 0 0 b))

module _ (p : Parameters) (n : ℕ) (points : List ℕ) (are : points ≡ party_points p n) (few : n ≤ side) where
  pub party_points_long : length (take n points) ≡ n
  unfolding party_points
  party_points_long = long p n (λ i. i + 1) points are few

  pub party_point : (a : ℕ) → a < n → get_or (take n points) a 0 ≡ point p (a + 1)
  unfolding party_points
  party_point a h = at p n (λ i. i + 1) points are few a h
