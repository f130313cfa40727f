-- Laws of a party's point: it is the party's number; it is a byte, and distinct parties of an accepted scheme have distinct points. The layers above
-- use the last two alone, but where the code works it out (`point_of` of rows) and in the worked examples, which compute.
-- Assumes nothing.
use mathlib.Core.Path.{◌≡◌, refl}
use mathlib.Core.Logic.{◌≢◌}
use mathlib.Core.List.{List, [], ◌∷◌, map}
use Prim.Native.Nat.{ℕ}
use native.Mathlib.Omega.{arith}
use Rattle.lists.specs.Each.{Each, Distinct, Byte}
use Rattle.scheme.proofs.Laws.{accepted}
use Rattle.staircase.specs.Parameters.{Parameters, AcceptedScheme, Party, point}

pub point_is : (p : Parameters) (s : ℕ) → point p s ≡ s
unfolding point
point_is p s = refl

module _ (p : Parameters) (A : AcceptedScheme p) where
  pub point-byte : (s : ℕ) → Party p s → Byte (point p s)
  unfolding point
  point-byte s h =
      let facts = accepted p.n p.r p.z p.counts A in
      omega (arith, facts.sizes.parties_high)

  pub point-apart : (s t : ℕ) → Party p s → Party p t → s ≢ t → point p s ≢ point p t
  unfolding point
  point-apart s t hs ht apart same = apart (omega arith)

  -- ---- the points of several parties

  pub points-bytes : (parties : List ℕ) → Each (Party p) parties → Each Byte (map (point p) parties)
  points-bytes [] h = tt
  points-bytes (s ∷ parties) h = (point-byte s h.0, points-bytes parties h.1)

  point-new : (s : ℕ) → Party p s → (parties : List ℕ) → Each (Party p) parties → Each (λ t. s ≢ t) parties → Each (λ x. point p s ≢ x) (map (point p) parties)
  point-new s hs [] h apart = tt
  point-new s hs (t ∷ parties) h apart = (point-apart s t hs h.0 apart.0, point-new s hs parties h.1 apart.1)

  pub points-distinct : (parties : List ℕ) → Each (Party p) parties → Distinct parties → Distinct (map (point p) parties)
  points-distinct [] h apart = tt
  points-distinct (s ∷ parties) h apart = (point-new s h.0 parties h.1 apart.0, points-distinct parties h.1 apart.1)
