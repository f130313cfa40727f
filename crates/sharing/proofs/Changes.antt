-- Changes of the strings of so many bytes, one_to_one and onto: none, and one of the beginnings beside one of the rest.
-- Assumes nothing.
use mathlib.Core.Path.{◌≡◌, refl, sym, ap, ap₂, ◌∙◌}
use mathlib.Core.List.{List, ◌++◌}
use Prim.Native.Nat.{ℕ, ◌+◌}
use native.Mathlib.Omega.{arith}
use lib.ListN.{take, drop, length-append, length-drop, take-append-drop}
use lib.Seq.{length-take-le, take_at, drop_at}
use Rattle.lists.specs.Each.{Byte}
use Rattle.lists.proofs.Each.{each_append, each_take, each_drop}
use Rattle.family.specs.Message.{Bytes}

pub record Change (n : ℕ) (change : List ℕ → List ℕ) : Type 0 where
  pub into : (bytes : List ℕ) → Bytes n bytes → Bytes n (change bytes)
  pub one_to_one : (bytes bytes' : List ℕ) → Bytes n bytes → Bytes n bytes' → change bytes ≡ change bytes' → bytes ≡ bytes'
  pub onto : (bytes : List ℕ) → Bytes n bytes → (from : List ℕ) × Bytes n from × (change from ≡ bytes)

pub unchanged : (n : ℕ) → Change n (λ bytes. bytes)
unchanged n = record { into = λ bytes B. B; one_to_one = λ bytes bytes' B B' e. e; onto = λ bytes B. (bytes, B, refl) }

-- the first a bytes, and those after them
module _ (a b : ℕ) where
  pub front : (bytes : List ℕ) → Bytes (a + b) bytes → Bytes a (take a bytes)
  front bytes (l, B) = (length-take-le a bytes (omega arith), each_take {A = ℕ} Byte a bytes B)

  pub back : (bytes : List ℕ) → Bytes (a + b) bytes → Bytes b (drop a bytes)
  back bytes (l, B) = (rw length-drop (omega arith), each_drop {A = ℕ} Byte a bytes B)

  joined : (bytes bytes' : List ℕ) → Bytes a bytes → Bytes b bytes' → Bytes (a + b) (bytes ++ bytes')
  joined bytes bytes' (l, B) (l', B') = (length-append bytes bytes' ∙ omega arith, each_append {A = ℕ} Byte bytes bytes' B B')

  module _ (f g : List ℕ → List ℕ) (F : Change a f) (G : Change b g) where
    abbrev pub side_by_side : List ℕ → List ℕ
    side_by_side bytes = f (take a bytes) ++ g (drop a bytes)

    fronts : (bytes : List ℕ) → Bytes (a + b) bytes → take a (side_by_side bytes) ≡ f (take a bytes)
    fronts bytes B = take_at (f (take a bytes)) (g (drop a bytes)) a (F.into (take a bytes) (front bytes B)).0

    backs : (bytes : List ℕ) → Bytes (a + b) bytes → drop a (side_by_side bytes) ≡ g (drop a bytes)
    backs bytes B = drop_at (f (take a bytes)) (g (drop a bytes)) a (F.into (take a bytes) (front bytes B)).0

    both_one : (bytes bytes' : List ℕ) → Bytes (a + b) bytes → Bytes (a + b) bytes' → side_by_side bytes ≡ side_by_side bytes' → bytes ≡ bytes'
    both_one bytes bytes' B B' e =
        let first : take a bytes ≡ take a bytes'
        = F.one_to_one (take a bytes) (take a bytes') (front bytes B) (front bytes' B') (sym (fronts bytes B) ∙ ap (take a) e ∙ fronts bytes' B') in
        let rest : drop a bytes ≡ drop a bytes'
        = G.one_to_one (drop a bytes) (drop a bytes') (back bytes B) (back bytes' B') (sym (backs bytes B) ∙ ap (drop a) e ∙ backs bytes' B') in
        sym (take-append-drop a bytes) ∙ ap₂ ◌++◌ first rest ∙ take-append-drop a bytes'

    both_onto : (bytes : List ℕ) → Bytes (a + b) bytes → (from : List ℕ) × Bytes (a + b) from × (side_by_side from ≡ bytes)
    both_onto bytes B =
        let first = F.onto (take a bytes) (front bytes B) in
        let rest = G.onto (drop a bytes) (back bytes B) in (
          first.0 ++ rest.0,
          joined first.0 rest.0 first.1 rest.1,
          ap₂ ◌++◌ (ap f (take_at first.0 rest.0 a first.1.0) ∙ first.2) (ap g (drop_at first.0 rest.0 a first.1.0) ∙ rest.2) ∙ take-append-drop a bytes,
        )

    pub both : Change (a + b) side_by_side
    both =
        record {
          into = λ bytes B. joined (f (take a bytes)) (g (drop a bytes)) (F.into (take a bytes) (front bytes B)) (G.into (drop a bytes) (back bytes B));
          one_to_one = both_one;
          onto = both_onto;
        }
