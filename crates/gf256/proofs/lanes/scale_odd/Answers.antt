-- A product by shifting at every place.
use Rattle.std.proofs.Common.{◌≡◌, ◌<◌, ℕ, ◌%◌, ◌*◌, length, get_or, List, refl, ap, ◌∙◌}
use Rattle.lists.proofs.Arrays.{array_byte, array_length}
use Rattle.lists.proofs.Table.{length-tabulate, get_or-tabulate, tabulate_is}
use Rattle.gf256.specs.Byte.{◌⊕◌, ◌⊗◌}
use Rattle.gf256.specs.Lanes.{lanes, sums, scaled}
use Rattle.gf256.proofs.Laws.{⊗-byte, ⊗_comm}
use Rattle.gf256.proofs.Shifting.{odd, even, turn, starting, done, doubled}
use Rattle.gf256.proofs.lanes.scale_odd.Goals as goal
use Rattle.gf256.proofs.lanes.scale_odd.Goals.{then-left-eq1, else-left-eq1}

-- t is the sum after the lowest digit of n
record Added (s p t : List ℕ) (n : ℕ) : Type 0 where
  long : length t ≡ lanes
  at : (i : ℕ) → i < lanes → get_or t i 0 ≡ get_or s i 0 ⊕ (get_or p i 0 * (n % 2))

is_odd : (s p : List ℕ) {t u : List ℕ} {n : ℕ} → n % 2 ≡ 1 → u ≡ sums s p → t ≡ u → Added s p t n
unfolding sums
is_odd s p {t} {u} {n} q e f =
    record {
      long = ap length (f ∙ e) ∙ length-tabulate lanes _;
      at = λ i l. odd (get_or s i 0) (get_or p i 0) n q (ap (λ x. get_or x i 0) (f ∙ e) ∙ get_or-tabulate lanes _ i 0 l);
    }

is_even : (s p : List ℕ) {t : List ℕ} {n : ℕ} → length s ≡ lanes → (n % 2 ≡ 1 → ⊥) → t ≡ s → Added s p t n
is_even s p {t} {n} h q e =
    record { long = ap length e ∙ h; at = λ i l. even (get_or s i 0) (get_or p i 0) n q (ap (λ x. get_or x i 0) e) }

added : (c : goal.Joined-left-eq1) → Added c.loop-left.sum c.double_each-doubled.result c.if-left-eq1.sum c.loop-left.left
added c =
    elim c.if-left-eq1.branch [ then-left-eq1 w ↦ is_odd _ _ w.if-left-eq1.true w.sum_each-s.ensures w.sum-is | else-left-eq1 w ↦ is_even _ _ c.loop-left.invariant.0 w.if-left-eq1.false w.sum-is ]

pub loop-left-init : goal.loop-left-init
loop-left-init c = (
  array_length lanes c.args.x _ c.well_formed.0,
  λ i l. starting (get_or c.args.x i 0) c.args.by (array_byte lanes c.args.x _ c.well_formed.0 i) c.requires,
)

pub loop-left-preserved : goal.loop-left-preserved
loop-left-preserved c =
    let l = c.loop-left in
    let q = c.double_each-doubled.result in
    let twice = doubled l.p q c.double_each-doubled.ensures in
    let a = added c in (
      a.long,
      λ i h.
          turn (get_or l.sum i 0) (get_or q i 0) l.left (rw (twice i h) (⊗-byte (get_or l.p i 0) 2)) refl (a.at i h)
          (ap (λ u. get_or l.sum i 0 ⊕ u ⊗ l.left) (twice i h) ∙ l.invariant.1 i h),
    )

pub returns : goal.returns
unfolding scaled
returns c =
    tabulate_is c.loop-left.sum lanes _ 0 c.loop-left.invariant.0
    (λ i h. done _ _ _ c.loop-left-test.false (c.loop-left.invariant.1 i h) ∙ ⊗_comm (get_or c.args.x i 0) c.args.by)
