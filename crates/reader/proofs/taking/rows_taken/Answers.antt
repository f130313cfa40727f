-- The row of each turn, and whether it holds a wanted byte.
use Rattle.std.proofs.Common.{◌≡◌, ℕ, ◌-◌, refl, replicate, length, arith}
use native.Mathlib.Nat.{mod-lt}
use Rattle.std.proofs.lemmas.List.{length-replicate}
use Rattle.interpolation.specs.Interpolation.{side}
use Rattle.order.specs.ReadingOrder.{row_in_turn}
use Rattle.order.proofs.ReadingOrder.{code_turn}
use Rattle.reader.specs.Decoding.{PlacesBelow}
use Rattle.reader.specs.Opening.{HoldsWanted}
use Rattle.reader.proofs.CountedScheme.{A, count_high}
use Rattle.reader.proofs.TurnSearch.{places_below, none_more, found_here, found_none}
use Rattle.reader.proofs.taking.rows_taken.Goals as goal
use Rattle.reader.proofs.taking.rows_taken.Goals.{After-row_origins, After-holds_wanted}

row_is : (c : After-row_origins)
    → let s = c.args.readers.scheme in
    c.row_in_turn-j.result ≡ row_in_turn s.block s.z s.counts.now (length c.args.readers.parties.now) (c.loop-turn.turn - 1)
row_is c = code_turn _ _ _ _ _ _ _ c.group_number-groups.ensures c.row_in_turn-j.ensures

below : (c : After-row_origins)
    → let s = c.args.readers.scheme in
    PlacesBelow s.z (length c.args.readers.parties.now) s.block c.row_origins.new.places
below c =
    places_below c.args.readers.counted c.args.start c.args.range_length c.loop-turn.turn c.row_in_turn-j.result c.loop-turn-test.true c.loop-turn.invariant.0 (row_is c)
    c.row_origins.new.places (replicate side 0) (length-replicate {A = ℕ} side 0) c.row_origins.ensures.1

holds : (c : After-holds_wanted)
    → let s = c.args.readers.scheme in
    HoldsWanted s.block c.args.start c.args.range_length s.z (length c.args.readers.parties.now) c.row_origins.new.places c.holds_wanted.result
holds c = rw c.from.ensures at (c.holds_wanted.ensures c.args.start refl)

pub nonzero_rem-from : goal.nonzero_rem-from
nonzero_rem-from c = (A c.args.readers.counted).least.positive

pub holds_wanted-requires : goal.holds_wanted-requires
holds_wanted-requires c =
    let o = (goal.at.holds_wanted-requires c).After-row_origins in
    let C = c.args.readers.counted in
    ((A C).limit, mod-lt c.args.start (A C).least.positive, count_high C, λ e low. below o e (rw c.from.ensures at low))

pub returns-then-holds_wanted : goal.returns-then-holds_wanted
returns-then-holds_wanted c =
    let o = (goal.at.returns-then-holds_wanted c).After-row_origins in
    found_here c.args.readers.counted c.args.start c.args.range_length c.loop-turn.turn c.row_in_turn-j.result c.loop-turn-test.true c.loop-turn.invariant.0 (row_is o)
    c.row_origins.new.places (replicate side 0) (length-replicate {A = ℕ} side 0) c.row_origins.ensures.1 c.holds_wanted.result
    (holds (goal.at.returns-then-holds_wanted c).After-holds_wanted) c.loop-turn.invariant.1 c.if-holds_wanted.true

pub loop-turn-preserved : goal.loop-turn-preserved
loop-turn-preserved c =
    let o = (goal.at.loop-turn-preserved c).After-row_origins in (
      omega (arith, c.loop-turn.invariant.0),
      none_more c.args.readers.counted c.args.start c.args.range_length c.loop-turn.turn c.row_in_turn-j.result c.loop-turn-test.true c.loop-turn.invariant.0 (row_is o)
          c.row_origins.new.places (replicate side 0) (length-replicate {A = ℕ} side 0) c.row_origins.ensures.1 c.holds_wanted.result
          (holds (goal.at.loop-turn-preserved c).After-holds_wanted) c.loop-turn.invariant.1 c.if-holds_wanted.false,
    )

pub returns : goal.returns
returns c =
    found_none c.args.readers.counted c.args.start c.args.range_length c.loop-turn.turn (omega (arith, c.loop-turn-test.false)) c.loop-turn.invariant.1
