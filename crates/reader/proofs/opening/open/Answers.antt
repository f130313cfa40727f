-- The parties are at most 16, and the opened blocks have these prefixes, by proofs/Reading.antt.
use Rattle.std.proofs.Common.{ℕ, List, length, sym, arith}
use lib.Seq.{length-take-le}
use Rattle.lists.specs.Each.{Byte}
use Rattle.lists.proofs.Each.{each_of}
use Rattle.staircase.specs.Parameters.{parameters_of}
use Rattle.staircase.specs.Exactness.{opened_string}
use Rattle.rows.proofs.Points.{points_are}
use Rattle.reader.specs.Decoding.{Input, EachSent, read_from}
use Rattle.reader.proofs.CountedScheme.{A, count_high}
use Rattle.reader.proofs.Reading.{begins}
use Rattle.reader.proofs.Skips.{all_read, sent_whole}
use Rattle.reader.proofs.opening.open.Goals as goal
use Rattle.reader.proofs.opening.open.Goals.{After-opening_weights-weights}

-- the prefixes are those of the parties, none of them passed over
input : (c : After-opening_weights-weights)
    → let s = c.args.readers.scheme in
    Input s s.counts.now (length c.args.readers.parties.now) c.args.blocks c.args.prefixes.now
input c = record { counted = c.args.readers.counted; blocks_high = c.requires.sizes.blocks_high; prefixes_long = c.requires.sizes.prefixes_long }

pub invariant_of-sent : goal.invariant_of-sent
invariant_of-sent c = record { input = all_read (input (goal.at.invariant_of-sent c).After-opening_weights-weights) }

pub invariant_of-sent-2 : goal.invariant_of-sent-2
invariant_of-sent-2 c = record { input = all_read (input (goal.at.invariant_of-sent-2 c).After-opening_weights-weights) }

-- what is said of the blocks that were sent, with these weights, holds of the opened ones
opened : (c : After-opening_weights-weights) (Says : List ℕ → Type 0)
    → let a = c.args in
    let s = a.readers.scheme in
    let d : ℕ = length a.readers.parties.now in
    EachSent s s.counts.now d a.blocks c.opening_weights-weights.result (read_from s d a.blocks d a.prefixes.now) Says
    → Says (opened_string (parameters_of s) a.readers.parties.now a.blocks a.prefixes.now)
opened c Says E =
    let a = c.args in
    let r = a.readers in
    let C = r.counted in
    begins r.scheme r.scheme.counts.now C.scheme r.parties.now C.count r.rising a.blocks a.prefixes.now c.requires.sizes.prefixes_long
    (each_of Byte a.prefixes.now 0 (λ i l. (c.type_inv.prefixes i).fits)) _ _
    (points_are _ _ _ (c.points_of-points.ensures _) (count_high C)) (rw c.from.ensures at c.opening_weights-weights.ensures) Says
    (λ B K points W X. E B K points W (sent_whole (input c) X))

pub slice_bounds-points-end : goal.slice_bounds-points-end
slice_bounds-points-end c = omega (arith, count_high c.args.readers.counted)

pub slice_bounds-opening_weights-end : goal.slice_bounds-opening_weights-end
slice_bounds-opening_weights-end c = sym (length-take-le _ c.points_of-points.result (omega (arith, count_high c.args.readers.counted)))

pub bounds-s-0 : goal.bounds-s-0
bounds-s-0 c = omega (arith, (A c.args.readers.counted).some)

pub returns-then-blocks-s-le-SMALL-clause-opened : goal.returns-then-blocks-s-le-SMALL-clause-opened
returns-then-blocks-s-le-SMALL-clause-opened c =
    opened (goal.at.returns-then-blocks-s-le-SMALL-clause-opened c).After-opening_weights-weights _ c.open_into.ensures.opened

pub returns-clause-opened : goal.returns-clause-opened
returns-clause-opened c = opened (goal.at.returns-clause-opened c).After-opening_weights-weights _ c.open_into-2.ensures.opened
