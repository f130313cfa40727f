use Rattle.std.proofs.Common.{arith, sym, ◌∙◌, ℕ, ◌<◌, ap, ◌%◌, ◌+◌}
use Rattle.lists.proofs.Each.{each_of}
use Rattle.scheme.proofs.BlockLength.{divides_end, divides-next, divides-not}
use Rattle.scheme.proofs.Multiples.{first-divides, searching_more, search_found, search_past}
use Rattle.scheme.proofs.search.block_length.Goals as goal

-- the first d − z divides its multiples
pub loop-i-init : goal.loop-i-init
loop-i-init c =
    record {
      within = c.requires.0;
      left = sym (divides-next c.args.z c.args.counts.now _ 0 c.requires.0 (first-divides _ _ _ _ _ c.search.invariant.searching));
    }

pub search-preserved : goal.search-preserved
search-preserved c =
    let i : c.loop-i.i < _ = omega (arith, c.loop-i.invariant.within, c.if-i-counts.false) in
    let not = divides-not c.args.z c.args.counts.now _ c.loop-i.i i
    (λ e. c.if-m-from-ne0.true (ap (λ x. (c.search.m + c.args.first) % x) c.from.ensures ∙ e)) in
    record {
      step = c.search.invariant.step;
      few = omega arith;
      searching = searching_more _ _ _ _ _ c.search.invariant.searching c.if-m-gt-MAX_BLOCK.false (sym c.loop-i.invariant.left ∙ not);
    }

pub loop-i-preserved : goal.loop-i-preserved
loop-i-preserved c =
    let i : c.loop-i.i < _ = omega (arith, c.loop-i.invariant.within, c.if-i-counts.false) in
    let next = divides-next c.args.z c.args.counts.now _ c.loop-i.i i
    (ap (λ x. (c.search.m + c.args.first) % x) (sym c.from.ensures) ∙ c.if-m-from-ne0.false) in
    record { within = omega arith; left = sym next ∙ c.loop-i.invariant.left }

pub returns-then-m-gt-MAX_BLOCK : goal.returns-then-m-gt-MAX_BLOCK
returns-then-m-gt-MAX_BLOCK c =
    let above = each_of {A = ℕ} (λ d. c.args.z < d) c.args.counts.now 0 c.requires.2 in
    search_past _ _ _ _ _ c.search.invariant.searching c.requires.0 above c.if-m-gt-MAX_BLOCK.true

pub returns-then-i-counts : goal.returns-then-i-counts
returns-then-i-counts c =
    let above = each_of {A = ℕ} (λ d. c.args.z < d) c.args.counts.now 0 c.requires.2 in
    let all = sym c.loop-i.invariant.left ∙ divides_end c.args.z c.args.counts.now _ c.loop-i.i c.if-i-counts.true in
    search_found _ _ _ _ _ c.search.invariant.searching c.requires.0 above c.if-m-gt-MAX_BLOCK.false all
