use Rattle.std.proofs.Common.{◌+◌, ◌-◌, ◌*◌, arith, refl}
use Rattle.rows.proofs.Steps.{First, Later, found_key, found_past, found-rising, first, later}
use Rattle.rows.proofs.source_of.Goals as goal
use Rattle.rows.proofs.source_of.Goals.{After-rows_of_count-before}

-- in the first group
in-first : (c : goal.Then-i-eq0) → let a = c.args in First a.block a.z a.counts.now a.row a.degree c.count_at-d.result c.from-low.result
in-first c = first _ _ _ _ _ _ _ _ c.from-low.ensures c.requires c.count_at-d.ensures c.if-degree-low.false c.if-d-degree.false c.if-i-eq0.true

-- in a later one
in-later : (c : After-rows_of_count-before) → let a = c.args in let d = c.count_at-d.result in let low = c.from-low.result in
    let before = c.rows_of_count-before.result in
    Later a.block a.z a.counts.now a.row a.degree d c.count_at-above.result before ((a.row - before) * (d - low) + (a.degree - low))
in-later c =
    later _ _ _ _ _ _ _ _ c.from-low.ensures c.requires c.count_at-d.ensures c.if-degree-low.false c.if-d-degree.false
    _ c.if-i-eq0.false c.count_at-above.ensures _ _ c.if-above-d.false c.rows_of_count-before.ensures refl

pub returns-then-degree-low : goal.returns-then-degree-low
returns-then-degree-low c = found_key _ _ _ _ _ _ _ _ c.from-low.ensures c.requires c.count_at-d.ensures c.if-degree-low.true

pub returns-then-d-degree : goal.returns-then-d-degree
returns-then-d-degree c = found_past _ _ _ _ _ _ _ _ c.from-low.ensures c.requires c.count_at-d.ensures c.if-d-degree.true

pub overflow_mul-result : goal.overflow_mul-result
overflow_mul-result c = let f = in-first c in omega arith

pub overflow_add-result : goal.overflow_add-result
overflow_add-result c = let f = in-first c in omega arith

pub returns-then-i-eq0 : goal.returns-then-i-eq0
returns-then-i-eq0 c = (in-first c).is

pub returns-then-above-d : goal.returns-then-above-d
returns-then-above-d c =
    found-rising _ _ _ _ _ _ _ _ c.from-low.ensures c.requires c.count_at-d.ensures c.if-degree-low.false c.if-d-degree.false
    _ c.if-i-eq0.false c.count_at-above.ensures c.if-above-d.true

pub overflow_sub-q : goal.overflow_sub-q
overflow_sub-q c = let l = in-later c in omega arith

pub overflow_mul-q : goal.overflow_mul-q
overflow_mul-q c = let l = in-later c in omega arith

pub overflow_add-q : goal.overflow_add-q
overflow_add-q c = let l = in-later c in omega arith

pub returns-then-row-earlier : goal.returns-then-row-earlier
returns-then-row-earlier c = (in-later (goal.at.returns-then-row-earlier c).After-rows_of_count-before).late c.if-row-earlier.true

pub returns : goal.returns
returns c = (in-later (goal.at.returns c).After-rows_of_count-before).copied c.if-row-earlier.false
