use Rattle.std.proofs.Common.{◌≡◌, ℕ, ◌+◌, ◌*◌, ◌≤◌, ◌∙◌, arith}
use native.Mathlib.Nat.{mul-zero, mul-add, mul-le-mul_left}
use Rattle.reader.specs.Decoding.{max_usize}
use Rattle.reader.specs.Rows.{read_in, SolvesRow}
use Rattle.reader.proofs.Writes.{solved-start}
use Rattle.reader.proofs.RowStep.{solves_more}
use Rattle.reader.proofs.decoding.decode_row.Goals as goal

-- the count after a batch
counted : (d t many blocks before used : ℕ) → used ≡ before + d * t → t + many ≤ blocks → before + d * blocks ≤ max_usize
    → (used + d * many ≡ before + d * (t + many)) × (used + d * many ≤ max_usize)
counted d t many blocks before used is within fits =
    let e : d * (t + many) ≡ d * t + d * many = mul-add d t many in
    (omega arith, omega (arith, mul-le-mul_left d within))

pub loop-t-init : goal.loop-t-init
loop-t-init c =
    let p = c.args.row.now.sizes in
    (omega arith, omega (arith, mul-zero p.d), λ B points W R H. solved-start p.block p.z p.d c.args.row.now.places.now B c.args.work.now)

pub decode_batch-requires-clause-batch : goal.decode_batch-requires-clause-batch
decode_batch-requires-clause-batch c =
    let p = c.args.row.now.sizes in
    let many = c.batch_of-many.result in
    let within : c.loop-t.t + many ≤ p.blocks = omega (arith, c.batch_of-many.ensures) in
    (omega (arith, c.batch_of-many.ensures), within, (counted p.d c.loop-t.t many p.blocks c.args.used.now c.loop-t.used c.loop-t.invariant.1 within c.requires.counter).1)

pub loop-t-preserved : goal.loop-t-preserved
loop-t-preserved c =
    let row = c.args.row.now in
    let d = row.sizes.d in
    let l = c.loop-t in
    let many : ℕ = c.batch_of-many.result in
    let within : l.t + many ≤ row.sizes.blocks = omega (arith, c.batch_of-many.ensures) in
    let used : c.decode_batch.new.used ≡ c.args.used.now + d * (l.t + many)
    = c.decode_batch.ensures.counted ∙ (counted d l.t many row.sizes.blocks c.args.used.now l.used l.invariant.1 within c.requires.counter).0 in
    let solved : SolvesRow row c.args.weights 0 (l.t + many) c.args.work.now c.decode_batch.new.work
    = solves_more row.sizes row.top row.q row.places.now c.args.weights (read_in row) l.t _ _ l.work _ (omega arith) l.invariant.2 c.decode_batch.ensures.solved in
    (within, used, solved)

pub returns-clause-counted : goal.returns-clause-counted
returns-clause-counted c =
    let all : c.loop-t.t ≡ c.args.row.now.sizes.blocks = omega (arith, c.loop-t.invariant.0) in
    rw all at c.loop-t.invariant.1

pub returns-clause-solved : goal.returns-clause-solved
returns-clause-solved c =
    let all : c.loop-t.t ≡ c.args.row.now.sizes.blocks = omega (arith, c.loop-t.invariant.0) in
    rw all at c.loop-t.invariant.2

pub loop-t-smaller : goal.loop-t-smaller
loop-t-smaller c = omega (arith, c.batch_of-many.ensures)
