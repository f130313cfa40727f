-- `key_pool::drawing::draw` meets its contract: up to 16 each way out is a way through the refusals, the products fit since the scheme is accepted and the
-- message is not too long, and past it the pool's next bytes are there, since `lacks` said so, and the splitter's answer is the call's.
-- Assumes nothing.
use Rattle.std.proofs.Common.{◌≡◌, ◌*◌, ◌≤◌, ◌∙◌, ℕ, false, length, Ok, Err, sym, arith}
use Rattle.std.proofs.lemmas.Result.{err_from_is_err_and}
use Rattle.scheme.specs.declared.refusal.Refusal.TheVariants.{MessageLength, Pool}
use Rattle.scheme.specs.Facts.{SchemeIs}
use Rattle.scheme.specs.Limits.{max_message, max_blocks}
use Rattle.scheme.specs.Forms.{blocks_of_length}
use Rattle.scheme.proofs.Laws.{accepted-scheme, blocks_told, blocks_refused, pass, pass_within, stop_true, stop_scheme, stop_over}
use Rattle.staircase.specs.Parameters.{given_parameters}
use Rattle.dealer.proofs.Laws.{blocks-few, keys-part, keys_whole, keys_are}
use Rattle.key_pool.specs.Pool.{pool_refused}
use Rattle.key_pool.proofs.Room.{Room, room}
use Rattle.key_pool.proofs.WaysOut.{stopped, at-need, came_out, refused_out}
use Rattle.key_pool.proofs.drawing.draw.Goals as goal
use Rattle.key_pool.proofs.drawing.draw.Goals.{In_ok-scheme, In_ok-blocks, Else-lacks}

-- the scheme was accepted
scheme_of : (c : In_ok-scheme) → SchemeIs c.in_ok-scheme.scheme c.args.given.n c.args.given.r c.args.given.z c.args.given.counts.now
scheme_of c = accepted-scheme c.in_ok-scheme.ensures.answer

module _ (c : In_ok-blocks) where
  accepted_of : SchemeIs c.in_ok-scheme.scheme c.args.given.n c.args.given.r c.args.given.z c.args.given.counts.now
  accepted_of = accepted-scheme c.in_ok-scheme.ensures.answer

  -- the message is not too long, and makes so many blocks
  blocks_of : (c.in_ok-blocks.blocks ≡ blocks_of_length c.args.form c.in_ok-scheme.scheme.block (length c.args.message.now)) × (length c.args.message.now ≤ max_message)
  blocks_of = blocks_told c.args.form _ _ _ c.in_ok-blocks.ensures

  few : c.in_ok-blocks.blocks ≤ max_blocks
  few = rw blocks_of.0 (blocks-few c.args.form c.in_ok-scheme.scheme _ blocks_of.1)

-- past the test for 16: so many of the pool's bytes are left, and what the splitter answers under them is the call's answer
module _ (c : Else-lacks) where
  abbrev need : ℕ
  need = c.in_ok-blocks.blocks * c.from.result * c.in_ok-scheme.scheme.rows

  has : pool_refused c.args.pool (length c.args.bytes.now) need ≡ false
  has = sym c.lacks.ensures ∙ c.if-lacks.false

  left : Room c.args.pool (length c.args.bytes.now) need
  left = room _ _ _ has

pub returns-in_err-scheme : goal.returns-in_err-scheme
returns-in_err-scheme c =
    let p = err_from_is_err_and c.from_residual.result c.from_residual.ensures.1 in
    rw (p.1, p.2) (stopped c.args.form (given_parameters c.args.given) c.args.message.now c.args.bytes.now c.args.pool c.args.out.now _ (stop_scheme _ _ _ _ _ c.in_err-scheme.ensures.answer))

pub returns-in_err-blocks : goal.returns-in_err-blocks
returns-in_err-blocks c =
    let p = err_from_is_err_and c.from_residual-in_err-blocks.result c.from_residual-in_err-blocks.ensures.1 in
    let over = blocks_refused c.args.form _ _ _ c.in_err-blocks.ensures in
    rw (p.1, p.2, over.0)
    (stopped c.args.form (given_parameters c.args.given) c.args.message.now c.args.bytes.now c.args.pool c.args.out.now MessageLength
    (pass (scheme_of (goal.at.returns-in_err-blocks c).In_ok-scheme).passed (stop_over over.1)))

pub overflow_mul-need : goal.overflow_mul-need
overflow_mul-need c = rw c.from.ensures (omega (arith, keys-part c.in_ok-scheme.scheme _ (few (goal.at.overflow_mul-need c).In_ok-blocks)))

pub overflow_mul-need-2 : goal.overflow_mul-need-2
overflow_mul-need-2 c = rw c.from.ensures (omega (arith, keys_whole c.in_ok-scheme.scheme _ (few (goal.at.overflow_mul-need-2 c).In_ok-blocks)))

pub returns-then-lacks : goal.returns-then-lacks
returns-then-lacks c =
    let b = (goal.at.returns-then-lacks c).In_ok-blocks in
    let p = given_parameters c.args.given in
    stopped c.args.form p c.args.message.now c.args.bytes.now c.args.pool c.args.out.now Pool
    (pass (accepted_of b).passed (pass_within 5 (blocks_of b).1
    (stop_true (at-need _ _ _ _ _ _ (keys_are c.args.form p _ (accepted_of b) _ _ _ (blocks_of b).0 c.from.ensures) c.lacks.ensures c.if-lacks.true))))

pub overflow_add-end : goal.overflow_add-end
overflow_add-end c = omega (arith, c.well_formed, left (goal.at.overflow_add-end c).Else-lacks)

pub slice_bounds-split-end : goal.slice_bounds-split-end
slice_bounds-split-end c = omega (arith, left (goal.at.slice_bounds-split-end c).Else-lacks)

pub returns-in_err-share : goal.returns-in_err-share
returns-in_err-share c =
    let b = (goal.at.returns-in_err-share c).In_ok-blocks in
    let e = (goal.at.returns-in_err-share c).Else-lacks in
    let p = given_parameters c.args.given in
    let passed_on = err_from_is_err_and c.from_residual-in_err-share.result c.from_residual-in_err-share.ensures.1 in
    rw (passed_on.1, passed_on.2)
    (refused_out c.args.form p c.args.message.now c.args.bytes.now c.args.pool c.args.out.now _ _
    (came_out c.args.form p c.args.message.now c.args.bytes.now c.args.pool c.args.out.now (need e) (keys_are c.args.form p _ (accepted_of b) _ _ _ (blocks_of b).0 c.from.ensures)
    (accepted_of b).passed (blocks_of b).1 (has e) (Err _) _ c.in_err-share.ensures))

pub returns : goal.returns
returns c =
    let b = (goal.at.returns c).In_ok-blocks in
    let e = (goal.at.returns c).Else-lacks in
    let p = given_parameters c.args.given in
    came_out c.args.form p c.args.message.now c.args.bytes.now c.args.pool c.args.out.now (need e) (keys_are c.args.form p _ (accepted_of b) _ _ _ (blocks_of b).0 c.from.ensures)
    (accepted_of b).passed (blocks_of b).1 (has e) (Ok c.in_ok-share.share) _ c.in_ok-share.ensures
