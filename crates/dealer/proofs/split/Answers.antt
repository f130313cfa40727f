-- `dealer::split` meets its contract: each way out is a way through the refusals, the products fit since the scheme is accepted and the blocks are no more
-- than a message makes, and past the tests the shares are written.
-- Assumes nothing.
use Rattle.std.proofs.Common.{◌≡◌, refl, ◌≤◌, ◌∙◌, length, sym, ap, arith}
use Rattle.std.proofs.lemmas.Result.{err_from_is_err_and}
use Rattle.scheme.specs.declared.refusal.Refusal.TheVariants.{MessageLength, KeysLength, OutputLength}
use Rattle.scheme.specs.Facts.{SchemeIs}
use Rattle.scheme.specs.Limits.{max_message, max_blocks}
use Rattle.scheme.specs.Forms.{blocks_of_length}
use Rattle.scheme.proofs.Laws.{accepted-scheme, scheme_own, blocks_told, blocks_refused, pass, pass_within, pass_same, stop_scheme, stop_over, stop_other}
use Rattle.staircase.specs.Parameters.{given_parameters, parameters_of}
use Rattle.staircase.proofs.Sizes.{share_small}
use Rattle.dealer.specs.Forms.{byte_after}
use Rattle.dealer.proofs.Dealing.{blocks-few, output_parts, keys-part, keys_whole, output-part, output_whole, keys_are, output_is, stops, writes}
use Rattle.dealer.proofs.split.Goals as goal
use Rattle.dealer.proofs.split.Goals.{In_ok-scheme, In_ok-blocks, in-Earlier, in-Padded}

-- the scheme was accepted
scheme_is : (c : In_ok-scheme) → SchemeIs c.in_ok-scheme.scheme c.args.given.n c.args.given.r c.args.given.z c.args.given.counts.now
scheme_is c = accepted-scheme c.in_ok-scheme.ensures.answer

module _ (c : In_ok-blocks) where
  accepted_of : SchemeIs c.in_ok-scheme.scheme c.args.given.n c.args.given.r c.args.given.z c.args.given.counts.now
  accepted_of = accepted-scheme c.in_ok-scheme.ensures.answer

  -- the message is not too long, and makes so many blocks
  blocks_of : (c.in_ok-blocks.blocks ≡ blocks_of_length c.args.form c.in_ok-scheme.scheme.block (length c.args.message.now)) × (length c.args.message.now ≤ max_message)
  blocks_of = blocks_told c.args.form _ _ _ c.in_ok-blocks.ensures

  few : c.in_ok-blocks.blocks ≤ max_blocks
  few = rw blocks_of.0 (blocks-few c.args.form c.in_ok-scheme.scheme _ blocks_of.1)

pub returns-in_err-scheme : goal.returns-in_err-scheme
returns-in_err-scheme c =
    let p = err_from_is_err_and c.from_residual.result c.from_residual.ensures.1 in
    rw (p.1, p.2) (stops c.args.form (given_parameters c.args.given) c.args.message.now c.args.keys.now c.args.out.now _ (stop_scheme _ _ _ _ _ c.in_err-scheme.ensures.answer))

pub returns-in_err-blocks : goal.returns-in_err-blocks
returns-in_err-blocks c =
    let p = err_from_is_err_and c.from_residual-in_err-blocks.result c.from_residual-in_err-blocks.ensures.1 in
    let over = blocks_refused c.args.form _ _ _ c.in_err-blocks.ensures in
    rw (p.1, p.2, over.0)
    (stops c.args.form (given_parameters c.args.given) c.args.message.now c.args.keys.now c.args.out.now MessageLength
    (pass (scheme_is (goal.at.returns-in_err-blocks c).In_ok-scheme).passed (stop_over over.1)))

pub overflow_mul-key_bytes : goal.overflow_mul-key_bytes
overflow_mul-key_bytes c =
    rw c.from.ensures (omega (arith, keys-part c.in_ok-scheme.scheme _ (few (goal.at.overflow_mul-key_bytes c).In_ok-blocks)))

pub overflow_mul-key_bytes-2 : goal.overflow_mul-key_bytes-2
overflow_mul-key_bytes-2 c =
    rw c.from.ensures (omega (arith, keys_whole c.in_ok-scheme.scheme _ (few (goal.at.overflow_mul-key_bytes-2 c).In_ok-blocks)))

pub overflow_mul-output_bytes : goal.overflow_mul-output_bytes
overflow_mul-output_bytes c =
    rw c.from-2.ensures (omega (arith, output-part c.in_ok-scheme.scheme _ (few (goal.at.overflow_mul-output_bytes c).In_ok-blocks)))

pub overflow_mul-output_bytes-2 : goal.overflow_mul-output_bytes-2
overflow_mul-output_bytes-2 c =
    rw c.from-2.ensures (omega (arith, output_whole c.in_ok-scheme.scheme _ (few (goal.at.overflow_mul-output_bytes-2 c).In_ok-blocks)))

pub returns-then-keys-key_bytes : goal.returns-then-keys-key_bytes
returns-then-keys-key_bytes c =
    let b = (goal.at.returns-then-keys-key_bytes c).In_ok-blocks in
    stops c.args.form (given_parameters c.args.given) c.args.message.now c.args.keys.now c.args.out.now KeysLength
    (pass (accepted_of b).passed (pass_within 5 (blocks_of b).1 (stop_other (λ e. c.if-keys-key_bytes.true (e ∙ sym (keys_are c.args.form (given_parameters c.args.given) _ (accepted_of b) _ _ _ (blocks_of b).0 c.from.ensures))))))

pub returns-then-out-output_bytes : goal.returns-then-out-output_bytes
returns-then-out-output_bytes c =
    let b = (goal.at.returns-then-out-output_bytes c).In_ok-blocks in
    let p = given_parameters c.args.given in
    stops c.args.form p c.args.message.now c.args.keys.now c.args.out.now OutputLength
    (pass (accepted_of b).passed (pass_within 5 (blocks_of b).1 (pass_same 8 (c.if-keys-key_bytes.false ∙ keys_are c.args.form p _ (accepted_of b) _ _ _ (blocks_of b).0 c.from.ensures)
    (stop_other (λ e. c.if-out-output_bytes.true (e ∙ sym (output_is c.args.form p _ (accepted_of b) _ _ _ (blocks_of b).0 c.from-2.ensures)))))))

pub fill_shares-requires : goal.fill_shares-requires
fill_shares-requires c =
    let s = c.in_ok-scheme.scheme in
    (few (goal.at.fill_shares-requires c).In_ok-blocks, rw c.new-source.ensures.0 (c.if-out-output_bytes.false ∙ rw c.from-2.ensures (output_parts s c.in_ok-blocks.blocks)))

pub overflow_mul-result : goal.overflow_mul-result
overflow_mul-result c =
    let s = c.in_ok-scheme.scheme in
    omega (arith, share_small (parameters_of s) s (scheme_own s) _ (few (goal.at.overflow_mul-result c).In_ok-blocks))

pub returns : goal.returns
returns c =
    let b = (goal.at.returns c).In_ok-blocks in
    let p = given_parameters c.args.given in
    let made = c.new-source.ensures in
    let byte : c.match-form.after ≡ byte_after c.args.form = elim c.match-form.branch [ in-Earlier w ↦ rw (w.after-is, w.in-Earlier.is) refl | in-Padded w ↦ rw (w.after-is, w.in-Padded.is) refl ] in
    writes c.args.form p c.args.message.now c.args.keys.now c.args.out.now c.new-source.result (rw made.0 (accepted_of b)) (rw made.0 (ap (λ r. r.now) c.in_ok-scheme.ensures.lent)) (ap (λ r. r.now) made.1) (made.2 ∙ byte) (ap (λ r. r.now) made.3)
    _ _ _ (rw made.0 (blocks_of b).0) (blocks_of b).1 (c.if-keys-key_bytes.false ∙ keys_are c.args.form p _ (accepted_of b) _ _ _ (blocks_of b).0 c.from.ensures)
    (c.if-out-output_bytes.false ∙ output_is c.args.form p _ (accepted_of b) _ _ _ (blocks_of b).0 c.from-2.ensures) (rw made.0 refl) c.fill_shares.ensures
