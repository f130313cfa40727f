use Rattle.std.proofs.Common.{◌≡◌, refl, arith}
use Rattle.std.proofs.lemmas.Result.{err_from_is_err_and}
use native.Mathlib.Nat.{mul-le-mul}
use Rattle.scheme.proofs.Laws.{accepted-scheme}
use Rattle.staircase.specs.Parameters.{given_parameters}
use Rattle.lengths.proofs.Told.{block_small, told-few, opened, stopped, long, lengths-told}
use Rattle.lengths.proofs.lengths.Goals as goal
use Rattle.lengths.proofs.lengths.Goals.{in-Earlier, in-Padded}

pub returns-in_err-s : goal.returns-in_err-s
returns-in_err-s c =
    let p = err_from_is_err_and c.from_residual.result c.from_residual.ensures.1 in
    rw (p.1, p.2) (stopped (given_parameters c.args.given) c.args.message_length c.args.form _ c.in_err-s.ensures.answer)

pub returns-in_err-blocks : goal.returns-in_err-blocks
returns-in_err-blocks c =
    let p = err_from_is_err_and c.from_residual-in_err-blocks.result c.from_residual-in_err-blocks.ensures.1 in
    let s = c.in_ok-s.s in
    rw (p.1, p.2)
    (long (given_parameters c.args.given) c.args.message_length s (accepted-scheme c.in_ok-s.ensures.answer) c.args.form _ c.in_err-blocks.ensures)

pub overflow_mul-opened : goal.overflow_mul-opened
overflow_mul-opened c =
    omega (arith, mul-le-mul (told-few c.args.form c.in_ok-s.s _ _ c.in_ok-blocks.ensures) (block_small c.in_ok-s.s))

pub of_blocks-requires : goal.of_blocks-requires
of_blocks-requires c = told-few c.args.form c.in_ok-s.s _ _ c.in_ok-blocks.ensures

pub returns : goal.returns
returns c =
    let s = c.in_ok-s.s in
    let is : c.match-form.opened ≡ opened c.args.form s.block c.args.message_length _ =
    elim c.match-form.branch [ in-Earlier w ↦ rw (w.opened-is, w.in-Earlier.is) refl | in-Padded w ↦ rw (w.opened-is, w.in-Padded.is) refl ] in
    lengths-told (given_parameters c.args.given) c.args.message_length s (accepted-scheme c.in_ok-s.ensures.answer) c.args.form _ c.in_ok-blocks.ensures _
    (rw is at c.of_blocks.ensures)
