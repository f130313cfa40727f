-- `archive::writing::write` meets its contract: each way out is a way through the refusals, and past them the head and the contents make the file.
use Rattle.std.proofs.Common.{◌≡◌, length, [], ◌∷◌, sym, ◌∙◌, arith, rules}
use Rattle.scheme.specs.Outcome.{accepted}
use Rattle.scheme.proofs.Laws.{refuses, answers, answered_none, done, stop_over, pass_within, stop_true, pass_false, stop_other, pass_same}
use Rattle.archive.specs.Writing.{file_bytes, write_refusal, write_answer, write_output}
use Rattle.archive.proofs.Lengths.{unbroken}
use Rattle.archive.proofs.Fits.{cut-laid}
use Rattle.archive.proofs.Put.{after_head}
use Rattle.archive.proofs.writing.write.Goals as goal

pub returns-then-lengths-gt-MAX_ENTRIES : goal.returns-then-lengths-gt-MAX_ENTRIES
unfolding write_refusal write_answer write_output
returns-then-lengths-gt-MAX_ENTRIES c = refuses _ (stop_over c.if-lengths-gt-MAX_ENTRIES.true)

pub returns-then-broken : goal.returns-then-broken
unfolding write_refusal write_answer write_output
returns-then-broken c = refuses _ (pass_within 12 (search rules) (stop_true (sym c.would_break-broken.ensures ∙ c.if-broken.true)))

pub returns-then-out-bytes : goal.returns-then-out-bytes
unfolding write_refusal write_answer write_output
returns-then-out-bytes c =
    refuses _
    (pass_within 12 (search rules)
    (pass_false 13 (sym c.would_break-broken.ensures ∙ c.if-broken.false) (stop_other (rw c.head_bytes-head.ensures at c.if-out-bytes.true))))

pub put_head-requires : goal.put_head-requires
put_head-requires c =
    (search rules, (unbroken _ _ (sym c.would_break-broken.ensures ∙ c.if-broken.false)).0, omega (arith, c.if-out-bytes.false, c.head_bytes-head.ensures))

pub returns : goal.returns
unfolding write_refusal write_answer write_output
returns c =
    let x = c.args in
    let none = sym c.would_break-broken.ensures ∙ c.if-broken.false in
    let room = rw c.head_bytes-head.ensures at c.if-out-bytes.false in
    let way : accepted (file_bytes (length x.contents.now) x.lengths.now ∷ []) ≡ write_answer (length x.contents.now) x.lengths.now (length x.out.now) =
    answers (pass_within 12 (search rules) (pass_false 13 none (pass_same 10 room done)))
    in (
      rw c.head_bytes-head.ensures way,
      rw ((answered_none _ _ _ way).0, c.put_contents.ensures)
          (after_head x.lengths.now x.contents.now c.put_head.new.out _ c.head_bytes-head.ensures (c.put_head.auto.out ∙ room) c.put_head.ensures
          ∙ sym (cut-laid x.lengths.now x.contents.now (unbroken _ _ none).1)),
    )
