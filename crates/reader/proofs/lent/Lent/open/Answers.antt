use Rattle.std.proofs.Common.{sym, ◌∙◌}
use native.Mathlib.Nat.{le_of_eq}
use Rattle.reader.proofs.Lending.{sent-all, opened}
use Rattle.reader.proofs.lent.Lent.open.Goals as goal

pub decode-requires : goal.decode-requires
decode-requires c =
    let F = c.first_shares.ensures in
    rw (F.scheme_is, F.d_is, F.blocks_are) (le_of_eq (sym (sent-all c.args.self.now.lending)), c.requires.room)

pub returns : goal.returns
returns c =
    let F = c.first_shares.ensures in
    opened c.args.self.now.lending _ c.requires.weights _ (c.decode.auto.work ∙ c.requires.room)
    (rw (F.read_are, F.scheme_is, F.d_is, F.blocks_are) at c.decode.ensures.found)
