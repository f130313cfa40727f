use Rattle.reader.proofs.Lending.{sent-all, refilled}
use Rattle.reader.proofs.lent.Lent.rebuild_share.Goals as goal

pub fill_share-requires-clause-whole : goal.fill_share-requires-clause-whole
fill_share-requires-clause-whole c =
    let F = c.first_shares-first.ensures in
    rw (F.scheme_is, F.d_is) (sent-all c.args.self.now.lending)

pub fill_share-requires-clause-room : goal.fill_share-requires-clause-room
fill_share-requires-clause-room c =
    let F = c.first_shares-first.ensures in
    rw (F.scheme_is, F.blocks_are) c.requires.room

pub returns : goal.returns
returns c =
    let F = c.first_shares-first.ensures in
    refilled c.args.self.now.lending _ c.requires.weights _ c.args.party (c.point_of.ensures _) _ (rw F.d_is at c.value_weights-chosen.ensures) _ _
    c.requires.found (rw (F.read_are, F.scheme_is, F.d_is, F.blocks_are) at c.fill_share.ensures)
