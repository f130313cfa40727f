use Rattle.std.proofs.Common.{refl, sym, ap, ◌∙◌}
use Rattle.lists.specs.Differing.{differing}
use Rattle.reader.proofs.Lending.{agrees_whole, rebuilt_whole}
use Rattle.reader.proofs.rebuilding.rebuild_with.Goals as goal

pub returns-then-not-agree : goal.returns-then-not-agree
returns-then-not-agree c =
    (sym (agrees_whole c.args.lent.now.lending c.requires.whole) ∙ sym c.agree.ensures.tested ∙ c.if-not-agree.true, c.name-party.ensures, refl)

pub returns : goal.returns
returns c =
    let L = c.args.lent.now.lending in
    let is = c.rebuild_share.ensures ∙ rebuilt_whole L c.requires.whole c.args.party in (
      sym (agrees_whole L c.requires.whole) ∙ sym c.agree.ensures.tested ∙ c.if-not-agree.false,
      c.differing.ensures ∙ ap (differing c.args.held.now) is,
      is,
    )
