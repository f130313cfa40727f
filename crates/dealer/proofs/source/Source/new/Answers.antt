-- `dealer::source::Source::new` meets its contract: a block has some bytes, so that the message's length is whole blocks and a place in one.
-- Assumes nothing.
use Rattle.std.proofs.Common.{sym}
use native.Mathlib.Nat.{div-add-mod', mod-lt}
use Rattle.scheme.proofs.Laws.{scheme_own}
use Rattle.rows.proofs.Scheme.{facts_of}
use Rattle.dealer.proofs.source.Source.new.Goals as goal

pub nonzero_div-end : goal.nonzero_div-end
nonzero_div-end c = (facts_of c.args.scheme _ (scheme_own c.args.scheme)).least.positive

pub nonzero_rem-end : goal.nonzero_rem-end
nonzero_rem-end c = (facts_of c.args.scheme _ (scheme_own c.args.scheme)).least.positive

pub invariant_of-result : goal.invariant_of-result
invariant_of-result c =
    record { ends = record { length_is = sym (div-add-mod' _ _); inside = mod-lt _ (facts_of c.args.scheme _ (scheme_own c.args.scheme)).least.positive } }
