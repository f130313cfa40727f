use Rattle.reader.specs.Prefixes.{read_of}
use Rattle.reader.proofs.ShareFilling.{FillsRows}
use Rattle.reader.proofs.filling.fill_share.Given as goal

-- the bytes of the rows before j are those of the share
abbrev pub invariant-loop-j : goal.invariant-loop-j
invariant-loop-j l = FillsRows l.prefixes.scheme l.prefixes.scheme.counts.now l.prefixes.d l.prefixes.blocks l.chosen (read_of l.prefixes) l.work l.j l.out
