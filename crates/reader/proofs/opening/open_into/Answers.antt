-- The bytes of the range that stand in the work buffer are those of the blocks that have these prefixes, all of them where the end is sought, and the
-- output is copied from there.
use Rattle.std.proofs.Common.{◌≡◌, ℕ, ◌+◌, ◌-◌, ◌*◌, ◌≤◌, ◌<◌, true, false, Option, Some, None, List, ◌++◌, length, take, drop, refl, sym, ap, ◌∙◌, arith}
use Rattle.std.specs.Option.{is_some}
use native.Mathlib.Nat.{one-mul, mul-le-mul_right, add-sub_cancel_left}
use lib.Seq.{length-take-le, take_at}
use Rattle.scheme.specs.declared.accepted.Scheme.{Scheme}
use Rattle.reader.specs.declared.ending.Ending.{Ending}
use Rattle.reader.specs.declared.ending.Ending.TheVariants.{Told, Sought}
use Rattle.reader.specs.Decoding.{Found}
use Rattle.reader.specs.Ending.{CanSeek, EndBy, OpenedBy, SeeksIn, TurnsReach}
use Rattle.reader.proofs.CountedScheme.{A}
use Rattle.reader.proofs.RowOrder.{found_all, found-copied}
use Rattle.reader.proofs.opening.open_into.Goals as goal

-- where there is a block, an end can be sought
can_seek : (how : Ending) (m N start out : ℕ) (blocks : List ℕ) → 0 < m → length blocks ≡ N * m → SeeksIn how m N start out → CanSeek how m blocks
can_seek Told m N start out blocks positive long h = tt
can_seek Sought m N start out blocks positive long h = (positive, omega (arith, one-mul m, mul-le-mul_right m h.0))

-- a buffer begins with y, which has the bytes of the blocks B that the turns reach
module _ (how : Ending) (s : Scheme) (ds : List ℕ) (d N many start : ℕ) (y rest B before : List ℕ) (T : TurnsReach s ds d many start (length before))
    (F : Found s ds d N many B y) (room : start + length before ≤ N * s.block) (lb : length B ≡ N * s.block) (ly : length y ≡ N * s.block) where
  -- the end that is found in its first bytes
  end_in : (by : Ending) (end : Option ℕ) → SeeksIn by s.block N start (length before) → EndBy by s.block (take (N * s.block) (y ++ rest)) (length before) end
      → EndBy by s.block B (length before) end
  end_in Told end seeks told = told
  end_in Sought end seeks told =
      let same : y ≡ B = found_all s ds d N many start (length before) B y T.reached F room lb ly seeks.1 seeks.2 in
      rw (take_at y rest (N * s.block) ly, same) at told

  opened_none : (end : Option ℕ) → SeeksIn how s.block N start (length before) → EndBy how s.block (take (N * s.block) (y ++ rest)) (length before) end
      → is_some end ≡ false → OpenedBy how s.block start B before end before
  opened_none None seeks told e = record { end_is = end_in how None seeks told; output_is = refl }
  opened_none (Some message) seeks told e = cc

  opened_some : (end : Option ℕ) (after : List ℕ) → SeeksIn how s.block N start (length before)
      → EndBy how s.block (take (N * s.block) (y ++ rest)) (length before) end → is_some end ≡ true
      → after ≡ take (start + length before - start) (drop start (y ++ rest)) → OpenedBy how s.block start B before end after
  opened_some None after seeks told e copied = cc
  opened_some (Some message) after seeks told e copied =
      record {
        end_is = end_in how (Some message) seeks told;
        output_is = found-copied s ds d N many start (length before) B y T.reached F room lb ly rest after (rw add-sub_cancel_left at copied);
      }

pub decode-used-requires : goal.decode-used-requires
decode-used-requires c = (c.requires.rows.within, length-take-le _ c.args.work.now c.requires.sizes.0)

pub end_by-end-requires : goal.end_by-end-requires
end_by-end-requires c =
    let a = c.args in
    let p = a.prefixes in
    let long : length c.decode-used.new.work ≡ p.blocks * p.scheme.block = c.decode-used.auto.work ∙ length-take-le _ a.work.now c.requires.sizes.0 in
    can_seek a.how p.scheme.block p.blocks a.start _ _ (A p.input.counted).least.positive (ap length (take_at c.decode-used.new.work _ _ long) ∙ long) c.requires.sizes.2

pub returns-then-is_some-clause-opened : goal.returns-then-is_some-clause-opened
returns-then-is_some-clause-opened c B K points W X =
    let a = c.args in
    let p = a.prefixes in
    opened_some a.how p.scheme p.scheme.counts.now p.d p.blocks a.many a.start c.decode-used.new.work _ B a.out.now
    c.requires.rows (c.decode-used.ensures.found B K points W X) c.requires.sizes.1 X.blocks_are.0
    (c.decode-used.auto.work ∙ length-take-le _ a.work.now c.requires.sizes.0) c.end_by-end.result _ c.requires.sizes.2 c.end_by-end.ensures
    (sym c.is_some.ensures ∙ c.if-is_some.true) c.copy_from_slice.ensures.after

pub returns-else-is_some-clause-opened : goal.returns-else-is_some-clause-opened
returns-else-is_some-clause-opened c B K points W X =
    let a = c.args in
    let p = a.prefixes in
    opened_none a.how p.scheme p.scheme.counts.now p.d p.blocks a.many a.start c.decode-used.new.work _ B a.out.now
    c.requires.rows (c.decode-used.ensures.found B K points W X) c.requires.sizes.1 X.blocks_are.0
    (c.decode-used.auto.work ∙ length-take-le _ a.work.now c.requires.sizes.0) c.end_by-end.result c.requires.sizes.2 c.end_by-end.ensures
    (sym c.is_some.ensures ∙ c.if-is_some.false)
