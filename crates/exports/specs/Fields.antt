-- The structs that the C boundary answers, field by field: the refusal's number, 0 when accepted, then the values, 0 on a refusal but for the number
-- tried, which stands beside refusal 4 too, and the party named, which stands beside refusal 18 alone.
-- Assumes nothing.
use Rattle.std.specs.Prelude.{◌≡◌, cond, List, [], ◌∷◌, ℕ, ◌*◌, ◌/◌, ◌%◌, eqb, length, get_or, Option, Some, None}
use Rattle.scheme.specs.Outcome.{Outcome}
use Rattle.lists.specs.Table.{tabulate}
use Rattle.interpolation.specs.Interpolation.{side}
use Rattle.staircase.specs.Parameters.{Parameters}
use Rattle.dealer.specs.Split.{split_answer, split_output}
use Rattle.dealer.specs.SplitPadded.{split_padded_answer, split_padded_output}
use Rattle.scheme.specs.declared.forms.Form.{Form}
use Rattle.key_pool.specs.declared.KeyPool.{KeyPool}
use Rattle.key_pool.specs.Pool.{pool_answer, pool_output, pool_after}
use Rattle.reader.specs.Basis.{basis_refusal, basis_of}
use Rattle.reader.specs.Range.{range_answer, range_output}
use Rattle.agreement.specs.Rebuild.{rebuild_answer, rebuild_output}
use Rattle.reader.specs.Reconstruct.{reconstruct_answer, reconstruct_output}
use Rattle.reader.specs.ReconstructPadded.{reconstruct_padded_answer, reconstruct_padded_output}
use Rattle.exports.specs.declared.Gf256InverseAnswer.{Gf256InverseAnswer}
use Rattle.exports.specs.declared.SharingScheme.{SharingScheme}
use Rattle.exports.specs.declared.SharingAnswer.{SharingAnswer}
use Rattle.exports.specs.declared.message_lengths.SharingLengths.{SharingLengths}
use Rattle.exports.specs.declared.padded.SharingPaddedAnswer.{SharingPaddedAnswer}
use Rattle.exports.specs.declared.rebuild.SharingRebuildAnswer.{SharingRebuildAnswer}
use Rattle.exports.specs.declared.SharingBasis.{SharingBasis}
use Rattle.exports.specs.declared.tried.SharingTriedScheme.{SharingTriedScheme}

-- of the inverse
abbrev pub inverse_fields : Gf256InverseAnswer → List ℕ
inverse_fields a = a.exists ∷ a.inverse ∷ []

-- 1 and the inverse, or 0 and 0 where there is none
abbrev pub inverted_fields : Option ℕ → List ℕ
inverted_fields (Some x) = 1 ∷ x ∷ []
inverted_fields None = 0 ∷ 0 ∷ []

abbrev pub scheme_fields : SharingScheme → List ℕ
scheme_fields s = s.refusal ∷ s.block ∷ s.rows ∷ []

-- of the check's values n, r, z, m, b the last two are handed over
abbrev pub checked_fields : Outcome → List ℕ
checked_fields o = o.number ∷ get_or o.values 3 0 ∷ get_or o.values 4 0 ∷ []

-- of the check with the number tried
abbrev pub tried_scheme_fields : SharingTriedScheme → List ℕ
tried_scheme_fields s = s.refusal ∷ s.block ∷ s.rows ∷ s.tried ∷ []

-- that number is the first of the values, before n, r, z, m and b, and stands beside a refusal too
abbrev pub checked_tried_fields : Outcome → List ℕ
checked_tried_fields o = o.number ∷ get_or o.values 4 0 ∷ get_or o.values 5 0 ∷ get_or o.values 0 0 ∷ []

-- of the lengths of a message: its blocks, and the bytes of its keys, of a share, of all shares and of what is opened
abbrev pub lengths_fields : SharingLengths → List ℕ
lengths_fields l = l.refusal ∷ l.blocks ∷ l.keys ∷ l.share ∷ l.output ∷ l.opened ∷ []

abbrev pub told_fields : Outcome → List ℕ
told_fields o =
    o.number ∷ get_or o.values 0 0 ∷ get_or o.values 1 0 ∷ get_or o.values 2 0 ∷ get_or o.values 3 0 ∷ get_or o.values 4 0 ∷ []

-- of a call that answers one value
abbrev pub answer_fields : SharingAnswer → List ℕ
answer_fields a = a.refusal ∷ a.value ∷ []

abbrev pub value_fields : Outcome → List ℕ
value_fields o = o.number ∷ get_or o.values 0 0 ∷ []

-- of the opener of padded messages: the prefix bytes used, and the message's length
abbrev pub padded_fields : SharingPaddedAnswer → List ℕ
padded_fields a = a.refusal ∷ a.used ∷ a.length ∷ []

abbrev pub opened_fields : Outcome → List ℕ
opened_fields o = o.number ∷ get_or o.values 0 0 ∷ get_or o.values 1 0 ∷ []

-- of the rebuilding: in how many bytes the held copy differs, and the party named
abbrev pub rebuild_fields : SharingRebuildAnswer → List ℕ
rebuild_fields a = a.refusal ∷ a.differing ∷ a.party ∷ []

-- the one value of its answer is the number of differing bytes where it is accepted, and the party where it is refused
abbrev pub rebuilt_fields : Outcome → List ℕ
rebuilt_fields o = cond (eqb o.number 0) (0 ∷ get_or o.values 0 0 ∷ 0 ∷ []) (o.number ∷ 0 ∷ get_or o.values 0 0 ∷ [])

-- a table of 16 rows of 16 bytes, row after row
unfoldable pub flattened : List (List ℕ) → List ℕ
flattened table = tabulate (side * side) (λ k. get_or (get_or table (k / side) []) (k % side) 0)

-- the calls: the fields of the splitter's answer and its output, those of the opener's, whole and for a range, and the number and the weights of a basis
abbrev pub SplitFields : Parameters → List ℕ → List ℕ → List ℕ → SharingAnswer → List ℕ → Type 0
SplitFields p message keys before a after =
    (answer_fields a ≡ value_fields (split_answer p (length message) (length keys) (length before))) × (after ≡ split_output p message keys before)

abbrev pub ReconstructFields : Parameters → ℕ → List ℕ → List ℕ → List ℕ → SharingAnswer → List ℕ → Type 0
ReconstructFields p message parties prefixes before a after =
    (answer_fields a ≡ value_fields (reconstruct_answer p message parties (length prefixes) (length before)))
    × (after ≡ reconstruct_output p message parties prefixes before)

abbrev pub RangeFields : Parameters → ℕ → ℕ → ℕ → List ℕ → List ℕ → List ℕ → SharingAnswer → List ℕ → Type 0
RangeFields p message start long parties prefixes before a after =
    (answer_fields a ≡ value_fields (range_answer p message start long parties (length prefixes) (length before)))
    × (after ≡ range_output p message start long parties prefixes before)

-- and those on padded messages
abbrev pub SplitPaddedFields : Parameters → List ℕ → List ℕ → List ℕ → SharingAnswer → List ℕ → Type 0
SplitPaddedFields p message keys before a after =
    (answer_fields a ≡ value_fields (split_padded_answer p (length message) (length keys) (length before))) × (after ≡ split_padded_output p message keys before)

abbrev pub ReconstructPaddedFields : Parameters → List ℕ → List ℕ → List ℕ → SharingPaddedAnswer → List ℕ → Type 0
ReconstructPaddedFields p parties prefixes before a after =
    (padded_fields a ≡ opened_fields (reconstruct_padded_answer p parties prefixes (length before)))
    × (after ≡ reconstruct_padded_output p parties prefixes before)

-- a share rebuilt
abbrev pub RebuildFields : Parameters → List ℕ → List ℕ → ℕ → List ℕ → List ℕ → SharingRebuildAnswer → List ℕ → Type 0
RebuildFields p parties shares wanted held before a after =
    (rebuild_fields a ≡ rebuilt_fields (rebuild_answer p parties shares wanted held (length before)))
    × (after ≡ rebuild_output p parties shares wanted (length held) before)

-- a split from a key pool, in either form of message, with the pool's record after it
abbrev pub PoolSplitFields : Form → Parameters → List ℕ → List ℕ → KeyPool → List ℕ → SharingAnswer → List ℕ → KeyPool → Type 0
PoolSplitFields form p message bytes pool before a after next =
    (answer_fields a ≡ value_fields (pool_answer form p (length message) (length bytes) pool (length before)))
    × (after ≡ pool_output form p message bytes pool before)
    × (next ≡ pool_after form p (length message) (length bytes) pool (length before))

abbrev pub BasisFields : Parameters → List ℕ → SharingBasis → Type 0
BasisFields p parties a = (a.refusal ≡ basis_refusal p parties) × (a.weights ≡ flattened (basis_of p parties))
