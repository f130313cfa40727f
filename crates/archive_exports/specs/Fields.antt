-- What the archive's calls answer at the C boundary, field by field: the refusal's number, 0 when accepted, then the values, 0 on a refusal. The struct
-- of a call that answers one value is the first library's.
-- Assumes nothing.
use Rattle.std.specs.Prelude.{◌≡◌, List, [], ◌∷◌, ℕ, length}
use Rattle.exports.specs.declared.SharingAnswer.{SharingAnswer}
use Rattle.exports.specs.Fields.{answer_fields, value_fields}
use Rattle.archive.specs.Writing.{write_answer, write_output}
use Rattle.archive_exports.specs.declared.ArchiveEntryAnswer.{ArchiveEntryAnswer}
-- of an answer with two values, as the first library has it for its opener of padded messages
pub use Rattle.exports.specs.Fields.{opened_fields as place_fields}

-- of a lookup: where the entry starts, and its length
abbrev pub entry_fields : ArchiveEntryAnswer → List ℕ
entry_fields a = a.refusal ∷ a.offset ∷ a.length ∷ []

-- the writer's call: the fields of its answer, and its output
abbrev pub WriteFields : List ℕ → List ℕ → List ℕ → SharingAnswer → List ℕ → Type 0
WriteFields contents sizes before a after =
    (answer_fields a ≡ value_fields (write_answer (length contents) sizes (length before))) × (after ≡ write_output contents sizes before)
