-- What a text of the code holds.
-- Assumes nothing.
use Rattle.std.specs.Prelude.{◌≡◌, List, [], ◌∷◌, ◌++◌, ℕ, zero, suc, ◌≤◌, min, length}
use Rattle.sheet.specs.declared.writer.Text.{Text}

-- the bytes that a text has room for
abbrev pub max_text : ℕ
max_text = 256

-- a text in so many bytes: as many of its own as there is room for, and zeros after it
unfoldable pub with_zeros : ℕ → List ℕ → List ℕ
with_zeros zero text = []
with_zeros (suc room) [] = 0 ∷ with_zeros room []
with_zeros (suc room) (x ∷ text) = x ∷ with_zeros room text

-- t holds all of a text
pub record Whole (t : Text) (text : List ℕ) : Type 0 where
  pub within : t.length ≤ length t.bytes
  pub long : t.length ≡ length text
  pub bytes : t.bytes ≡ with_zeros max_text text

-- t holds a text, or as much of it as there is room for
pub record Contains (t : Text) (text : List ℕ) : Type 0 where
  pub long : t.length ≡ min (length text) max_text
  pub bytes : t.bytes ≡ with_zeros max_text text

-- whatever text the one holds, the other holds that text with these bytes after it
pub record Adds (from to : Text) (more : List ℕ) : Type 0 where
  pub holds : (text : List ℕ) → Contains from text → Contains to (text ++ more)
