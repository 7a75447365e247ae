-- A writer of texts: bytes that are lent, and where the next text goes. Definitions only. Assumes nothing.
use Rattle.std.specs.Prelude.{◌≡◌, List, ℕ, ◌+◌, ◌≤◌, length}
use Rattle.text.specs.declared.Writer.{Writer}
use Rattle.text.specs.Text.{Put}

-- room for so many bytes more
abbrev pub Room : Writer → ℕ → Type 0
Room w size = w.at + size ≤ length w.out.now

-- A text is put behind what was written, into the same bytes.
pub record Written (before : Writer) (text : List ℕ) (after : Writer) : Type 0 where
  pub same_bytes : after.out.ghost_name ≡ before.out.ghost_name
  pub same_length : length after.out.now ≡ length before.out.now
  pub put : Put before.out.now before.at text after.at after.out.now

-- a text of at most so many bytes
abbrev pub Writes : Writer → List ℕ → ℕ → Writer → Type 0
Writes before text size after = Written before text after × (after.at ≤ before.at + size)
