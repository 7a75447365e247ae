-- A text put into bytes. Definitions only. Assumes nothing.
use Rattle.std.specs.Prelude.{◌≡◌, List, ◌++◌, ℕ, ◌+◌, length}
use Rattle.std.proofs.lemmas.List.Edits.{sets}
use Rattle.text.specs.Digits.{decimal}

-- a word and the number behind it
abbrev pub word : List ℕ → ℕ → List ℕ
word text n = text ++ decimal n

-- A text put into bytes at an index: the index behind it, and the bytes after.
pub record Put (before : List ℕ) (at : ℕ) (text : List ℕ) (next : ℕ) (after : List ℕ) : Type 0 where
  pub next_is : next ≡ at + length text
  pub after_is : after ≡ sets before at text
