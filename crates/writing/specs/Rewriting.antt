-- Writing a sheet again that was read. Definitions only. Assumes nothing.
use Rattle.std.specs.Prelude.{List, ◌++◌, ℕ, ltb, length, drop}
use Rattle.refusal.specs.Numbers.{◌if◌, if_zero}
use Rattle.fields.specs.Movements.{numbers_in}
use Rattle.sheet.specs.Sheet.{entries_read}
use Rattle.sheet.specs.Answers.{asked_number}

-- What the writer is given for a sheet that was read, besides its name bytes: the numbers of its movements.
abbrev pub numbers_of : List ℕ → List ℕ
numbers_of s = numbers_in (entries_read s)

-- "Rewriting what was read yields the same bytes": the sheet's own number, then 19, and else the sheet's own bytes with
-- those of the slice behind them.
abbrev pub rewrite_number : List ℕ → ℕ → ℕ
rewrite_number s room = asked_number s (19 if ltb room (length s))

abbrev pub rewritten : List ℕ → List ℕ → List ℕ
rewritten s out = if_zero (rewrite_number s (length out)) (s ++ drop (length s) out) out
