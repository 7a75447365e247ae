-- Reading a sheet as document 01 had it: a sheet had a movement at least, and a movement had a filler of 0 where it has
-- its age now. `former_numbers` and `former_sheets` (proofs/Former.antt) say what became of these sheets.
-- Definitions only. Assumes nothing.
use Rattle.std.specs.Prelude.{Bool, not, ◌||◌, List, ◌∷◌, ◌++◌, ℕ, eqb, ltb}
use Rattle.refusal.specs.Numbers.{Check, ◌if◌, first}
use Rattle.book.specs.Head.{open_checks}
use Rattle.fields.specs.declared.entries.Entry.{Entry}
use Rattle.fields.specs.Layout.{most_movements}
use Rattle.fields.specs.Movements.{entry_checks, entries_checks}
use Rattle.fields.specs.Names.{names_off}
use Rattle.sheet.specs.Sheet.{rule_of, vessels_of, movements_of, no_sheet, layout_off, names_read, entries_read}

-- "M not 1 to 4,096"
abbrev pub former_movements_off : ℕ → Bool
former_movements_off movements = ltb movements 1 || ltb most_movements movements

-- "each movement in turn for 18 and 5", where 18 was "filler not 0"
abbrev pub former_entry_checks : ℕ → Entry → List Check
former_entry_checks vessels e = (18 if not (eqb e.age 0)) ∷ entry_checks vessels e

-- "checks 14, 2, 3, 15, 16, 17, then each movement in turn for 18 and 5"
abbrev pub former_read_checks : List ℕ → List Check
former_read_checks s =
    (14 if no_sheet s)
    ∷ open_checks (rule_of s) (vessels_of s)
    ++ (15 if former_movements_off (movements_of s))
    ∷ (16 if layout_off (vessels_of s) (movements_of s) s)
    ∷ (17 if names_off (names_read s))
    ∷ entries_checks (former_entry_checks (vessels_of s)) (entries_read s)

unfoldable pub former_read_number : List ℕ → ℕ
former_read_number s = first (former_read_checks s)
