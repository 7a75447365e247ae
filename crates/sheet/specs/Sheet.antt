-- "The sheet": its header, its names and movements, and the checks in their order. Definitions only. Assumes nothing.
use Rattle.std.specs.Prelude.{Bool, not, ◌||◌, List, [], ◌∷◌, ◌++◌, ℕ, ◌*◌, eqb, ltb, length, take, drop}
use Rattle.refusal.specs.Numbers.{Check, ◌if◌, first}
use Rattle.book.specs.Head.{same, open_checks}
use Rattle.fields.specs.declared.entries.Entry.{Entry}
use Rattle.fields.specs.Bytes.{value_in}
use Rattle.fields.specs.Movements.{entries_in, entry_checks, entries_checks}
use Rattle.fields.specs.Layout.{mark, mark_size, name_size, header_size, rule_at, vessels_at, movements_at, names_at, entries_at, length_at, entries_start, sheet_size, movements_off}
use Rattle.fields.specs.Names.{names_in, names_off}

-- "4: rule (2 bytes). 6: V (2). 8: movement count M (4)."
abbrev pub rule_of : List ℕ → ℕ
rule_of s = value_in 2 (drop rule_at s)

abbrev pub vessels_of : List ℕ → ℕ
vessels_of s = value_in 2 (drop vessels_at s)

abbrev pub movements_of : List ℕ → ℕ
movements_of s = value_in 4 (drop movements_at s)

-- "12: offset of names = 24 (4). 16: offset of movements = 24 + 8V (4). 20: length = 24 + 8V + 12M, also the real
-- length (4)."
unfoldable pub layout_off : ℕ → ℕ → List ℕ → Bool
layout_off vessels movements s =
    not (eqb (value_in 4 (drop names_at s)) header_size)
    || (not (eqb (value_in 4 (drop entries_at s)) (entries_start vessels))
    || (not (eqb (value_in 4 (drop length_at s)) (sheet_size vessels movements)) || not (eqb (length s) (sheet_size vessels movements))))

-- "below 24 bytes, or another mark"
unfoldable pub no_sheet : List ℕ → Bool
no_sheet s = ltb (length s) header_size || not (same (take mark_size s) mark)

-- The checks of the header's numbers: 2, 3, 15, 16. The first two are those of opening a book.
abbrev pub field_checks : ℕ → ℕ → ℕ → List ℕ → List Check
field_checks rule vessels movements s =
    open_checks rule vessels ++ (15 if movements_off movements) ∷ (16 if layout_off vessels movements s) ∷ []

abbrev pub header_checks : List ℕ → List Check
header_checks s = (14 if no_sheet s) ∷ field_checks (rule_of s) (vessels_of s) (movements_of s) s

-- The checks of what lies behind the header: 17, then each movement in turn.
abbrev pub body_checks : ℕ → ℕ → List ℕ → List Check
body_checks vessels movements s =
    (17 if names_off (names_in vessels (drop header_size s)))
    ∷ entries_checks (entry_checks vessels) (entries_in movements (drop (entries_start vessels) s))

-- The bytes of all names.
abbrev pub names_of : List ℕ → List ℕ
names_of s = take (name_size * vessels_of s) (drop header_size s)

-- The names and the movements of a sheet.
abbrev pub names_read : List ℕ → List (List ℕ)
names_read s = names_in (vessels_of s) (drop header_size s)

abbrev pub entries_read : List ℕ → List Entry
entries_read s = entries_in (movements_of s) (drop (entries_start (vessels_of s)) s)

-- "checks 14, 2, 3, 15, 16, 17, then each movement in turn for" 5. Document 02, #101, takes 18 away: "reading never
-- gives number 18 again".
abbrev pub read_checks : List ℕ → List Check
read_checks s = header_checks s ++ body_checks (vessels_of s) (movements_of s) s

-- The number that reading a sheet gives.
unfoldable pub read_number : List ℕ → ℕ
read_number s = first (read_checks s)
