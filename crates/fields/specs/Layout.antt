-- "The sheet": the sizes of its parts, where they lie, and its limits. Definitions only. Assumes nothing.
use Rattle.std.specs.Prelude.{Bool, List, [], ◌∷◌, ℕ, ◌+◌, ◌*◌, ◌≤◌, ltb}
use Rattle.book.specs.Head.{most_vessels}
use Rattle.fields.specs.Movements.{entry_size}

-- "the four letters `PROV`"
abbrev pub mark : List ℕ
mark = 0x50 ∷ 0x52 ∷ 0x4f ∷ 0x56 ∷ []

abbrev pub mark_size : ℕ
mark_size = 4

abbrev pub header_size : ℕ
header_size = 24

abbrev pub name_size : ℕ
name_size = 8

-- "4: rule (2 bytes). 6: V (2). 8: movement count M (4). 12: offset of names .. 16: offset of movements .. 20: length"
abbrev pub rule_at : ℕ
rule_at = 4

abbrev pub vessels_at : ℕ
vessels_at = 6

abbrev pub movements_at : ℕ
movements_at = 8

abbrev pub names_at : ℕ
names_at = 12

abbrev pub entries_at : ℕ
entries_at = 16

abbrev pub length_at : ℕ
length_at = 20

-- "offset of names = 24", "offset of movements = 24 + 8V", "length = 24 + 8V + 12M, also the real length"
abbrev pub name_start : ℕ → ℕ
name_start vessel = header_size + name_size * vessel

abbrev pub entries_start : ℕ → ℕ
entries_start vessels = name_start vessels

abbrev pub sheet_size : ℕ → ℕ → ℕ
sheet_size vessels movements = entries_start vessels + entry_size * movements

-- "Number 15 is left for M above 4,096" (document 02, #102): a sheet may have no movement.
abbrev pub most_movements : ℕ
most_movements = 4096

unfoldable pub movements_off : ℕ → Bool
movements_off movements = ltb most_movements movements

-- No more vessels and movements than a sheet can have.
pub record Within (vessels movements : ℕ) : Type 0 where
  pub few_vessels : vessels ≤ most_vessels
  pub few_movements : movements ≤ most_movements
