-- What reading a sheet, asking for a movement and asking for a name give. Definitions only. Assumes nothing.
use Rattle.std.specs.Prelude.{List, [], ◌∷◌, ◌≡◌, ℕ, ◌+◌, ◌*◌, leb, take, drop, Result, Ok, Err}
use Rattle.refusal.specs.Numbers.{Check, ◌if◌, first, if_zero}
use Rattle.refusal.specs.declared.Refusal.{Refusal}
use Rattle.refusal.specs.Refusals.{number_of}
use Rattle.sheet.specs.declared.answer.Header.{Header}
use Rattle.sheet.specs.declared.answer.Reading.{Reading}
use Rattle.sheet.specs.declared.answer.Movement.{Movement}
use Rattle.fields.specs.declared.entries.Entry.{Entry}
use Rattle.fields.specs.Layout.{name_size, name_start, entries_start}
use Rattle.fields.specs.Names.{short_name}
use Rattle.fields.specs.Movements.{entry_size, entry_in, no_entry}
use Rattle.sheet.specs.Sheet.{rule_of, vessels_of, movements_of, read_number}

abbrev pub header_of : List ℕ → Reading
header_of s = record { number = 0; rule = rule_of s; vessels = vessels_of s; movements = movements_of s }

abbrev pub refused_reading : ℕ → Reading
refused_reading n = record { number = n; rule = 0; vessels = 0; movements = 0 }

-- The numbers of a header by themselves.
abbrev pub header_numbers : List ℕ → Header
header_numbers s = record { rule = rule_of s; vessels = vessels_of s; movements = movements_of s }

-- "Reading a sheet yields rule, V and M".
abbrev pub reading : List ℕ → Reading
reading s = if_zero (read_number s) (header_of s) (refused_reading (read_number s))

-- What asking for a movement answers: a number, and the movement.
abbrev pub movement_answer : ℕ → Entry → Movement
movement_answer n e = record { number = n; source = e.source; destination = e.destination; minute = e.minute; weight = e.weight; age = e.age }

-- The movement at an index of a sheet that reads well, as the sheet has it and as C is told it.
abbrev pub entry_at : List ℕ → ℕ → Entry
entry_at s index = entry_in (drop (entries_start (vessels_of s) + entry_size * index) s)

abbrev pub movement_at : List ℕ → ℕ → Movement
movement_at s index = movement_answer 0 (entry_at s index)

-- The sheet's own number, then a check of what is asked for.
unfoldable pub asked_number : List ℕ → Check → ℕ
asked_number s check = if_zero (read_number s) (first (check ∷ [])) (read_number s)

-- "Asking for a movement by its index yields s, d, t, q and checks the same, then 20"; it "yields the age too".
abbrev pub movement_number : List ℕ → ℕ → ℕ
movement_number s index = asked_number s (20 if leb (movements_of s) index)

abbrev pub movement_asked : List ℕ → ℕ → Movement
movement_asked s index = if_zero (movement_number s index) (movement_at s index) (movement_answer (movement_number s index) no_entry)

-- What C is told of a movement that was found, or of the refusal.
abbrev pub movement_of : Result Entry Refusal → Movement
movement_of (Ok e) = movement_answer 0 e
movement_of (Err why) = movement_answer (number_of why) no_entry

-- "5 after the sheet's own"
abbrev pub name_number : List ℕ → ℕ → ℕ
name_number s vessel = asked_number s (5 if leb (vessels_of s) vessel)

-- The eight bytes of a vessel's name.
abbrev pub name_bytes : List ℕ → ℕ → List ℕ
name_bytes s vessel = take name_size (drop (name_start vessel) s)

-- "Asking for a vessel's name yields that part of the sheet itself without its zeros, and on any refusal the empty
-- part".
abbrev pub name_asked : List ℕ → ℕ → List ℕ
name_asked s vessel = if_zero (name_number s vessel) (short_name (name_bytes s vessel)) []

-- Where in the sheet that part starts: at the name, and on any refusal at the sheet's start.
abbrev pub name_place : List ℕ → ℕ → ℕ
name_place s vessel = if_zero (name_number s vessel) (name_start vessel) 0

-- The part that asking for a name gives: its bytes, and that it lies in the sheet itself, at its place. A pointer is a
-- block of memory and a place in it.
pub record NamePart (s : List ℕ) (vessel : ℕ) (sheet_at : ℕ × ℕ) (part : List ℕ) (part_at : ℕ × ℕ) : Type 0 where
  pub bytes : part ≡ name_asked s vessel
  pub block : part_at.0 ≡ sheet_at.0
  pub place : part_at.1 ≡ name_place s vessel + sheet_at.1
