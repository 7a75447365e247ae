-- Writing a sheet: "Writing takes rule, V, 8V name bytes" and "5M numbers (s, d, t, q, age)". Definitions only. Assumes
-- nothing.
use Rattle.std.specs.Prelude.{Bool, not, ◌||◌, List, [], ◌∷◌, ◌++◌, ℕ, ◌*◌, ◌/◌, ◌%◌, eqb, ltb, length, drop}
use Rattle.refusal.specs.Numbers.{Check, ◌if◌, first, if_zero}
use Rattle.fields.specs.Bytes.{bytes_of}
use Rattle.fields.specs.Layout.{name_size, mark, header_size, entries_start, sheet_size, movements_off}
use Rattle.fields.specs.Names.{names_in, names_off}
use Rattle.fields.specs.Movements.{given_size, entries_given, entries_bytes, given_checks, entries_checks}
use Rattle.book.specs.Head.{open_checks}

-- M: how many movements the numbers hold.
abbrev pub count_given : List ℕ → ℕ
count_given numbers = length numbers / given_size

abbrev pub count_bytes : ℕ → ℕ → ℕ → List ℕ
count_bytes rule vessels movements = bytes_of 2 rule ++ bytes_of 2 vessels ++ bytes_of 4 movements

abbrev pub layout_bytes : ℕ → ℕ → List ℕ
layout_bytes vessels movements = bytes_of 4 header_size ++ bytes_of 4 (entries_start vessels) ++ bytes_of 4 (sheet_size vessels movements)

abbrev pub header_bytes : ℕ → ℕ → ℕ → List ℕ
header_bytes rule vessels movements = mark ++ count_bytes rule vessels movements ++ layout_bytes vessels movements

-- The sheet of a rule, a count of vessels, their names and the numbers of its movements.
unfoldable pub sheet_of : ℕ → ℕ → List ℕ → List ℕ → List ℕ
sheet_of rule vessels names numbers =
    header_bytes rule vessels (count_given numbers) ++ names ++ entries_bytes (entries_given (count_given numbers) numbers)

-- "name bytes not 8V, or numbers not a multiple of" 5
unfoldable pub given_off : ℕ → List ℕ → List ℕ → Bool
given_off vessels names numbers = not (eqb (length names) (name_size * vessels)) || not (eqb (length numbers % given_size) 0)

-- It checks 2, 3, 16, 15, 17, 18 and 5 in each movement, 19: first the counts, then what is written, then the room for
-- it.
abbrev pub count_checks : ℕ → ℕ → List ℕ → List ℕ → List Check
count_checks rule vessels names numbers =
    open_checks rule vessels ++ (16 if given_off vessels names numbers) ∷ (15 if movements_off (count_given numbers)) ∷ []

abbrev pub room_check : ℕ → ℕ → ℕ → Check
room_check vessels movements room = 19 if ltb room (sheet_size vessels movements)

abbrev pub content_checks : ℕ → ℕ → List ℕ → List ℕ → ℕ → List Check
content_checks vessels movements names numbers room =
    (17 if names_off (names_in vessels names)) ∷ entries_checks (given_checks vessels) (entries_given movements numbers) ++ room_check vessels movements room ∷ []

unfoldable pub write_number : ℕ → ℕ → List ℕ → List ℕ → ℕ → ℕ
write_number rule vessels names numbers room =
    first (count_checks rule vessels names numbers ++ content_checks vessels (count_given numbers) names numbers room)

-- "bytes behind the sheet remain"; a refusal writes nothing.
abbrev pub written : ℕ → ℕ → List ℕ → List ℕ → List ℕ → List ℕ
written rule vessels names numbers out =
    if_zero (write_number rule vessels names numbers (length out))
    (sheet_of rule vessels names numbers ++ drop (sheet_size vessels (count_given numbers)) out)
    out
