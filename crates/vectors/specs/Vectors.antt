-- What is shown of a line of vectors. Its numbers are a rule, and movements that are written as a sheet of three
-- vessels, run on a table of six places, and listed; or a rule, and calls that are carried out.
-- Definitions only. Assumes nothing.
use Rattle.std.specs.Prelude.{cond, List, [], ◌∷◌, ◌++◌, ◌≡◌, ℕ, ◌+◌, ◌*◌, ◌≤◌, eqb, get_or, take, drop, replicate, decimal}
use Rattle.refusal.specs.Numbers.{first, if_zero}
use Rattle.book.specs.Head.{open_checks, opening}
use Rattle.journal.specs.Carried.{carried}
use Rattle.encoding.specs.Encoding.{call_size, ages_off, calls_in, count_calls}
use Rattle.fields.specs.Layout.{sheet_size}
use Rattle.fields.specs.Movements.{given_size}
use Rattle.writing.specs.Writing.{count_given, written}
use Rattle.listing.specs.Listing.{sheet_listing}
use Rattle.text.specs.Numbers.{numbers_in}

abbrev pub space : ℕ
space = 0x20

abbrev pub newline : ℕ
newline = 0x0a

abbrev pub vessels : ℕ
vessels = 3

-- the names of the vessels: A, B, C
abbrev pub names : List ℕ
names = 65 ∷ 0 ∷ 0 ∷ 0 ∷ 0 ∷ 0 ∷ 0 ∷ 0 ∷ 66 ∷ 0 ∷ 0 ∷ 0 ∷ 0 ∷ 0 ∷ 0 ∷ 0 ∷ 67 ∷ 0 ∷ 0 ∷ 0 ∷ 0 ∷ 0 ∷ 0 ∷ 0 ∷ []

-- A vector has no more movements than this.
abbrev pub most_shown : ℕ
most_shown = 16

abbrev pub sheet_room : ℕ
sheet_room = sheet_size vessels most_shown

abbrev pub numbers_room : ℕ
numbers_room = given_size * most_shown

-- "Places = table length divided by 4"
abbrev pub places : ℕ
places = 6

abbrev pub table_room : ℕ
table_room = 4 * places

-- the numbers of a vector, as many as there is room for: the rule, then those of its movements
abbrev pub vector_numbers : List ℕ → List ℕ
vector_numbers text = take (1 + numbers_room) (numbers_in text)

abbrev pub vector_rule : List ℕ → ℕ
vector_rule text = get_or (vector_numbers text) 0 0

abbrev pub vector_movements : List ℕ → List ℕ
vector_movements text = drop 1 (vector_numbers text)

-- the bytes of a vector's sheet
abbrev pub vector_size : List ℕ → ℕ
vector_size text = sheet_size vessels (count_given (vector_movements text))

-- bytes at the start of which a vector's sheet was written
abbrev pub vector_on : List ℕ → List ℕ → List ℕ
vector_on text bytes = written (vector_rule text) vessels names (vector_movements text) bytes

-- A vector's sheet was written: its size, for which there is room, and the bytes after.
pub record VectorWritten (text before : List ℕ) (size : ℕ) (after : List ℕ) : Type 0 where
  pub size_is : size ≡ vector_size text
  pub room : size ≤ sheet_room
  pub after_is : after ≡ vector_on text before

abbrev pub vector_sheet : List ℕ → List ℕ
vector_sheet text = take (vector_size text) (vector_on text (replicate sheet_room 0))

abbrev pub vector_listing : List ℕ → List ℕ
vector_listing text = sheet_listing (vector_sheet text) (replicate table_room 0)

-- A list of calls has no more answers than this, and the whole report a weight for each pair of vessels.
abbrev pub answers_room : ℕ
answers_room = 13

abbrev pub report_room : ℕ
report_room = vessels * vessels

-- shows where nothing is written
abbrev pub unwritten : ℕ
unwritten = 99

abbrev pub calls_room : ℕ
calls_room = call_size * answers_room

-- the numbers of a list of calls, as many as there is room for: the rule, then those of its calls
abbrev pub call_numbers : List ℕ → List ℕ
call_numbers text = take (1 + calls_room) (numbers_in text)

-- numbers on a line, each with a space behind it
unfoldable pub numbers_text : List ℕ → List ℕ
numbers_text [] = []
numbers_text (n ∷ ns) = (decimal n ++ (space ∷ [])) ++ numbers_text ns

abbrev pub numbers_line : List ℕ → List ℕ
numbers_line ns = numbers_text ns ++ (newline ∷ [])

-- What is shown of calls that are carried out under a rule: the number of each, and the room after. A list that is
-- refused leaves both as they were.
abbrev pub unread_listing : List ℕ
unread_listing = numbers_line (replicate answers_room unwritten) ++ numbers_line (replicate report_room unwritten)

abbrev pub made_listing : ℕ → ℕ → List ℕ → List ℕ
made_listing n rule numbers =
    let k = carried (calls_in n numbers) (opening rule vessels).head (replicate table_room 0) (replicate report_room unwritten) in
    numbers_line (k.numbers ++ drop n (replicate answers_room unwritten)) ++ numbers_line k.room

unfoldable pub carried_listing : ℕ → List ℕ → List ℕ
carried_listing rule numbers =
    let n = count_calls numbers answers_room in
    cond (ages_off n numbers) unread_listing (if_zero (first (open_checks rule vessels)) (made_listing n rule numbers) unread_listing)

abbrev pub calls_listing : List ℕ → List ℕ
calls_listing text = carried_listing (get_or (call_numbers text) 0 0) (drop 1 (call_numbers text))

-- The first byte of a line tells what it is: `#` a heading, `c` a list of calls.
abbrev pub heading : ℕ
heading = 0x23

abbrev pub calls_mark : ℕ
calls_mark = 0x63

-- a line as it is
abbrev pub heading_line : List ℕ → List ℕ
heading_line line = line ++ (newline ∷ [])

-- what is shown of a line; an empty one is a heading
unfoldable pub shown : List ℕ → List ℕ
shown line =
    let first = get_or line 0 heading in
    cond (eqb first heading) (heading_line line) (cond (eqb first calls_mark) (calls_listing line) (vector_listing line))
