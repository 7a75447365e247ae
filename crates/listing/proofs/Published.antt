-- THE PUBLISHED LISTING (K1): the six movements, written as a sheet under rule 2, read, run and listed, are the five
-- lines of document 01, byte for byte; and the two other forms of a listing. Assumes nothing.
use mathlib.Core.List.{flat_map}
use Rattle.std.proofs.Common.{◌≡◌, refl, List, [], ◌∷◌, ◌++◌, ℕ, ◌*◌, replicate}
use Rattle.table.specs.declared.Piece.{Piece}
use Rattle.book.specs.declared.Head.{Head}
use Rattle.table.specs.Table.{most_places, pieces_of, flat, places_in}
use Rattle.taking.specs.Selection.{precedes}
use Rattle.taking.specs.Taking.{take_up_to, taken}
use Rattle.book.specs.Head.{empty_head, tab, balances_of, every, same, adds_up, rules_fit, opening, all_zero}
use Rattle.book.specs.Motion.{takes}
use Rattle.book.specs.Transfer.{transfer_checks}
use Rattle.book.specs.Memory.{book_checks, number_of, call_on}
use Rattle.fields.specs.Bytes.{value_in, bytes_of, groups, exists}
use Rattle.fields.specs.Layout.{movements_off}
use Rattle.fields.specs.Movements.{entries_checks}
use Rattle.fields.specs.Names.{letters, well_formed}
use Rattle.sheet.specs.Sheet.{layout_off, no_sheet, read_number}
use Rattle.writing.specs.Writing.{sheet_of}
use Rattle.run.specs.Run.{run_from, run_number, running}
use Rattle.text.specs.Digits.{digits, decimal}
use Rattle.listing.specs.Listing.{first_line, piece_line, piece_lines, stopped_line, refused_line, book_text, listing_text, sheet_listing}

abbrev piece : ℕ → ℕ → ℕ → ℕ → Piece
piece h o b w = record { holder = h; origin = o; birth = b; weight = w }

abbrev pieces : List Piece
pieces = piece 0 2 3 2 ∷ piece 2 1 5 4 ∷ piece 1 1 1 2 ∷ piece 0 1 1 1 ∷ []

abbrev head : Head
head = record { rule = 2; vessels = 3; pieces = 4; last = 8; accepted = 6; balances = []; scale = 0; rules = [] }

-- "vessels 3 rule 2 accepted 6 pieces 4 even 2"
abbrev line0 : List ℕ
line0 = 0x76 ∷ 0x65 ∷ 0x73 ∷ 0x73 ∷ 0x65 ∷ 0x6c ∷ 0x73 ∷ 0x20 ∷ 0x33 ∷ 0x20 ∷ 0x72 ∷ 0x75 ∷ 0x6c ∷ 0x65 ∷ 0x20 ∷ 0x32 ∷ 0x20 ∷ 0x61 ∷ 0x63 ∷ 0x63 ∷ 0x65 ∷ 0x70 ∷ 0x74 ∷ 0x65 ∷ 0x64 ∷ 0x20 ∷ 0x36 ∷ 0x20 ∷ 0x70 ∷ 0x69 ∷ 0x65 ∷ 0x63 ∷ 0x65 ∷ 0x73 ∷ 0x20 ∷ 0x34 ∷ 0x20 ∷ 0x65 ∷ 0x76 ∷ 0x65 ∷ 0x6e ∷ 0x20 ∷ 0x32 ∷ 0x0a ∷ []

-- "0 2 3 2"
abbrev line1 : List ℕ
line1 = 0x30 ∷ 0x20 ∷ 0x32 ∷ 0x20 ∷ 0x33 ∷ 0x20 ∷ 0x32 ∷ 0x0a ∷ []

-- "2 1 5 4"
abbrev line2 : List ℕ
line2 = 0x32 ∷ 0x20 ∷ 0x31 ∷ 0x20 ∷ 0x35 ∷ 0x20 ∷ 0x34 ∷ 0x0a ∷ []

-- "1 1 1 2"
abbrev line3 : List ℕ
line3 = 0x31 ∷ 0x20 ∷ 0x31 ∷ 0x20 ∷ 0x31 ∷ 0x20 ∷ 0x32 ∷ 0x0a ∷ []

-- "0 1 1 1"
abbrev line4 : List ℕ
line4 = 0x30 ∷ 0x20 ∷ 0x31 ∷ 0x20 ∷ 0x31 ∷ 0x20 ∷ 0x31 ∷ 0x0a ∷ []

abbrev lines : List ℕ
lines = line0 ++ line1 ++ line2 ++ line3 ++ line4

-- the vessels' names, A to C, and the six movements, each of age 0
abbrev names : List ℕ
names = 65 ∷ 0 ∷ 0 ∷ 0 ∷ 0 ∷ 0 ∷ 0 ∷ 0 ∷ 66 ∷ 0 ∷ 0 ∷ 0 ∷ 0 ∷ 0 ∷ 0 ∷ 0 ∷ 67 ∷ 0 ∷ 0 ∷ 0 ∷ 0 ∷ 0 ∷ 0 ∷ 0 ∷ []

abbrev six : List ℕ
six =
    1 ∷ 2 ∷ 1 ∷ 3 ∷ 0
    ∷ 2 ∷ 0 ∷ 3 ∷ 5 ∷ 0
    ∷ 0 ∷ 1 ∷ 4 ∷ 3 ∷ 0
    ∷ 1 ∷ 2 ∷ 5 ∷ 7 ∷ 0
    ∷ 2 ∷ 1 ∷ 7 ∷ 2 ∷ 0
    ∷ 2 ∷ 0 ∷ 8 ∷ 1 ∷ 0
    ∷ []

-- the table that the program `list` lends: as many places as a table ever has, all of them zeros
pub published_listed : sheet_listing (sheet_of 2 3 names six) (replicate (4 * most_places) 0) ≡ lines
unfolding listing_text book_text first_line piece_lines piece_line decimal digits sheet_of bytes_of groups flat_map read_number no_sheet movements_off layout_off value_in exists well_formed letters all_zero entries_checks run_from run_number running call_on number_of book_checks adds_up rules_fit every same balances_of tab places_in pieces_of flat opening transfer_checks takes taken take_up_to precedes
published_listed = refl

-- another table: eight places, and no zeros in it
pub published_whole : sheet_listing (sheet_of 2 3 names six) (replicate 32 9) ≡ lines
unfolding listing_text book_text first_line piece_lines piece_line decimal digits sheet_of bytes_of groups flat_map read_number no_sheet movements_off layout_off value_in exists well_formed letters all_zero entries_checks run_from run_number running call_on number_of book_checks adds_up rules_fit every same balances_of tab places_in pieces_of flat opening transfer_checks takes taken take_up_to precedes
published_whole = refl

-- "stopped 6 at 9"
pub published_stopped : listing_text (record { number = 9; index = 6; even = 2; head = head }) pieces ≡ lines ++ (0x73 ∷ 0x74 ∷ 0x6f ∷ 0x70 ∷ 0x70 ∷ 0x65 ∷ 0x64 ∷ 0x20 ∷ 0x36 ∷ 0x20 ∷ 0x61 ∷ 0x74 ∷ 0x20 ∷ 0x39 ∷ 0x0a ∷ [])
unfolding listing_text book_text first_line piece_lines piece_line stopped_line decimal digits
published_stopped = refl

-- "refused 14"
pub published_refused : listing_text (record { number = 14; index = 0; even = 0; head = empty_head 0 0 }) [] ≡ 0x72 ∷ 0x65 ∷ 0x66 ∷ 0x75 ∷ 0x73 ∷ 0x65 ∷ 0x64 ∷ 0x20 ∷ 0x31 ∷ 0x34 ∷ 0x0a ∷ []
unfolding listing_text refused_line decimal digits
published_refused = refl
