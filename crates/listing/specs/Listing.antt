-- The listing of a run: "prints in decimal ... Lines after the first: holder, origin, birth, weight. A stopped run adds a last line
-- `stopped I at N` (index, refusal number); a run refused by its sheet or by 1 prints only `refused N`."
-- Every line ends with one newline. Definitions only. Assumes nothing.
use Rattle.std.specs.Prelude.{List, [], ◌∷◌, ◌++◌, ◌≡◌, ℕ, ◌+◌, ◌*◌, ◌≤◌, length, drop}
use Rattle.refusal.specs.Numbers.{if_zero}
use Rattle.table.specs.declared.Piece.{Piece}
use Rattle.table.specs.Table.{most_places, pieces_of}
use Rattle.book.specs.declared.Head.{Head}
use Rattle.run.specs.declared.Ran.{Ran}
use Rattle.run.specs.Run.{running}
use Rattle.text.specs.Digits.{decimal}
use Rattle.text.specs.Text.{word}
use Rattle.listing.specs.Words.{vessels_word, rule_word, accepted_word, pieces_word, even_word, stopped_word, at_word, refused_word, space, newline}

-- "vessels V rule R accepted A pieces P even E"
unfoldable pub first_line : Head → ℕ → List ℕ
first_line h even =
    word vessels_word h.vessels ++ word rule_word h.rule ++ word accepted_word h.accepted ++ word pieces_word h.pieces ++ word even_word even ++ newline

-- "holder, origin, birth, weight"
unfoldable pub piece_line : Piece → List ℕ
piece_line p = decimal p.holder ++ word space p.origin ++ word space p.birth ++ word space p.weight ++ newline

unfoldable pub piece_lines : List Piece → List ℕ
piece_lines [] = []
piece_lines (p ∷ ps) = piece_line p ++ piece_lines ps

-- "stopped I at N"
unfoldable pub stopped_line : ℕ → ℕ → List ℕ
stopped_line index number = word stopped_word index ++ word at_word number ++ newline

-- "refused N"
unfoldable pub refused_line : ℕ → List ℕ
refused_line number = word refused_word number ++ newline

-- the last line of a stopped run
abbrev pub last_line : ℕ → ℕ → List ℕ
last_line index number = if_zero number [] (stopped_line index number)

-- what a run prints that ended with a book of these pieces
unfoldable pub book_text : Ran → List Piece → List ℕ
book_text r ps = first_line r.head r.even ++ piece_lines ps ++ last_line r.index r.number

-- What a run prints. A run refused by its sheet or by 1 has a head of zeros, and a book has a vessel at least: so a head without
-- vessels tells that the run was refused.
unfoldable pub listing_text : Ran → List Piece → List ℕ
listing_text r ps = if_zero r.head.vessels (refused_line r.number) (book_text r ps)

-- the listing of a run that left this table
abbrev pub listing_of : Ran → List ℕ → List ℕ
listing_of r t = listing_text r (pieces_of r.head.pieces t)

-- the listing of a sheet's run on a table
abbrev pub sheet_listing : List ℕ → List ℕ → List ℕ
sheet_listing s t = listing_of (running s t).answer (running s t).table

-- the most bytes of each line: its words, with ten digits for each number
abbrev pub first_size : ℕ
first_size = 89

abbrev pub piece_size : ℕ
piece_size = 44

abbrev pub last_size : ℕ
last_size = 33

abbrev pub refused_size : ℕ
refused_size = 19

-- room for the listing of so many pieces, and for every listing
abbrev pub room_for : ℕ → ℕ
room_for n = first_size + last_size + piece_size * n

abbrev pub listing_room : ℕ
listing_room = room_for most_places

-- A text at the start of bytes: its length, which they have room for, and the bytes after. Those behind the text remain.
pub record Listed (before text : List ℕ) (count : ℕ) (after : List ℕ) : Type 0 where
  pub count_is : count ≡ length text
  pub room : count ≤ length after
  pub after_is : after ≡ text ++ drop (length text) before

-- What listing a sheet promises: the listing at the start of the bytes, and the table as the run left it.
pub record ListsSheet (s t before : List ℕ) (count : ℕ) (t' after : List ℕ) : Type 0 where
  pub listing : Listed before (sheet_listing s t) count after
  pub table : t' ≡ (running s t).table
