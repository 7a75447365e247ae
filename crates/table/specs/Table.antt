-- "Vessels, pieces, the head": the table. The pieces lie in it four numbers each, in order of receipt over all vessels
-- together.
-- Definitions only. Assumes nothing.
use Rattle.std.specs.Prelude.{List, [], ◌∷◌, ◌++◌, ℕ, zero, suc, ◌*◌, ◌/◌, min, length, get_or, set, drop}
use Rattle.table.specs.declared.Piece.{Piece}
use Rattle.table.specs.Pieces.{no_piece}

-- the piece that the first four numbers are
abbrev pub first_piece : List ℕ → Piece
first_piece t = record { holder = get_or t 0 0; origin = get_or t 1 0; birth = get_or t 2 0; weight = get_or t 3 0 }

-- the first n pieces of the table t
unfoldable pub pieces_of : ℕ → List ℕ → List Piece
pieces_of zero t = []
pieces_of (suc n) t = first_piece t ∷ pieces_of n (drop 4 t)

-- the pieces of a table that has no numbers behind them
abbrev pub all_pieces : List ℕ → List Piece
all_pieces t = pieces_of (length t / 4) t

-- the numbers of pieces, as they lie
unfoldable pub flat : List Piece → List ℕ
flat [] = []
flat (p ∷ ps) = p.holder ∷ p.origin ∷ p.birth ∷ p.weight ∷ flat ps

-- The table t with these pieces: "numbers behind the last piece are never written".
abbrev pub lay : List Piece → List ℕ → List ℕ
lay ps t = flat ps ++ drop (4 * length ps) t

-- the table t with ps in place of its first n pieces
abbrev pub over : ℕ → List Piece → List ℕ → List ℕ
over n ps t = flat ps ++ drop (4 * n) t

-- the piece at place i of n
abbrev pub piece_in : ℕ → List ℕ → ℕ → Piece
piece_in n t i = get_or (pieces_of n t) i no_piece

-- the table with piece p at place i of n
abbrev pub put_in : ℕ → ℕ → Piece → List ℕ → List ℕ
put_in n i p t = over n (set (pieces_of n t) i p) t

-- The places of a table with so many numbers: their count divided by 4, rounded down, but never above 4,096.
abbrev pub most_places : ℕ
most_places = 4096

unfoldable pub places_in : ℕ → ℕ
places_in len = min most_places (len / 4)

abbrev pub places_of : List ℕ → ℕ
places_of t = places_in (length t)
