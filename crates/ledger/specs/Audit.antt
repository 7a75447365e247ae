-- How the code finds in one pass whether a book adds up: no vessel from V on has any weight, each piece's is drawn from its holder's balance, and nothing
-- may be short or left over. proofs/Drained.antt shows that this is what `adds_up` says.
-- Definitions only. Assumes nothing.
use Rattle.std.specs.Prelude.{Bool, ◌&&◌, List, [], ◌∷◌, ℕ, ◌-◌, leb, ltb, get_or, set}
use Rattle.table.specs.declared.Piece.{Piece}
use Rattle.book.specs.Head.{most_holders, lot_fits, all_zero}

-- the piece fits the book, wherever it lies, and its weight is there to be drawn: so that it lies with a holder that the book has, if no other has any
abbrev pub covers : ℕ → ℕ → List ℕ → Piece → Bool
covers size last rest p = lot_fits size last p && (ltb p.holder most_holders && leb p.weight (get_or rest p.holder 0))

abbrev pub drawn : List ℕ → Piece → List ℕ
drawn rest p = set rest p.holder (get_or rest p.holder 0 - p.weight)

-- every piece is covered by what those before it left of the balances, and nothing is left over
unfoldable pub drained : ℕ → ℕ → List ℕ → List Piece → Bool
drained size last rest [] = all_zero rest
drained size last rest (p ∷ ps) = covers size last rest p && drained size last (drawn rest p) ps
