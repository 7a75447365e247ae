-- Sweeping: all that a holder has is taken, in the order it lies.
-- Definitions only. Assumes nothing.
use Rattle.std.specs.Prelude.{cond, List, [], ◌∷◌, ℕ, eqb, length}
use Rattle.table.specs.declared.Piece.{Piece}
use Rattle.taking.specs.Taken.{Taken}

-- the pieces of a holder, in the order they lie
unfoldable pub held_by : ℕ → List Piece → List Piece
held_by s [] = []
held_by s (p ∷ ps) = cond (eqb p.holder s) (p ∷ held_by s ps) (held_by s ps)

-- the pieces of all others, in their order
unfoldable pub elsewhere : ℕ → List Piece → List Piece
elsewhere s [] = []
elsewhere s (p ∷ ps) = cond (eqb p.holder s) (elsewhere s ps) (p ∷ elsewhere s ps)

-- what is taken where a holder is swept: every piece goes whole, nothing is split, and so much is born
abbrev pub swept : ℕ → ℕ → List Piece → Taken
swept born s ps = record { rest = elsewhere s ps; given = held_by s ps; whole = length (held_by s ps); split = 0; born = born }
