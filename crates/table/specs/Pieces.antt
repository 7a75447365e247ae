-- "Vessels, pieces, the head": a piece, and every sum over pieces that document 01 speaks of.
-- A piece is four numbers: holder, origin, birth minute, weight (the record `Piece` of src/lib.rt).
-- Definitions only. Assumes nothing.
use Rattle.std.specs.Prelude.{Bool, true, false, ◌&&◌, cond, List, [], ◌∷◌, ℕ, ◌+◌, eqb}
use Rattle.table.specs.declared.Piece.{Piece}

-- what is read where there is no piece
abbrev pub no_piece : Piece
no_piece = record { holder = 0; origin = 0; birth = 0; weight = 0 }

-- the piece with another weight
abbrev pub of_weight : ℕ → Piece → Piece
of_weight w p = record { holder = p.holder; origin = p.origin; birth = p.birth; weight = w }

-- the piece in another vessel
abbrev pub hand_to : ℕ → Piece → Piece
hand_to d p = record { holder = d; origin = p.origin; birth = p.birth; weight = p.weight }

-- the piece, unless it has no weight
abbrev pub if_any : Piece → List Piece
if_any p = cond (eqb p.weight 0) [] (p ∷ [])

-- the number n where the test passes, else 0
abbrev pub only : Bool → ℕ → ℕ
only true n = n
only false n = 0

-- the sum of f over the pieces
abbrev pub total : (Piece → ℕ) → List Piece → ℕ
total f [] = 0
total f (p ∷ ps) = f p + total f ps

-- A kind of piece is told by holder, origin and birth.
abbrev pub Kind : Type 0
Kind = ℕ → ℕ → ℕ → Bool

-- the weight of a piece, if it is of the kind
abbrev pub weigh : Kind → Piece → ℕ
weigh k p = only (k p.holder p.origin p.birth) p.weight

-- the weight of all pieces of the kind
abbrev pub sum : Kind → List Piece → ℕ
sum k = total (weigh k)

abbrev pub in_vessel : ℕ → Kind
in_vessel v h o b = eqb h v

abbrev pub born_at : ℕ → ℕ → Kind
born_at u t h o b = eqb o u && eqb b t

abbrev pub anywhere : Kind
anywhere h o b = true

-- the weight that vessel v holds
abbrev pub held : ℕ → List Piece → ℕ
held v = sum (in_vessel v)

-- the weight of all pieces
abbrev pub weight_of : List Piece → ℕ
weight_of = sum anywhere

-- A property of every piece of a list.
pub data All {ℓ} (P : Piece → Type ℓ) : List Piece → Type ℓ where
  done : All P []
  also : {p : Piece} {ps : List Piece} → P p → All P ps → All P (p ∷ ps)
