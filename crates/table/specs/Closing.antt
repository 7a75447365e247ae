-- Closing up: "leaves its place, those behind close up, and it joins the end". A place whose piece has gone is vacant
-- until the pieces behind it close up; then the pieces that were lifted out are put at the end.
-- Definitions only. Assumes nothing.
use Rattle.std.specs.Prelude.{◌≡◌, cond, List, [], ◌∷◌, ◌++◌, ℕ, ◌+◌, ◌*◌, ◌≤◌, ◌<◌, eqb, length, drop}
use Rattle.table.specs.declared.Piece.{Piece}
use Rattle.table.specs.Pieces.{hand_to}
use Rattle.table.specs.Table.{most_places, pieces_of}

-- A holder that no book can have: it marks a place whose piece has gone.
abbrev pub VACANT : ℕ
VACANT = 4294967295

-- the piece, gone from its place
abbrev pub vacated : Piece → Piece
vacated p = hand_to VACANT p

-- the piece is in its place
abbrev pub Present : Piece → Type 0
Present p = p.holder < VACANT

-- the pieces that are not vacant, in their order
unfoldable pub stay : List Piece → List Piece
stay [] = []
stay (p ∷ ps) = cond (eqb p.holder VACANT) (stay ps) (p ∷ stay ps)

-- those of the first n places of t that stay, and behind them the first g lifted pieces of l
abbrev pub settled : ℕ → List ℕ → ℕ → List ℕ → List Piece
settled n t g l = stay (pieces_of n t) ++ pieces_of g l

-- What `settle` asks: `gone` of the n places of t are vacant, at least as many pieces are lifted, and all of them fit.
pub record Settling (n gone g : ℕ) (t l : List ℕ) : Type 0 where
  pub places : n ≤ most_places
  pub pieces : 4 * n ≤ length t
  pub vacant : length (stay (pieces_of n t)) + gone ≡ n
  pub filled : gone ≤ g
  pub fits : 4 * length (settled n t g l) ≤ length t
  pub lifted : 4 * g ≤ length l

-- What closing up leaves, before any piece is put behind: the j pieces that stay come first.
pub record Closes (n : ℕ) (t t' : List ℕ) (j : ℕ) : Type 0 where
  pub stands : pieces_of j t' ≡ stay (pieces_of n t)
  pub most : j ≤ n
  pub behind : drop (4 * n) t' ≡ drop (4 * n) t
