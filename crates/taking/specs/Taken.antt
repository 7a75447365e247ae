-- What is taken of a holder, whichever rule it gives by.
-- Definitions only. Assumes nothing.
use Rattle.std.specs.Prelude.{List, [], ◌∷◌, ℕ, suc}
use Rattle.table.specs.declared.Piece.{Piece}

-- What is taken: the pieces that stay, in their order; those given, in picked order, still with their old holder;
-- the number of pieces moved whole, of pieces split, and the weight born.
pub record Taken : Type 0 where
  pub rest : List Piece
  pub given : List Piece
  pub whole : ℕ
  pub split : ℕ
  pub born : ℕ

-- nothing more is taken, and what is still wanted will be born
abbrev pub stop : ℕ → List Piece → Taken
stop want ps = record { rest = ps; given = []; whole = 0; split = 0; born = want }

-- one piece more is given, whole
abbrev pub one_whole : Piece → Taken → Taken
one_whole p r = record { rest = r.rest; given = p ∷ r.given; whole = suc r.whole; split = r.split; born = r.born }
