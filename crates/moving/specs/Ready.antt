-- What moving the pieces asks of a table.
-- Definitions only. Assumes nothing.
use Rattle.std.specs.Prelude.{List, ℕ, ◌+◌, ◌*◌, ◌≤◌, ◌<◌, length}
use Rattle.table.specs.Pieces.{All}
use Rattle.table.specs.Table.{most_places, pieces_of}
use Rattle.table.specs.Closing.{VACANT, Present}
use Rattle.taking.specs.declared.Move.{Move}

-- Every place and one piece more: the part of a split, or what is born.
abbrev pub lifted_places : ℕ
lifted_places = most_places + 1

-- What a move asks: n pieces lie in the table t, which has so many places; and no holder is VACANT.
pub record Ready (n places : ℕ) (m : Move) (t : List ℕ) : Type 0 where
  pub pieces : n ≤ places
  pub most : places ≤ most_places
  pub room : 4 * places ≤ length t
  pub source : m.source < VACANT
  pub present : All Present (pieces_of n t)
