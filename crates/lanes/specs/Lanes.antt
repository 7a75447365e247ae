-- What lanes hold, and what moving pieces in them promises.
-- Definitions only. Assumes nothing.
use Rattle.std.specs.Prelude.{◌≡◌, ◌≢◌, cond, Option, List, ℕ, ◌≤◌, ◌<◌, length}
use Rattle.table.specs.declared.Piece.{Piece}
use Rattle.table.specs.Table.{most_places}
use Rattle.taking.specs.declared.Move.{Move}
use Rattle.taking.specs.Taken.{Taken}
use Rattle.taking.specs.Taking.{taken, handed}
use Rattle.taking.specs.declared.Applied.{Applied}
use Rattle.taking.specs.Applied.{full, applied}

-- as many holders have a lane
abbrev pub most_lanes : ℕ
most_lanes = 64

-- The rule by which pieces are picked of every holder, and the pieces in order of receipt.
pub record Contents : Type 0 where
  pub rule : ℕ
  pub pieces : List Piece

-- What a move asks: the pieces lie in so many places at most, and go from one holder to another.
pub record Movable (places : ℕ) (m : Move) (c : Contents) : Type 0 where
  pub pieces : length c.pieces ≤ places
  pub most : places ≤ most_places
  pub source : m.source < most_lanes
  pub destination : m.destination < most_lanes
  pub apart : m.source ≢ m.destination

-- what it takes
abbrev pub taken_of : Move → Contents → Taken
taken_of m c = taken c.rule m c.pieces

-- what is left, where so much is taken: all, if there is no place for it
abbrev pub left_after : ℕ → Move → Taken → Contents → Contents
left_after places m r c = record { rule = c.rule; pieces = cond (full places m r) c.pieces (handed m r) }

-- What it promises of its answer and of the contents after.
pub record Moves (places : ℕ) (m : Move) (c c' : Contents) (o : Option Applied) : Type 0 where
  pub answer : o ≡ applied places m (taken_of m c)
  pub contents : c' ≡ left_after places m (taken_of m c) c
