-- What a move by lanes finds as it goes from piece to piece.
-- Definitions only. Assumes nothing.
use Rattle.std.specs.Prelude.{◌≡◌, cond, List, [], ◌∷◌, ℕ, ◌+◌, ◌-◌, ◌≤◌, leb, length}
use Rattle.table.specs.declared.Piece.{Piece}
use Rattle.taking.specs.declared.Move.{Move}
use Rattle.taking.specs.Selection.{wins, select}
use Rattle.taking.specs.InTable.{Moved, move_up_to}
use Rattle.lanes.specs.Order.{at_slot, pieces_at, lane}

-- what is still wanted once whole pieces in these slots are taken, one after the other, while they are no heavier than what is wanted
unfoldable pub remains : List Piece → ℕ → List ℕ → ℕ
remains ps want [] = want
remains ps want (i ∷ l) = cond (leb (at_slot ps i).weight want) (remains ps (want - (at_slot ps i).weight) l) want

-- the same with so many pieces more that have gone whole
abbrev pub after : ℕ → Moved → Moved
after k r = record { pieces = r.pieces; whole = k + r.whole; split = r.split; missing = r.missing }

-- The move began with pieces ps₀ in slots r₀; so many have gone whole, so much is left to move, and pieces ps lie in slots r.
pub record Goes (rule : ℕ) (m : Move) (ps₀ : List Piece) (r₀ : List ℕ) (ps : List Piece) (r : List ℕ) (whole left : ℕ) : Type 0 where
  pub fuel : ℕ
  pub enough : length (lane rule ps m.source r) ≤ fuel
  pub goes : move_up_to (select (wins rule) m.source) m.destination (length (pieces_at ps₀ r₀)) m.weight (pieces_at ps₀ r₀)
      ≡ after whole (move_up_to (select (wins rule) m.source) m.destination fuel left (pieces_at ps r))
