-- What a move asks of memory as it goes on, and promises.
-- Definitions only. Assumes nothing.
use Rattle.std.specs.Prelude.{◌≡◌, ◌≢◌, List, [], ◌∷◌, ◌++◌, ℕ, ◌+◌, ◌-◌, ◌<◌, ◌≤◌, set}
use Rattle.table.specs.declared.Piece.{Piece}
use Rattle.table.specs.Pieces.{of_weight, hand_to}
use Rattle.table.specs.Table.{most_places}
use Rattle.taking.specs.declared.Move.{Move}
use Rattle.taking.specs.Taking.{taken, handed}
use Rattle.taking.specs.declared.Applied.{Applied}
use Rattle.taking.specs.Applied.{accepted}
use Rattle.lanes.specs.declared.Store.{Store}
use Rattle.lanes.specs.declared.moves.Progress.{Progress}
use Rattle.lanes.specs.Lanes.{most_lanes}
use Rattle.lanes.specs.Order.{at_slot}
use Rattle.lanes.specs.Chains.{start, link}
use Rattle.lanes.specs.Store.{most_notes, received, pieces_in, lane_of, Kept}
use Rattle.lanes.specs.Walk.{remains, Goes}

-- Pieces can be moved from lane to lane: there is a place for a split or what is born, and the log has room for a note
-- of every piece and one more.
pub record Going (rule : ℕ) (m : Move) (s : Store) : Type 0 where
  pub kept : Kept rule s
  pub source : m.source < most_lanes
  pub destination : m.destination < most_lanes
  pub apart : m.source ≢ m.destination
  pub place : remains s.pieces m.weight (lane_of rule s m.source) ≢ 0 → s.count < most_places
  pub room : s.noted + s.count < most_notes

-- So many pieces have gone whole, and the next of the source's lane is heavier than what is left.
pub record Gone (rule : ℕ) (m : Move) (s s' : Store) (far : Progress) : Type 0 where
  pub kept : Kept rule s'
  pub goes : Goes rule m s.pieces (received s) s'.pieces (received s') far.whole far.left
  pub heavier : far.left ≢ 0 → (x : ℕ) → link s'.next (start m.source) ≡ x + 1 → far.left < (at_slot s'.pieces x).weight
  pub place : far.left ≢ 0 → s'.count < most_places
  pub room : s'.noted < most_notes
  pub count : s'.count ≡ s.count
  pub few : far.whole ≤ most_places

-- The piece in slot x, the first of a lane, gives so much of its weight to holder d, in a new slot, and keeps the rest;
-- it does.
pub record Splitting (rule d x weight : ℕ) (s : Store) : Type 0 where
  pub kept : Kept rule s
  pub used : x < s.count
  pub place : s.count < most_places
  pub destination : d < most_lanes
  pub less : weight < (at_slot s.pieces x).weight
  pub room : s.noted < most_notes

-- the slots once it has
abbrev pub cut_off : ℕ → ℕ → ℕ → ℕ → List Piece → List Piece
cut_off d x k weight ps =
    set (set ps x (of_weight ((at_slot ps x).weight - weight) (at_slot ps x))) k (hand_to d (of_weight weight (at_slot ps x)))

pub record SplitOff (rule d x weight : ℕ) (s s' : Store) : Type 0 where
  pub kept : Kept rule s'
  pub pieces : s'.pieces ≡ cut_off d x s.count weight s.pieces
  pub order : received s' ≡ received s ++ (s.count ∷ [])
  pub count : s'.count ≡ s.count + 1

-- The move is made.
pub record Made (rule : ℕ) (m : Move) (s s' : Store) (a : Applied) : Type 0 where
  pub kept : Kept rule s'
  pub pieces : pieces_in s' ≡ handed m (taken rule m (pieces_in s))
  pub answer : a ≡ accepted m (taken rule m (pieces_in s))

-- The log has room for the notes of a move, and nothing else is another.
pub record Roomy (rule : ℕ) (s s' : Store) : Type 0 where
  pub kept : Kept rule s'
  pub order : received s' ≡ received s
  pub pieces : s'.pieces ≡ s.pieces
  pub count : s'.count ≡ s.count
  pub room : s'.noted + s'.count < most_notes
