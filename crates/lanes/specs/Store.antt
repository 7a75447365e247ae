-- What memory holds: pieces by slot, the lanes of their holders, and the log of receipts.
-- Definitions only. Assumes nothing.
use Rattle.std.specs.Prelude.{◌≡◌, ◌≢◌, List, ℕ, ◌+◌, ◌≤◌, ◌<◌, ltb, length, replicate, take}
use Rattle.table.specs.declared.Piece.{Piece}
use Rattle.table.specs.Pieces.{no_piece}
use Rattle.table.specs.Table.{most_places}
use Rattle.taking.specs.Stirring.{stirred_rule}
use Rattle.lanes.specs.declared.Store.{Store}
use Rattle.lanes.specs.Lanes.{most_lanes, Contents}
use Rattle.lanes.specs.Notes.{has, latest}
use Rattle.lanes.specs.Order.{pieces_at, lane}
use Rattle.lanes.specs.Keys.{Keyed}
use Rattle.lanes.specs.Chains.{start, Chain}

-- as many notes fit in the log
abbrev pub most_notes : ℕ
most_notes = 16384

-- before a slot is in use
unfoldable pub fresh : Store
fresh = record {
  pieces = replicate most_places no_piece;
  keys = replicate most_places 0;
  next = replicate (most_places + most_lanes) 0;
  hints = replicate most_lanes 0;
  log = replicate most_notes 0;
  spare = replicate most_places 0;
  count = 0;
  noted = 0;
}

-- the slots in use, in order of receipt
abbrev pub received : Store → List ℕ
received s = latest (take s.noted s.log)

-- the pieces, in order of receipt
abbrev pub pieces_in : Store → List Piece
pieces_in s = pieces_at s.pieces (received s)

-- the slots of holder v, in picking order
abbrev pub lane_of : ℕ → Store → ℕ → List ℕ
lane_of rule s v = lane rule s.pieces v (received s)

-- Each slot in use has a note, and no other has one.
pub record Listed (s : Store) : Type 0 where
  pub few : s.count ≤ most_places
  pub noted : (i : ℕ) → has i (received s) ≡ ltb i s.count
  pub all : length (received s) ≡ s.count

-- Memory in order, under a rule: slots are noted, those in use have their keys, and each lane lies from its start on. Nothing is asked of hints.
pub record Kept (rule : ℕ) (s : Store) : Type 0 where
  pub slots : length s.pieces ≡ most_places
  pub room : s.noted ≤ most_notes
  pub listed : Listed s
  pub keyed : (i : ℕ) → i < s.count → Keyed rule s.pieces s.keys i
  pub chained : (v : ℕ) → v < most_lanes → Chain s.next (start v) (lane_of rule s v)

-- what lanes hold, as memory has it
abbrev pub contents : ℕ → Store → Contents
contents rule s = record { rule = rule; pieces = pieces_in s }

-- The invariant of lanes: memory is in order, under a rule that picks one piece after the other.
pub record InOrder (rule : ℕ) (s : Store) : Type 0 where
  pub kept : Kept rule s
  pub singly : rule ≢ stirred_rule
