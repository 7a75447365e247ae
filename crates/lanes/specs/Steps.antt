-- What the steps of a move ask of memory, and promise: s is memory before, and with a prime, afterwards.
-- Definitions only. Assumes nothing.
use Rattle.std.specs.Prelude.{◌≡◌, ◌≢◌, List, [], ◌∷◌, ◌++◌, ℕ, ◌+◌, ◌≤◌, ◌<◌, length, set, take}
use Rattle.table.specs.declared.Piece.{Piece}
use Rattle.table.specs.Pieces.{hand_to}
use Rattle.table.specs.Table.{most_places}
use Rattle.lanes.specs.declared.Store.{Store}
use Rattle.lanes.specs.Lanes.{most_lanes}
use Rattle.lanes.specs.Notes.{without}
use Rattle.lanes.specs.Order.{at_slot, ahead}
use Rattle.lanes.specs.Keys.{last_minute, Keyed}
use Rattle.lanes.specs.Chains.{start, link, Chain, foot, put_behind}
use Rattle.lanes.specs.Store.{received, lane_of, Listed, Kept, most_notes}

-- From place f on lies a chain, of no more slots than there are.
pub record Leads (f : ℕ) (s : Store) : Type 0 where
  pub place : f < most_places + most_lanes
  pub line : List ℕ
  pub chain : Chain s.next f line
  pub short : length line ≤ most_places

-- Slot x can join the lane of holder d: it is in use elsewhere, or not yet.
pub record Joining (rule d x : ℕ) (s : Store) : Type 0 where
  pub listed : Listed s
  pub keyed : (i : ℕ) → i < s.count → Keyed rule s.pieces s.keys i
  pub own : Keyed rule s.pieces s.keys x
  pub slot : x < most_places
  pub holder : d < most_lanes
  pub apart : x < s.count → (at_slot s.pieces x).holder ≢ d
  pub chained : Chain s.next (start d) (lane_of rule s d)

-- the place behind which it joins
abbrev pub foot_of : ℕ → ℕ → ℕ → Store → ℕ
foot_of rule d x s = foot (ahead rule s.pieces) x (start d) (lane_of rule s d)

pub record Foot (rule d x : ℕ) (s : Store) (f : ℕ) : Type 0 where
  pub place : f ≡ foot_of rule d x s
  pub inside : f < most_places + most_lanes

-- It has joined: the links are other ones, and nothing else is, but for a hint.
pub record Joined (rule d x : ℕ) (s s' : Store) : Type 0 where
  pub links : s'.next ≡ put_behind x (foot_of rule d x s) s.next
  pub pieces : s'.pieces ≡ s.pieces
  pub keys : s'.keys ≡ s.keys
  pub log : s'.log ≡ s.log
  pub noted : s'.noted ≡ s.noted
  pub count : s'.count ≡ s.count

-- Slot x, the first of its lane, has left the lane of holder v.
pub record Left (v x : ℕ) (s s' : Store) : Type 0 where
  pub links : s'.next ≡ set s.next (start v) (link s.next x)
  pub pieces : s'.pieces ≡ s.pieces
  pub keys : s'.keys ≡ s.keys
  pub log : s'.log ≡ s.log
  pub noted : s'.noted ≡ s.noted
  pub count : s'.count ≡ s.count

-- Slot x is received: it has the last note.
pub record Noted (x : ℕ) (s s' : Store) : Type 0 where
  pub log : s'.log ≡ set s.log s.noted x
  pub noted : s'.noted ≡ s.noted + 1
  pub links : s'.next ≡ s.next
  pub pieces : s'.pieces ≡ s.pieces
  pub keys : s'.keys ≡ s.keys
  pub count : s'.count ≡ s.count

-- The log is closed: its notes are the last ones that it had.
pub record Closed (s s' : Store) : Type 0 where
  pub log : take s'.noted s'.log ≡ received s
  pub noted : s'.noted ≡ s.count
  pub links : s'.next ≡ s.next
  pub pieces : s'.pieces ≡ s.pieces
  pub keys : s'.keys ≡ s.keys
  pub count : s'.count ≡ s.count

-- The pieces can be written: the notes of a closed log are the order of receipt.
pub record Writable (s : Store) : Type 0 where
  pub listed : Listed s
  pub closed : take s.count s.log ≡ received s

-- The piece in slot x, the first of its lane, can go from holder v to holder d.
pub record Handing (rule v d x : ℕ) (s : Store) : Type 0 where
  pub kept : Kept rule s
  pub source : v < most_lanes
  pub destination : d < most_lanes
  pub apart : v ≢ d
  pub first : link s.next (start v) ≡ x + 1
  pub slot : x < most_places
  pub room : s.noted < most_notes

-- It has gone, and n is what then leads from the start of the lane that it left.
pub record HandedOver (rule v d x : ℕ) (s s' : Store) (n : ℕ) : Type 0 where
  pub next : n ≡ link s'.next (start v)
  pub kept : Kept rule s'
  pub pieces : s'.pieces ≡ set s.pieces x (hand_to d (at_slot s.pieces x))
  pub order : received s' ≡ without x (received s) ++ (x ∷ [])
  pub noted : s'.noted ≡ s.noted + 1
  pub count : s'.count ≡ s.count

-- A new slot can hold the piece p, and does.
pub record Addable (rule : ℕ) (p : Piece) (s : Store) : Type 0 where
  pub kept : Kept rule s
  pub place : s.count < most_places
  pub holder : p.holder < most_lanes
  pub birth : p.birth ≤ last_minute
  pub room : s.noted < most_notes

pub record Added (rule : ℕ) (p : Piece) (s s' : Store) : Type 0 where
  pub kept : Kept rule s'
  pub pieces : s'.pieces ≡ set s.pieces s.count p
  pub order : received s' ≡ received s ++ (s.count ∷ [])
  pub count : s'.count ≡ s.count + 1
