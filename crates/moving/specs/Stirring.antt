-- What the parts of the code for a stirred source promise each other: gs is what each of the n pieces in the table t gives, and l is the memory for lifted
-- pieces; with a prime, afterwards.
-- Definitions only. Assumes nothing.
use Rattle.std.specs.Prelude.{◌≡◌, List, map, ℕ, ◌*◌, ◌≤◌, ◌<◌, length, get_or, take, drop}
use Rattle.table.specs.declared.Piece.{Piece}
use Rattle.table.specs.Pieces.{no_piece, hand_to, held}
use Rattle.table.specs.Table.{most_places, pieces_of}
use Rattle.taking.specs.declared.Move.{Move}
use Rattle.taking.specs.Stirring.{gifts, giving, stirred}
use Rattle.moving.specs.declared.stirring.Parted.{Parted}

-- T is what the source holds of the pieces, and more than is wanted.
pub record Stirrable (m : Move) (T : ℕ) (ps : List Piece) : Type 0 where
  pub all : T ≡ held m.source ps
  pub more : m.weight < T

-- What each piece gives is put down, and how many are split is counted.
pub record SharesOut (m : Move) (ps : List Piece) (gs : List ℕ) (splits : ℕ) : Type 0 where
  pub noted : take (length ps) gs ≡ gifts m ps
  pub counted : splits ≡ (stirred m ps).split

-- no piece gives more than it has
abbrev pub Affordable : List ℕ → List Piece → Type 0
Affordable gs ps = (i : ℕ) → get_or gs i 0 ≤ (get_or ps i no_piece).weight

-- What parting the pieces asks.
pub record Partible (n : ℕ) (gs t : List ℕ) : Type 0 where
  pub places : n ≤ most_places
  pub pieces : 4 * n ≤ length t
  pub gifts : length gs ≡ n
  pub affordable : Affordable gs (pieces_of n t)

-- The pieces are parted: what is left of them comes first in the table, and what they give is lifted, with its new holder d.
pub record Parts (n d : ℕ) (gs t t' l' : List ℕ) (r : Parted) : Type 0 where
  pub stands : pieces_of r.stay t' ≡ (giving gs (pieces_of n t)).rest
  pub goes : pieces_of r.go l' ≡ map (hand_to d) (giving gs (pieces_of n t)).given
  pub behind : drop (4 * n) t' ≡ drop (4 * n) t
  pub few : r.stay ≤ n
  pub most : r.go ≤ n
