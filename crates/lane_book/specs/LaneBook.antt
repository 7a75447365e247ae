-- A book in lanes beside a table that is lent, and what it promises of a transfer. The table of the book is the lent
-- one with the pieces of the lanes written into it.
-- Definitions only. Assumes nothing.
use Rattle.std.specs.Prelude.{◌≡◌, List, ℕ, ◌≤◌, length, Result}
use Rattle.refusal.specs.declared.Refusal.{Refusal}
use Rattle.table.specs.Table.{lay}
use Rattle.taking.specs.declared.Applied.{Applied}
use Rattle.book.specs.declared.Transfer.{Transfer}
use Rattle.book.specs.Head.{empty_head}
use Rattle.book.specs.Calls.{post}
use Rattle.book.specs.Memory.{Audited}
use Rattle.motions.specs.Posting.{said, Posts}
use Rattle.lane_book.specs.declared.LaneBook.{LaneBook}
use Rattle.lane_book.specs.InLanes.{InLanes}

-- the table t with the pieces written into it
unfoldable pub written : LaneBook → List ℕ → List ℕ
written b t = lay b.kept.lanes.pieces t

-- It can be posted to beside the table t: the book adds up, and there is room for its pieces.
pub record Stands (b : LaneBook) (t : List ℕ) : Type 0 where
  pub audited : Audited b.head (written b t)
  pub kept : InLanes b.head b.kept.lanes t

-- What opening promises: a fresh book, which stands beside every table that has a place, with nothing to be written
-- into it.
pub record Opened (rule size : ℕ) (b : LaneBook) : Type 0 where
  pub head : b.head ≡ empty_head rule size
  pub stands : (t : List ℕ) → 4 ≤ length t → Stands b t
  pub bare : (t : List ℕ) → written b t ≡ t

-- What a transfer promises: answer and table are those of the call, and the next one can be posted. The table that is
-- lent stays as it is.
pub record Enters (x : Transfer) (b b' : LaneBook) (t t' : List ℕ) (r : Result Applied Refusal) : Type 0 where
  pub posts : Posts b.head (post x) (written b t) (written b' t') (said b'.head r)
  pub stands : Stands b' t'
  pub lent : t' ≡ t
