-- What calls look at, and what transfer, lift and tip do to a book: pieces are taken from a holder and handed to
-- another.
-- Definitions only. Assumes nothing.
use Rattle.std.specs.Prelude.{List, ℕ, ◌+◌}
use Rattle.table.specs.declared.Piece.{Piece}
use Rattle.refusal.specs.Numbers.{Check}
use Rattle.table.specs.Pieces.{held}
use Rattle.taking.specs.Taken.{Taken}
use Rattle.taking.specs.Taking.{taken, handed}
use Rattle.book.specs.declared.Head.{Head}
use Rattle.book.specs.declared.Motion.{Motion}
use Rattle.book.specs.Head.{Book, balance_at, rule_at}

-- What checks look at. A book, its head and the weigh book each have it, and they make the same checks.
pub record Standing : Type 0 where
  pub vessels : ℕ
  pub balance : ℕ → ℕ
  pub last : ℕ
  pub accepted : ℕ

-- one with nothing in it
abbrev pub no_standing : Standing
no_standing = record { vessels = 0; balance = λ v. 0; last = 0; accepted = 0 }

abbrev pub of_book : Book → Standing
of_book b = record { vessels = b.vessels; balance = λ v. held v b.pieces; last = b.last; accepted = b.accepted }

abbrev pub of_head : Head → Standing
of_head h = record { vessels = h.vessels; balance = balance_at h; last = h.last; accepted = h.accepted }

-- What is posted: a transfer, a lift, a tip. Its checks after 1 and 4; where from and where to, the birth of what is
-- born, and the weight, on a book that looks so; its minute; and how often it counts as a transfer. What counts takes
-- weight from a vessel, by its rule; what does not moves pieces whole.
pub record Terms : Type 0 where
  pub checks : Standing → List Check
  pub source : ℕ
  pub destination : ℕ
  pub birth : ℕ
  pub weight : Standing → ℕ
  pub minute : ℕ
  pub counts : ℕ

-- the motion that it is
abbrev pub motion : Terms → Standing → Motion
motion p g =
    record {
      moves = record { source = p.source; destination = p.destination; birth = p.birth; weight = p.weight g };
      minute = p.minute;
      counts = p.counts;
    }

-- What a motion (the record `Motion` of src/lib.rt) takes from the book, picked by the rule of its source, and the
-- pieces afterwards.
unfoldable pub takes : Book → Motion → Taken
takes b m = taken (rule_at b.rules m.moves.source) m.moves b.pieces

abbrev pub pieces_after : Book → Motion → List Piece
pieces_after b m = handed m.moves (takes b m)

-- The book afterwards: "accepted goes up by 1", where it counts as a transfer, "and the last minute is t".
abbrev pub book_after : Book → Motion → Book
book_after b m = record b { last = m.minute; accepted = b.accepted + m.counts; pieces = pieces_after b m }
