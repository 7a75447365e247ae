-- `run::make_all` meets its contract. The invariant is `Making`: the book stands beside the table, and going on from
-- movement i ends as the whole run does.
use Rattle.lane_book.specs.LaneBook.{written}
use Rattle.run.proofs.Making.{Making}
use Rattle.run.proofs.make_all.Given as goal

abbrev pub invariant-loop-i : goal.invariant-loop-i
invariant-loop-i l =
    Making l.sheet l.initial.book.head (written l.initial.book l.initial.table) l.book l.table l.even l.i
