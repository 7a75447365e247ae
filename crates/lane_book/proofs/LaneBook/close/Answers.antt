-- `LaneBook::close` meets its contract: its lanes are written, and stay as they are.
use Rattle.std.proofs.Common.{refl}
use Rattle.lane_book.specs.LaneBook.{written}
use Rattle.lane_book.proofs.LaneBook.close.Goals as goal

pub returns : goal.returns
unfolding written
returns c = (c.lay.ensures.0, refl, rw c.lay.ensures.1)
