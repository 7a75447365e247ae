-- `LaneBook::open` meets its contract.
use Rattle.lane_book.proofs.Fresh.{opened}
use Rattle.lane_book.proofs.LaneBook.open.Goals as goal

pub returns : goal.returns
returns c = opened _ _ c.requires _ c.empty_head.ensures _ c.new.ensures
