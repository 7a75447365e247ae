-- What a move in lanes promises is what carrying its motion does.
use Rattle.lane_book.proofs.InLanes.{lanes_move, lanes_keep}
use Rattle.lane_book.proofs.keeping.LaneKeepingKeeping.carry.Goals as goal

pub returns-clause-moves : goal.returns-clause-moves
returns-clause-moves c =
    lanes_move _ _ _ c.requires.known _ c.requires.carriable c.requires.kept.0 c.requires.kept.1
    _ c.places.ensures _ _ c.move_pieces.ensures

pub returns-clause-kept : goal.returns-clause-kept
returns-clause-kept c =
    lanes_keep _ _ _ c.requires.known _ c.requires.carriable c.requires.kept.0 c.requires.kept.1
    _ c.places.ensures _ _ c.move_pieces.ensures
