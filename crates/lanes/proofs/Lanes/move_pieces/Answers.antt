-- `Lanes::move_pieces`: nothing is moved, or the move is made.
use Rattle.std.proofs.Common.{rules}
use Rattle.lanes.proofs.Moving.{not_moved, going, moved}
use Rattle.lanes.proofs.Lanes.move_pieces.Goals as goal

pub returns-then-is_full : goal.returns-then-is_full
returns-then-is_full c = not_moved _ _ c.self.invariant _ _ _ c.self.view_is c.requires (search rules)

pub carry_out-requires : goal.carry_out-requires
carry_out-requires c = going _ _ c.self.invariant _ _ _ c.self.view_is c.requires (search rules) _ c.make_room.ensures

pub returns : goal.returns
returns c = moved _ _ c.self.invariant _ _ _ c.self.view_is c.requires (search rules) _ c.make_room.ensures _ _ c.carry_out.ensures
