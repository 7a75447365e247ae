-- `Piece::hand_to` meets its contract: the holder is the new one, and the other numbers stay.
use Rattle.std.proofs.Common.{refl}
use Rattle.table.proofs.Piece.hand_to.Goals as goal

pub returns : goal.returns
returns c = refl
