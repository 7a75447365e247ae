-- `put_pieces`: the line of each piece is written behind those of the pieces before it.
use Rattle.listing.proofs.LineLaws.{lines_start, line_written}
use Rattle.listing.proofs.put_pieces.Goals as goal

pub loop-p-init : goal.loop-p-init
loop-p-init c = lines_start _ c.into_iter-p-iterator.ensures.into_iter_gives

pub loop-p-preserved : goal.loop-p-preserved
loop-p-preserved c = line_written c.loop-p.invariant c.in-Some.ensures.steps c.put_piece.ensures
