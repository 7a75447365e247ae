-- `Pieces::get`: the piece at the place that is asked.
use Rattle.std.proofs.Common.{rules}
use Rattle.table.proofs.AllPieces.{piece_there}
use Rattle.table.proofs.reading.Pieces.get.Goals as goal

pub returns-then-i-n : goal.returns-then-i-n
returns-then-i-n c = search (rules, piece_there)
