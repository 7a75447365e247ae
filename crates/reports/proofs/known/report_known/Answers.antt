-- `report_known` meets its contract: refused by a check of its own, and what filling the room asks.
use Rattle.std.proofs.Common.{sym}
use Rattle.reports.proofs.Told.{known_refused, known_reportable}
use Rattle.reports.proofs.known.report_known.Goals as goal

pub returns-in_err-check_asked : goal.returns-in_err-check_asked
returns-in_err-check_asked c =
    known_refused _ _ _ _ c.requires _ c.in_err-check_asked.ensures _ c.from_residual.ensures.1

pub fill-requires : goal.fill-requires
fill-requires c =
    (sym c.in_ok-check_asked.ensures, rw c.of-pieces.ensures (known_reportable _ _ _ _ c.requires c.in_ok-check_asked.ensures))
