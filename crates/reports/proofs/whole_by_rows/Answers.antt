-- `reports::whole_by_rows` meets its contract: refused.
use Rattle.reports.proofs.Asked.{asked_refused}
use Rattle.reports.proofs.whole_by_rows.Goals as goal

pub returns-in-Err : goal.returns-in-Err
returns-in-Err c = asked_refused _ _ _ _ _ c.in-Err.ensures _ c.from.ensures
