-- `carry_out` meets its contract: the calls were made on a fresh book.
use Rattle.journal.proofs.Carrying.{carry_done}
use Rattle.journal.proofs.carry_out.Goals as goal

pub returns-in-Ok : goal.returns-in-Ok
returns-in-Ok c =
    carry_done _ _ c.in-Ok.ensures _ _ _ _ _ _ _ _ _ _ c.min-n.ensures c.empty_head-fresh.ensures c.make_all-head.ensures
