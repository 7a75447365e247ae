-- `closing::close_gaps`: if none has gone, all stay.
use Rattle.table.proofs.ClosingUp.{no_gaps}
use Rattle.table.proofs.closing.close_gaps.Goals as goal

pub returns-then-gone-eq0 : goal.returns-then-gone-eq0
returns-then-gone-eq0 c = no_gaps _ _ _ c.requires.2 c.if-gone-eq0.true
