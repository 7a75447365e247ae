-- `refused` meets its contract: its head is the empty one of no vessels.
use Rattle.ledger.proofs.opening.refused.Goals as goal

pub returns : goal.returns
returns c = rw c.empty_head.ensures
