-- `Lanes::new`: memory is in order, and holds nothing.
use Rattle.lanes.proofs.Fresh.{fresh_order, fresh_contents}
use Rattle.lanes.proofs.Lanes.new.Goals as goal

pub invariant_of-result : goal.invariant_of-result
invariant_of-result c = rw c.new.ensures (fresh_order _ c.requires)

pub returns : goal.returns
returns c = rw c.new.ensures (fresh_contents _)
