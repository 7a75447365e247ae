-- `Lanes::lay`: the log is closed, and the pieces are written as they are.
use Rattle.lanes.proofs.Written.{closed_order, closed_writable, closed_fits, closed_laid}
use Rattle.lanes.proofs.Lanes.lay.Goals as goal

pub write-requires : goal.write-requires
write-requires c = (closed_writable _ _ _ c.self.invariant c.close.ensures, closed_fits _ _ _ c.self.invariant c.close.ensures _ c.self.view_is _ c.requires)

pub invariant_of-self : goal.invariant_of-self
invariant_of-self c = closed_order _ _ _ c.self.invariant c.close.ensures

pub returns : goal.returns
returns c = closed_laid _ _ _ c.self.invariant c.close.ensures _ c.self.view_is _ _ c.write.ensures
