-- `Lanes::is_full`: a walk over the source's lane tells.
use Rattle.std.proofs.Common.{rules}
use Rattle.lanes.proofs.Moving.{few_full, lane_leads, left_full}
use Rattle.lanes.proofs.Lanes.is_full.Goals as goal

pub returns-then-self-places : goal.returns-then-self-places
returns-then-self-places c = few_full _ _ c.self.invariant _ _ _ c.self.view_is c.requires (search rules)

pub left_over-requires : goal.left_over-requires
left_over-requires c = lane_leads _ _ c.self.invariant _ _ _ c.self.view_is c.requires

pub returns : goal.returns
returns c = left_full _ _ c.self.invariant _ _ _ c.self.view_is c.requires (search rules) _ c.left_over.ensures
