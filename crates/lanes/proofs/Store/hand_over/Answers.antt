-- `Store::hand_over`: the slot can join, and what has come of it.
use Rattle.std.proofs.Common.{rules}
use Rattle.lanes.proofs.HandingOver.{joining, handed_over}
use Rattle.lanes.proofs.Store.hand_over.Goals as goal

pub join-requires : goal.join-requires
join-requires c = joining _ _ _ _ _ c.requires (search rules) (search rules) _ c.leave-link.ensures.0

pub returns : goal.returns
returns c =
    let r = c.receive.ensures in
    handed_over _ _ _ _ _ c.requires (search rules) (search rules) _ c.leave-link.ensures.0 _ c.join.ensures _ r.links r.pieces r.keys r.log r.noted r.count _ c.leave-link.ensures.1
