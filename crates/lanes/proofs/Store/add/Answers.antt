-- `Store::add`: the new slot can join, and what has come of it.
use Rattle.std.proofs.Common.{refl, rules}
use Rattle.lanes.proofs.Adding.{joining_new, added}
use Rattle.lanes.proofs.Store.add.Goals as goal

pub join-requires : goal.join-requires
join-requires c = joining_new _ _ _ c.requires (search rules) (search rules) (search rules) _ refl refl refl refl refl (rw c.key.ensures refl)

pub returns : goal.returns
returns c =
    let r = c.receive.ensures in
    added _ _ _ c.requires (search rules) (search rules) (search rules) _ refl refl refl refl refl (rw c.key.ensures refl) _ c.join.ensures _ r.links r.pieces r.keys r.log r.noted refl
