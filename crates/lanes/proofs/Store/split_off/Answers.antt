-- `Store::split_off`: the part can be added, and what has come of it.
use Rattle.std.proofs.Common.{refl}
use Rattle.lanes.proofs.Made.{part_addable, part_added}
use Rattle.lanes.proofs.Store.split_off.Goals as goal

pub add-requires : goal.add-requires
add-requires c = rw (c.hand_to.ensures, c.of_weight.ensures, c.of_weight-2.ensures) (part_addable _ _ _ _ _ c.requires _ refl refl refl refl refl refl)

pub returns : goal.returns
returns c = part_added _ _ _ _ _ c.requires _ refl refl refl refl refl refl _ (rw (c.hand_to.ensures, c.of_weight.ensures, c.of_weight-2.ensures) at c.add.ensures)
