-- `Store::carry_out`: its ways out.
use Rattle.std.proofs.Common.{refl, rules}
use Rattle.lanes.proofs.Made.{made_even, made_born, can_split, made_split}
use Rattle.lanes.proofs.Store.carry_out.Goals as goal

pub returns-then-left-eq0 : goal.returns-then-left-eq0
returns-then-left-eq0 c = made_even _ _ _ c.requires.0 c.requires.1 _ _ c.hand_over_whole-whole.ensures (search rules)

pub returns-then-link-eq0 : goal.returns-then-link-eq0
returns-then-link-eq0 c = made_born _ _ _ c.requires.0 c.requires.1 _ _ c.hand_over_whole-whole.ensures (search rules) (search rules) _ c.add.ensures

pub split_off-requires : goal.split_off-requires
split_off-requires c = can_split _ _ _ c.requires.0 c.requires.1 _ _ c.hand_over_whole-whole.ensures (search rules) _ refl (search rules)

pub returns : goal.returns
returns c = made_split _ _ _ c.requires.0 c.requires.1 _ _ c.hand_over_whole-whole.ensures (search rules) _ refl (search rules) _ c.split_off.ensures
