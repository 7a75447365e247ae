-- `Store::hand_over_whole`: its start, its turn and its ways out.
use Rattle.std.proofs.Common.{refl, rules, ⊎_elim}
use Rattle.lanes.proofs.HandingWhole.{handed_start, gone_all, gone_whole, gone_last, can_hand, handed_on}
use Rattle.lanes.proofs.Store.hand_over_whole.Goals as goal

pub loop-whole-init : goal.loop-whole-init
loop-whole-init c = handed_start _ _ _ c.requires _ refl

pub returns-then-left-eq0 : goal.returns-then-left-eq0
returns-then-left-eq0 c = gone_all _ _ _ c.requires _ _ _ _ c.loop-whole.invariant (λ n. ⊎_elim (λ z. absurd (n z)) (λ k. k.1) c.then-left-eq0.either)

pub returns-then-left-weight : goal.returns-then-left-weight
returns-then-left-weight c = gone_whole _ _ _ c.requires _ _ _ _ c.loop-whole.invariant (search rules) (search rules)

pub hand_over-link-requires : goal.hand_over-link-requires
hand_over-link-requires c = can_hand _ _ _ c.requires _ _ _ _ c.loop-whole.invariant (search rules)

pub loop-whole-preserved : goal.loop-whole-preserved
loop-whole-preserved c = handed_on _ _ _ c.requires _ _ _ _ c.loop-whole.invariant (search rules) (search rules) (search rules) _ _ c.hand_over-link.ensures

pub returns : goal.returns
returns c = gone_last _ _ _ c.requires _ _ _ _ c.loop-whole.invariant (search rules)
