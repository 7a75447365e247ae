-- `plan::plan_of`: the start, a key that is not the last, and one at which the walk ends.
use Rattle.std.proofs.Common.{refl, rules}
use Rattle.picking.proofs.Walk.{plan_next, plan_stop}
use Rattle.picking.proofs.plan.plan_of.Goals as goal

pub loop-c-init : goal.loop-c-init
loop-c-init c = refl

pub returns-then-left-eq0 : goal.returns-then-left-eq0
returns-then-left-eq0 c = search (rules, plan_stop)

pub loop-c-preserved : goal.loop-c-preserved
loop-c-preserved c = search (rules, plan_next)
