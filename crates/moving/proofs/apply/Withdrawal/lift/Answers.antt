-- `Withdrawal::lift`: what its invariant leaves to show.
use Rattle.std.proofs.Common.{rules}
use Rattle.moving.proofs.Lifting.{lift_next, lift_end}
use Rattle.moving.proofs.apply.Withdrawal.lift.Goals as goal

pub loop-c-preserved : goal.loop-c-preserved
loop-c-preserved c = search (rules, lift_next)

pub returns : goal.returns
returns c = search (rules, lift_end)
