-- `lift` meets its contract. The invariant is `Lifting`: c keys are behind, and the rest of them completes the work.
use Rattle.moving.proofs.Lifting.{Lifting}
use Rattle.moving.proofs.apply.Withdrawal.lift.Given as goal

abbrev pub invariant-loop-c : goal.invariant-loop-c
invariant-loop-c l = Lifting l.self l.c l.initial.table l.table l.lifted
