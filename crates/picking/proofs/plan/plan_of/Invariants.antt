-- `plan::plan_of` meets its contract. The invariant: the plan of the keys from number c on, for the weight left, is the plan of all.
-- A turn takes one key off; the loop ends where the weight is reached, at a piece that is too heavy, or after the last key.
use Rattle.std.proofs.Common.{◌≡◌, drop}
use Rattle.picking.specs.Plan.{plan_from, in_order}
use Rattle.picking.proofs.plan.plan_of.Given as goal

abbrev pub invariant-loop-c : goal.invariant-loop-c
invariant-loop-c l =
    plan_from l.c (drop l.c (in_order l.order)) l.left l.pieces ≡ plan_from 0 (in_order l.order) l.weight l.pieces
