-- `move_singly` meets its contract: what the order and its plan promise tells whether there is room, and if so, what applying the
-- plan leaves is what is asked (proofs/Moving.antt).
use Rattle.std.proofs.Common.{rules}
use Rattle.moving.proofs.Moving.{move_refused, move_room, move_applicable, move_applied}
use Rattle.moving.proofs.singly.move_singly.Goals as goal

pub returns-then-is_full : goal.returns-then-is_full
returns-then-is_full c =
    move_refused c.requires c.of-pieces.ensures c.picking_order-order.ensures c.plan_of-plan.ensures c.is_full.ensures c.if-is_full.true

pub apply-requires : goal.apply-requires
apply-requires c = (search (rules, move_room), search (rules, move_applicable))

pub returns : goal.returns
returns c = search (rules, move_applied)
