-- `is_balanced` meets its contract: where no vessel from V on has weight, the pieces draw the balances down; where one
-- has, the book is off.
use Rattle.std.proofs.Common.{◌∙◌}
use Rattle.ledger.proofs.Drained.{weight_beyond, drawn_balanced}
use Rattle.ledger.proofs.audit.is_balanced.Goals as goal

pub returns-then-bare_beyond : goal.returns-then-bare_beyond
returns-then-bare_beyond c = drawn_balanced c.args.head _ c.requires _ c.bare_beyond.ensures c.if-bare_beyond.true _ c.draw_all.ensures

pub returns-else-bare_beyond : goal.returns-else-bare_beyond
returns-else-bare_beyond c =
    c.if-bare_beyond.false ∙ weight_beyond c.args.head _ c.requires _ c.bare_beyond.ensures c.if-bare_beyond.false
