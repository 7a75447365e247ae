-- `show_calls` meets its contract: the numbers that were answered, and then the room, are what is shown.
use Rattle.vectors.proofs.Output.{appends_then, calls_shown}
use Rattle.vectors.proofs.show_calls.Goals as goal

pub returns : goal.returns
returns g c =
    appends_then _ _ _ _ _ _ _
    (calls_shown c.args.text.now _ _ c.read-count.ensures.count c.read-count.ensures.numbers _ _ c.split_rule-rule.ensures _ _ c.carry_out.ensures)
    c.in_ok-print_line.ensures
    c.print_line-2.ensures
