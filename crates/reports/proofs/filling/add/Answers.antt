-- `add`: what its invariant leaves to show.
use Rattle.std.proofs.Common.{rules}
use Rattle.reports.proofs.Scattered.{may_enter}
use Rattle.reports.proofs.filling.add.Goals as goal

pub enter-requires : goal.enter-requires
enter-requires g c = search (rules, may_enter, c.in-Some.ensures.steps)
