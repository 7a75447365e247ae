-- `Withdrawal::apply` meets its contract: what lifting and settling promise, put together.
use Rattle.std.proofs.Common.{rules}
use Rattle.moving.proofs.Applying.{apply_settling, apply_end}
use Rattle.moving.proofs.apply.Withdrawal.apply.Goals as goal

pub settle-count-requires : goal.settle-count-requires
settle-count-requires c = search (rules, apply_settling)

pub returns : goal.returns
returns c = search (rules, apply_end)
