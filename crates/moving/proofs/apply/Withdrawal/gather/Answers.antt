-- `Withdrawal::gather` meets its contract: what the two steps promise, put together.
use Rattle.std.proofs.Common.{rules}
use Rattle.moving.proofs.Applying.{gathers}
use Rattle.moving.proofs.apply.Withdrawal.gather.Goals as goal

pub returns : goal.returns
returns c = search (rules, gathers)
