-- `closing::settle` meets its contract: what the two steps promise, put together. At least as many are put behind as have gone, so the
-- last of the n places is written again.
use Rattle.std.proofs.Common.{rules}
use Rattle.table.proofs.ClosingUp.{settle_room, settle_table, settle_count}
use Rattle.table.proofs.closing.settle.Goals as goal

pub append-requires : goal.append-requires
append-requires c = (search (rules, settle_room), search rules)

pub returns : goal.returns
returns c = (search (rules, settle_table), search (rules, settle_count))
