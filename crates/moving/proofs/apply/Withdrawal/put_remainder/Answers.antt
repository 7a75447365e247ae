-- `Withdrawal::put_remainder` meets its contract: nothing is wanted, or the next piece is split, or there is none and the rest is born.
use Rattle.std.proofs.Common.{rules}
use Rattle.moving.proofs.Remainder.{remains_none, remains_split, remains_born}
use Rattle.moving.proofs.apply.Withdrawal.put_remainder.Goals as goal

pub returns-then-left-eq0 : goal.returns-then-left-eq0
returns-then-left-eq0 c = search (rules, remains_none)

pub returns-then-whole-self : goal.returns-then-whole-self
returns-then-whole-self c = search (rules, remains_split)

pub returns : goal.returns
returns c = search (rules, remains_born)
