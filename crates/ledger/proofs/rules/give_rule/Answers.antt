-- `give_rule` meets its contract: one number is written.
use Rattle.std.proofs.Common.{refl}
use Rattle.book.specs.Setting.{ruled}
use Rattle.ledger.proofs.rules.give_rule.Goals as goal

pub returns : goal.returns
unfolding ruled
returns c = refl
