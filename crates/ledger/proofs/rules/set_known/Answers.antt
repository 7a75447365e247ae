-- `set_known` meets its contract: refused by a check of its own, or the rule is set.
use Rattle.ledger.proofs.Ruled.{set_refused, set_done}
use Rattle.ledger.proofs.rules.set_known.Goals as goal

pub returns-in_err-check_setting-clause-sets : goal.returns-in_err-check_setting-clause-sets
returns-in_err-check_setting-clause-sets c = λ t w. set_refused _ t _ w _ c.in_err-check_setting.ensures _ c.from_residual.ensures.1

pub returns-clause-sets : goal.returns-clause-sets
returns-clause-sets c = λ t w. set_done _ t _ w c.in_ok-check_setting.ensures _ c.give_rule.ensures
