-- `check` meets its contract: refused by 1 or 4.
use Rattle.std.proofs.Common.{rules}
use Rattle.reports.proofs.Asked.{asked_off}
use Rattle.reports.proofs.check.Goals as goal

pub returns-in_err-check_book : goal.returns-in_err-check_book
returns-in_err-check_book c = search (rules, asked_off)
