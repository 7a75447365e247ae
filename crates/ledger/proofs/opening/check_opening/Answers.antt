-- `check_opening` meets its contract: at its end no check applies.
use Rattle.std.proofs.Common.{◌≡◌, ℕ, ◌≤◌, arith}
use Rattle.std.proofs.lemmas.Bool.Decides.{nat_tests}
use Rattle.refusal.specs.Numbers.{first}
use Rattle.book.specs.Head.{last_rule, most_vessels, open_checks}
use Rattle.ledger.proofs.opening.check_opening.Goals as goal

none_applies : (rule size : ℕ) → rule ≤ last_rule → 1 ≤ size → size ≤ most_vessels → 0 ≡ first (open_checks rule size)
none_applies rule size known some few = grind (arith, nat_tests)

pub returns : goal.returns
returns c = none_applies c.args.rule c.args.vessels (omega arith) (omega arith) (omega arith)
