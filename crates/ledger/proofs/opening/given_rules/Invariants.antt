-- `given_rules` meets its contract. The invariant: each vessel before v has the rule, and from v on the rules are 0.
use Rattle.std.proofs.Common.{◌≡◌, ◌++◌, drop, replicate}
use Rattle.book.specs.Head.{most_vessels}
use Rattle.ledger.proofs.opening.given_rules.Given as goal

abbrev pub invariant-loop-v : goal.invariant-loop-v
invariant-loop-v l = l.rules ≡ replicate l.v l.rule ++ drop l.v (replicate most_vessels 0)
