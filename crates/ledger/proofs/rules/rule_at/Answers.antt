-- `rule_at` meets its contract: from the scale on no holder has a rule of its own.
use Rattle.std.proofs.Common.{◌≡◌, List, ℕ, ◌≤◌, arith}
use Rattle.std.proofs.lemmas.Bool.Decides.{nat_tests}
use Rattle.book.specs.Head.{the_scale, as_they_lie, rule_at}
use Rattle.ledger.proofs.rules.rule_at.Goals as goal

scale_as_it_lies : (rules : List ℕ) (v : ℕ) → the_scale ≤ v → as_they_lie ≡ rule_at rules v
scale_as_it_lies rules v past = grind (arith, nat_tests)

pub returns-then-holder-ge-SCALE : goal.returns-then-holder-ge-SCALE
returns-then-holder-ge-SCALE c = scale_as_it_lies _ _ c.if-holder-ge-SCALE.true
