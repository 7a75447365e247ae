-- A transfer is even where splits and births are both 0, and so their sum is.
use Rattle.std.proofs.Common.{arith}
use Rattle.std.proofs.lemmas.Bool.Decides.{nat_tests}
use Rattle.run.proofs.count_even.Goals as goal

pub returns : goal.returns
returns c = grind (arith, nat_tests)
