-- `Limits::drained`: a turn whose piece is not covered, one whose piece is, and the end, each with `drained` opened.
use Rattle.std.proofs.Common.{arith}
use Rattle.ledger.specs.Audit.{drained}
use Rattle.ledger.proofs.audit.Limits.drained.Goals as goal

pub returns-then-not-covers : goal.returns-then-not-covers
unfolding drained
returns-then-not-covers c = grind arith

pub loop-p-preserved : goal.loop-p-preserved
unfolding drained
loop-p-preserved c = grind arith

pub returns : goal.returns
unfolding drained
returns c = grind arith
