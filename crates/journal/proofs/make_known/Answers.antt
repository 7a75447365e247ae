-- `make_known`: what its invariant leaves to show.
use Rattle.std.proofs.Common.{arith}
use Rattle.journal.proofs.Carrying.{going_next, going_end}
use Rattle.journal.proofs.make_known.Goals as goal

pub loop-i-preserved : goal.loop-i-preserved
loop-i-preserved c =
    going_next c.loop-i.invariant _ c.loop-i-test.true c.requires.1 c.make.ensures _ c.number.ensures

pub returns : goal.returns
returns c = going_end c.loop-i.invariant (omega arith)
