-- `fill`: what its invariant leaves to show.
use Rattle.std.proofs.Common.{sym, ◌∙◌, arith}
use Rattle.encoding.proofs.Reading.{filled_next, filled}
use Rattle.encoding.proofs.fill.Goals as goal

pub loop-i-preserved : goal.loop-i-preserved
loop-i-preserved c =
    filled_next c.loop-i.invariant c.loop-i-test.true c.requires.0 (sym c.read_call.ensures ∙ c.unwrap.ensures)

pub returns : goal.returns
returns c = filled c.loop-i.invariant (omega arith)
