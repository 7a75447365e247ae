-- `take_numbers`: what its invariant leaves to show.
use Rattle.std.proofs.Common.{arith}
use Rattle.writing.proofs.TakenNumbers.{there, numbers_turn, numbers_end}
use Rattle.writing.proofs.rewriting.take_numbers.Goals as goal

pub bounds-taken-i : goal.bounds-taken-i
bounds-taken-i c = there c.args.sheet.now _ _ _ c.loop-i.invariant _ c.header-i-end.ensures c.loop-i-test.true

pub loop-i-preserved : goal.loop-i-preserved
loop-i-preserved c =
    numbers_turn c.args.sheet.now _ _ _ c.loop-i.invariant _ c.header-i-end.ensures _ _ c.loop-i-test.true c.movement.ensures.0 c.entry_numbers.ensures

pub returns : goal.returns
returns c = numbers_end c.args.sheet.now _ _ _ c.loop-i.invariant _ c.header-i-end.ensures (omega (arith, c.loop-i-test.false, c.loop-i.auto.i-end))
