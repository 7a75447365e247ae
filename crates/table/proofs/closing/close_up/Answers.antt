-- `closing::close_up`: a turn of its loop.
use Rattle.std.proofs.Common.{arith, List, ℕ}
use Rattle.table.proofs.ClosingUp.{close_gone, close_kept}
use Rattle.table.proofs.closing.close_up.Goals as goal

pub loop-i-preserved : goal.loop-i-preserved
loop-i-preserved c =
    let gone = close_gone c.loop-i.invariant c.loop-i-test.true c.piece_at-p.ensures in
    let kept = λ (t : List ℕ). close_kept c.loop-i.invariant c.loop-i-test.true c.piece_at-p.ensures {t' = t} in
    grind (arith, gone, kept)
