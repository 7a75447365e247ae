-- `run` meets its contract: refused by its checks, or all movements made in turn on a fresh book.
use Rattle.std.proofs.Common.{rules}
use Rattle.run.proofs.RunLaws.{run_refused, run_ready, run_whole}
use Rattle.run.proofs.run.Goals as goal

pub returns-in-Err : goal.returns-in-Err
returns-in-Err c = search (rules, run_refused, c.in-Err.ensures)

pub run_known-requires : goal.run_known-requires
run_known-requires c = run_ready _ _ _ c.in-Ok.ensures

pub returns-in-Ok : goal.returns-in-Ok
returns-in-Ok c = run_whole _ _ _ c.in-Ok.ensures _ _ c.run_known.ensures
