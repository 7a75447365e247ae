-- `read_calls` meets its contract: refused by an age, or all are read.
use Rattle.encoding.proofs.Grouped.{read_refused, fill_ready, read_done}
use Rattle.encoding.proofs.read_calls.Goals as goal

pub returns-in_err-check_ages : goal.returns-in_err-check_ages
returns-in_err-check_ages c =
    read_refused _ _ _ _ c.as_chunks.ensures.front c.min-n.ensures _ c.in_err-check_ages.ensures _ c.from_residual.ensures.1

pub fill-requires : goal.fill-requires
fill-requires c = fill_ready _ _ _ _ c.as_chunks.ensures.front c.min-n.ensures c.in_ok-check_ages.ensures

pub returns : goal.returns
returns c = read_done _ _ _ _ c.as_chunks.ensures.front c.min-n.ensures c.in_ok-check_ages.ensures _ c.fill.ensures
