-- `filling::fill_rows` meets its contract. The invariant: the rows of the vessels below v are written, and what is
-- behind them is as it was. A turn lends row v to the held report.
use Rattle.std.proofs.Common.{◌*◌, ◌≡◌, ◌++◌, drop}
use Rattle.book.specs.Reports.{rows}
use Rattle.reports.proofs.filling.fill_rows.Given as goal

abbrev pub invariant-loop-v : goal.invariant-loop-v
invariant-loop-v l = l.report ≡ rows l.vessels 0 l.v l.pieces ++ drop (l.v * l.vessels) l.initial.report
