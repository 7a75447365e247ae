-- `filling::add` meets its contract. The invariant: the pieces left can be entered, and entering them makes the report
-- that is wanted.
use Rattle.std.proofs.Common.{◌≡◌}
use Rattle.reports.specs.Scatter.{scatter, Fillable}
use Rattle.reports.proofs.filling.add.Given as goal

abbrev pub invariant-loop-p : goal.invariant-loop-p
invariant-loop-p g l =
    let t = g.T.Tally in
    let rest = scatter (t.counted l.tally) (t.index_of l.tally) in
    Fillable (t.counted l.tally) (t.index_of l.tally) l.report l.p-iterator × (rest l.report l.p-iterator ≡ rest l.initial.report l.pieces)
