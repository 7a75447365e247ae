-- A turn writes the row behind those of the vessels before.
use Rattle.std.proofs.Common.{ℕ, ap, ◌∙◌, length-take, length-drop, arith}
use Rattle.book.specs.Reports.{held_row}
use Rattle.reports.proofs.Filled.{rows_next}
use Rattle.reports.proofs.filling.fill_rows.Goals as goal

pub loop-v-preserved : goal.loop-v-preserved
loop-v-preserved c =
    let ps = c.args.pieces.now in
    rows_next c.args.vessels ps c.args.report.now c.loop-v.report _ c.loop-v.v _ (omega arith) c.loop-v.invariant
    (
    c.fill_held.ensures
    ∙ ap (λ (n : ℕ). held_row n c.loop-v.v ps) (omega (arith, length-take {A = ℕ}, length-drop {A = ℕ}))
    )
