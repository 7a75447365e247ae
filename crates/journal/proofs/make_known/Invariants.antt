-- `journal::make_known` meets its contract. The invariant is `Going`: what was answered and what is left make the
-- whole. A turn makes one call.
use Rattle.journal.proofs.Carrying.{Going}
use Rattle.journal.proofs.make_known.Given as goal

abbrev pub invariant-loop-i : goal.invariant-loop-i
invariant-loop-i l =
    Going l.calls l.initial.head l.initial.table l.initial.answers l.initial.room l.head l.table l.answers l.room l.i
