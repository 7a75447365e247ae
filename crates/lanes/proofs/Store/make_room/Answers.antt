-- `Store::make_room`: the log is closed, or has room as it is.
use Rattle.std.proofs.Common.{refl, ℕ, ◌-◌, ◌≤◌, arith}
use Rattle.lanes.specs.declared.Store.{Store}
use Rattle.lanes.specs.Store.{most_notes, Kept}
use Rattle.lanes.specs.Moving.{Roomy}
use Rattle.lanes.proofs.Made.{roomy}
use Rattle.lanes.proofs.Store.make_room.Goals as goal

pub returns-then-self : goal.returns-then-self
returns-then-self c = roomy _ _ _ c.requires c.close.ensures

roomy_already : (rule : ℕ) (s : Store) → Kept rule s → s.noted ≤ most_notes - 1 - s.count → Roomy rule s s
roomy_already rule s k h =
    record { kept = k; order = refl; pieces = refl; count = refl; room = omega (arith, k.listed.few) }

pub returns-else-self : goal.returns-else-self
returns-else-self c = roomy_already _ _ c.requires c.if-self.false
