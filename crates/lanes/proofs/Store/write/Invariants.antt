-- `Store::write` meets its contract: so many pieces are written.
use Rattle.std.proofs.Common.{◌≡◌, take}
use Rattle.table.specs.Table.{lay}
use Rattle.lanes.specs.Store.{pieces_in}
use Rattle.lanes.proofs.Store.write.Given as goal

abbrev pub invariant-loop-j : goal.invariant-loop-j
invariant-loop-j l = l.table ≡ lay (take l.j (pieces_in l.self)) l.initial.table
