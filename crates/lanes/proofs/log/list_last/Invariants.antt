-- `list_last` meets its contract: the invariant is `Listing`.
use Rattle.std.proofs.Common.{take}
use Rattle.lanes.proofs.Listing.{Listing}
use Rattle.lanes.proofs.log.list_last.Given as goal

abbrev pub invariant-loop-k : goal.invariant-loop-k
invariant-loop-k l = Listing (take l.noted l.log) l.count l.seen l.last l.free l.k
