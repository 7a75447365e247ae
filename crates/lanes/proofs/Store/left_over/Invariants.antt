-- `Store::left_over` meets its contract: the invariant is `Along`.
use Rattle.lanes.specs.Chains.{start}
use Rattle.lanes.specs.Walk.{remains}
use Rattle.lanes.proofs.Along.{Along}
use Rattle.lanes.proofs.Store.left_over.Given as goal

abbrev pub invariant-loop : goal.invariant-loop
invariant-loop l = Along l.self.next (start l.s) l.f l.counter (remains l.self.pieces l.want) (remains l.self.pieces l.left)
