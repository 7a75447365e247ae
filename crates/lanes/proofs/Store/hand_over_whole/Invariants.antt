-- `Store::hand_over_whole` meets its contract: the invariant is `Handed`.
use Rattle.lanes.proofs.HandingWhole.{Handed}
use Rattle.lanes.proofs.Store.hand_over_whole.Given as goal

abbrev pub invariant-loop-whole : goal.invariant-loop-whole
invariant-loop-whole l = Handed l.rule l.m l.initial.self l.self l.whole l.left l.link
