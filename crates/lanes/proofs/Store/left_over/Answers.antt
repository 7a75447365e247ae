-- `Store::left_over`: its start, its turn and its ways out.
use Rattle.std.proofs.Common.{sym, rules}
use Rattle.lanes.specs.Walk.{remains}
use Rattle.lanes.proofs.Along.{along_start, along_on, along_end, along_all, along_stop}
use Rattle.lanes.proofs.Store.left_over.Goals as goal

pub loop-init : goal.loop-init
loop-init c = along_start _ _ _ c.requires.1

pub loop-preserved : goal.loop-preserved
unfolding remains
loop-preserved c = along_on _ _ _ _ _ _ c.loop.invariant (search rules) _ (λ l. search rules)

pub returns-then-link-eq0 : goal.returns-then-link-eq0
unfolding remains
returns-then-link-eq0 c line h = sym (along_end _ _ _ _ _ _ c.loop.invariant line h (search rules))

pub returns-then-left-weight : goal.returns-then-left-weight
unfolding remains
returns-then-left-weight c line h = sym (along_stop _ _ _ _ _ _ c.loop.invariant line h (search rules) _ (λ l. search rules))

pub returns : goal.returns
unfolding remains
returns c line h = sym (along_all _ _ _ _ _ _ c.loop.invariant line h (search rules))
