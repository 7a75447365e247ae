-- `fill` meets its contract. The invariant is `Filling`: the calls so far and those that are left make the whole.
use Rattle.encoding.proofs.Reading.{Filling}
use Rattle.encoding.proofs.fill.Given as goal

abbrev pub invariant-loop-i : goal.invariant-loop-i
invariant-loop-i l = Filling l.groups l.initial.calls l.calls l.i
