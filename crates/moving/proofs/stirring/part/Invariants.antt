-- `stirring::part` meets its contract. The invariant: what is left of the first i pieces and what they give, completed by what the others give, is all.
use Rattle.moving.proofs.Parted.{Parting}
use Rattle.moving.proofs.stirring.part.Given as goal

abbrev pub invariant-loop-i : goal.invariant-loop-i
invariant-loop-i l = Parting l.n l.destination l.i l.stay l.go l.gifts l.initial.table l.table l.lifted
