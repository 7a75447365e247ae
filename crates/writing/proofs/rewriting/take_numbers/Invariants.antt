-- So many movements' numbers are taken.
use Rattle.writing.proofs.TakenNumbers.{Taken}
use Rattle.writing.proofs.rewriting.take_numbers.Given as goal

abbrev pub invariant-loop-i : goal.invariant-loop-i
invariant-loop-i l = Taken l.sheet l.i l.initial.taken l.taken
