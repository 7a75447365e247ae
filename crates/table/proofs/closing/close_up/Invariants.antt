-- `closing::close_up` meets its contract. The invariant: the first j pieces, and those that stay of the pieces from i on, are all that stay.
use Rattle.table.proofs.ClosingUp.{Closing}
use Rattle.table.proofs.closing.close_up.Given as goal

abbrev pub invariant-loop-i : goal.invariant-loop-i
invariant-loop-i l = Closing l.n l.i l.j l.initial.table l.table
