-- `print_line` meets its contract. The invariant: the numbers so far are written.
use Rattle.std.proofs.Common.{take}
use Rattle.std.specs.Io.KnownBytes.{Appends}
use Rattle.vectors.specs.Vectors.{numbers_text}
use Rattle.vectors.proofs.print_line.Given as goal

abbrev pub invariant-loop-n : goal.invariant-loop-n
invariant-loop-n g l = Appends (g.W.Write.contents l.initial.out) (g.W.Write.contents l.out) (numbers_text (take l.n-index l.numbers))
