-- `parsing::read` meets its contract. The invariant: the numbers of the parts passed are put, as many as there is room for.
use Rattle.std.proofs.Common.{map}
use Rattle.text.proofs.NumberLaws.{Reading}
use Rattle.text.proofs.parsing.read.Given as goal

abbrev pub invariant-loop-digits : goal.invariant-loop-digits
invariant-loop-digits l = Reading (map (λ d. d.now) l.yielded) l.initial.out l.out l.count
