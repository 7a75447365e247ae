-- `stirring::share_out` meets its contract. The invariant: the gifts put down, and the shares of the pieces left, are all gifts; likewise the splits.
use Rattle.std.specs.Iterator.Adapters.{enumerate_source, enumerate_count}
use Rattle.moving.proofs.SharedOut.{SharingOut}
use Rattle.moving.proofs.stirring.share_out.Given as goal

abbrev pub invariant-loop-i : goal.invariant-loop-i
invariant-loop-i l = SharingOut l.m l.balance l.pieces (enumerate_source l.i-iterator) (enumerate_count l.i-iterator) l.sum l.given l.splits l.noted
