-- The lines of the pieces so far are written.
use Rattle.listing.proofs.LineLaws.{InLines}
use Rattle.listing.proofs.put_pieces.Given as goal

abbrev pub invariant-loop-p : goal.invariant-loop-p
invariant-loop-p l = InLines l.initial.out l.pieces l.yielded l.p-iterator l.out
