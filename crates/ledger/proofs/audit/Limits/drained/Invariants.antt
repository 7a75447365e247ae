-- `Limits::drained` meets its contract. The invariant: drawing the pieces left from what is left of the balances ends as drawing all from all does.
use Rattle.std.proofs.Common.{◌≡◌}
use Rattle.ledger.specs.Audit.{drained}
use Rattle.ledger.proofs.audit.Limits.drained.Given as goal

abbrev pub invariant-loop-p : goal.invariant-loop-p
invariant-loop-p l = drained l.self.vessels l.self.last l.rest l.p-iterator ≡ drained l.self.vessels l.self.last l.initial.rest l.pieces
