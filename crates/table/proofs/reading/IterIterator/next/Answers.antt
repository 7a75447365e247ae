-- The iterator's `next` meets its contract: it reads the first piece, or there is none.
use Rattle.std.proofs.Common.{rules}
use Rattle.table.proofs.AllPieces.{next_piece, no_next_piece}
use Rattle.table.proofs.reading.IterIterator.next.Goals as goal

pub returns-in_err-first-clause-steps : goal.returns-in_err-first-clause-steps
returns-in_err-first-clause-steps c = search (rules, no_next_piece)

pub returns-clause-steps : goal.returns-clause-steps
returns-clause-steps c = search (rules, next_piece)

pub returns-clause-goes : goal.returns-clause-goes
returns-clause-goes c = search (rules, next_piece)
