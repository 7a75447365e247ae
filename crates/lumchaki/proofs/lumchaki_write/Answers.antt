-- Handed on: the promise is that of the call behind.
use Rattle.lumchaki.proofs.lumchaki_write.Goals as goal

pub returns-clause-number : goal.returns-clause-number
returns-clause-number c = c.write.ensures.number
