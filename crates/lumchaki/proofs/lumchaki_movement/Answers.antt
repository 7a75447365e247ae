-- Handed on: the promise is that of the call behind.
use Rattle.lumchaki.proofs.lumchaki_movement.Goals as goal

pub returns-clause-answer : goal.returns-clause-answer
returns-clause-answer c = c.movement.ensures.answer
