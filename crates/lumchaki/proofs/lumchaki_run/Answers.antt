-- Handed on: the promise is that of the call behind.
use Rattle.lumchaki.proofs.lumchaki_run.Goals as goal

pub returns : goal.returns
returns c = c.run.ensures
