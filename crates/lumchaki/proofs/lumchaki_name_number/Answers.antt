-- Handed on: the promise is that of the call behind.
use Rattle.lumchaki.proofs.lumchaki_name_number.Goals as goal

pub returns : goal.returns
returns c = c.name_number.ensures
