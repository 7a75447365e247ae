-- Handed on: the promise is that of the call behind.
use Rattle.lumchaki.proofs.lumchaki_whole_by_rows.Goals as goal

pub returns : goal.returns
returns c = c.whole_by_rows.ensures
