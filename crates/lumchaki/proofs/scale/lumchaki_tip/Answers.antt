-- Handed on: the promise is that of the call behind.
use Rattle.lumchaki.proofs.scale.lumchaki_tip.Goals as goal

pub returns : goal.returns
returns c = c.tip.ensures
