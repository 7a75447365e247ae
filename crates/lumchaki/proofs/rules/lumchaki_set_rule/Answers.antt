-- Handed on: the promise is that of the call behind.
use Rattle.lumchaki.proofs.rules.lumchaki_set_rule.Goals as goal

pub returns : goal.returns
returns c = c.set_rule.ensures
