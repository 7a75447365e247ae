-- `answer` meets its contract: what was moved is told as it is.
use Rattle.posting.proofs.answer.Goals as goal

pub returns-in-Ok : goal.returns-in-Ok
returns-in-Ok c = rw c.in-Ok.is
