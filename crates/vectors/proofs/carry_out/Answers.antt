-- `carry_out` meets its contract: what was answered and written is what is shown; a list that is refused leaves both as
-- they were.
use Rattle.std.proofs.Common.{refl}
use Rattle.vectors.proofs.Output.{unread_shown, carried_shown}
use Rattle.vectors.proofs.carry_out.Goals as goal

pub returns-in-Ok : goal.returns-in-Ok
returns-in-Ok c =
    carried_shown _ _ _ _ refl _ c.read_calls.ensures _ _ _ _ _ c.in-Ok.is (rw (c.requires.0, c.requires.1) at c.carry_out.ensures.carries)

pub returns-in-Err : goal.returns-in-Err
returns-in-Err c = rw (c.requires.0, c.requires.1) (unread_shown _ _ _ _ refl _ c.read_calls.ensures _ c.in-Err.is)
