-- `motion_of` meets its contract: the motion as the definition has it.
use Rattle.std.proofs.Common.{refl}
use Rattle.motions.proofs.transfers.motion_of.Goals as goal

pub returns : goal.returns
returns c = refl
