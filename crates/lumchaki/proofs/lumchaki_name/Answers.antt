-- The length of the part is that of the name which `sheet::name` tells.
use Rattle.std.proofs.Common.{ap, length}
use Rattle.lumchaki.proofs.lumchaki_name.Goals as goal

pub returns : goal.returns
returns c = ap length c.name-name.ensures.bytes
