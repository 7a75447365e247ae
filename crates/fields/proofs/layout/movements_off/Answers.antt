-- The count is compared with the most that a sheet can have.
use Rattle.std.proofs.Common.{refl}
use Rattle.fields.specs.Layout.{movements_off}
use Rattle.fields.proofs.layout.movements_off.Goals as goal

pub returns : goal.returns
unfolding movements_off
returns c = refl
