-- `Limits::lot_fits` meets its contract: a piece that was born after the last minute does not fit.
use Rattle.std.proofs.Common.{arith}
use Rattle.std.proofs.lemmas.Bool.Decides.{nat_tests}
use Rattle.ledger.proofs.audit.Limits.lot_fits.Goals as goal

pub returns-else-p-self-2 : goal.returns-else-p-self-2
returns-else-p-self-2 c = grind (arith, nat_tests)
