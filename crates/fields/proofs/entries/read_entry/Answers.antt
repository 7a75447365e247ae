-- Each field is what its read promises.
use Rattle.std.proofs.Common.{arith}
use Rattle.fields.proofs.entries.read_entry.Goals as goal

pub returns : goal.returns
returns c = (cc, omega arith)
