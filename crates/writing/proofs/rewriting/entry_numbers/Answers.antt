-- The numbers stand in the order in which the writer is given them.
use Rattle.std.proofs.Common.{refl}
use Rattle.writing.proofs.rewriting.entry_numbers.Goals as goal

pub returns : goal.returns
returns c = refl
