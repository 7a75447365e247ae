-- `write_vector` meets its contract: the rule and the movements are those read.
use Rattle.std.proofs.Common.{rules}
use Rattle.vectors.proofs.VectorLaws.{vector_written}
use Rattle.vectors.proofs.write_vector.Goals as goal

pub returns : goal.returns
returns c = search (rules, vector_written)
