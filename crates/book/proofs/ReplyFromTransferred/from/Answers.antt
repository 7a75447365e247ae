-- A reply tells number and head, as they are.
use Rattle.std.proofs.Common.{refl}
use Rattle.book.proofs.ReplyFromTransferred.from.Goals as goal

pub returns : goal.returns
returns c = refl
