-- An age that fits leaves the other checks.
use Rattle.std.proofs.Common.{le-ltb, arith}
use Rattle.book.specs.Transfer.{most_age}
use Rattle.fields.proofs.entries.check_given.Goals as goal

pub returns : goal.returns
returns c = rw (le-ltb most_age c.args.e.age (omega arith)) c.check_entry.ensures
