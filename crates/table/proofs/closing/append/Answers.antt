-- `closing::append`: the lifted pieces are copied behind the first j.
use Rattle.table.proofs.ClosingUp.{appended}
use Rattle.table.proofs.closing.append.Goals as goal

pub returns : goal.returns
returns c = appended c.args.j c.args.g _ c.args.lifted.now _ c.requires.0 c.requires.1 c.copy_from_slice.ensures.after
