-- `bare_beyond` meets its contract: it asks of the balances from V on.
use Rattle.std.proofs.lemmas.List.{take_rest}
use Rattle.ledger.proofs.audit.bare_beyond.Goals as goal

pub returns : goal.returns
returns c = rw take_rest at c.all_zero.ensures
