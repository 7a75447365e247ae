-- `move_pieces` meets its contract: which way the source gives is told by its rule, and by whether it has more than is wanted (proofs/Stirred.antt).
use Rattle.std.proofs.Common.{rules}
use Rattle.moving.proofs.Stirred.{by_rule, from_all, all_out}
use Rattle.moving.proofs.move_pieces.Goals as goal

pub returns-then-from-ne-STIRRED : goal.returns-then-from-ne-STIRRED
returns-then-from-ne-STIRRED c = by_rule _ c.requires.1 c.if-from-ne-STIRRED.true c.move_singly.ensures

pub returns-then-m-from : goal.returns-then-m-from
returns-then-m-from c = from_all _ c.requires.1 (search rules) c.if-m-from.true c.move_stirred.ensures

pub returns : goal.returns
returns c = all_out _ c.requires.1 (search rules) (search rules) (search rules)
