-- `stirring::move_stirred` meets its contract: what the steps promise, put together (proofs/Stirred.antt).
use Rattle.std.proofs.Common.{rules}
use Rattle.moving.proofs.Stirred.{stir_places, stir_asked, stir_refused, stir_partible, stir_room, stir_lifted, stir_few, stir_done}
use Rattle.moving.proofs.stirring.move_stirred.Goals as goal

pub share_out-splits-requires : goal.share_out-splits-requires
share_out-splits-requires c = (search (rules, stir_places), search rules, search (rules, stir_asked))

pub returns-then-places-n : goal.returns-then-places-n
returns-then-places-n c =
    stir_refused c.requires.0 c.requires.1 c.of-pieces.ensures c.share_out-splits.ensures c.if-places-n.true

pub part-parted-requires : goal.part-parted-requires
part-parted-requires c = search (rules, stir_partible)

pub append-requires : goal.append-requires
append-requires c = (search (rules, stir_room), search (rules, stir_lifted))

pub overflow_sub-result : goal.overflow_sub-result
overflow_sub-result c = search (rules, stir_few)

pub returns : goal.returns
returns c = search (rules, stir_done)
