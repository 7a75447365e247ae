-- Pieces that lie in the table are moved there: what the move asks, and that it goes by the rule of the source.
use Rattle.std.proofs.Common.{◌≡◌, Option, List, ℕ, rules}
use Rattle.table.specs.Table.{pieces_of, places_of}
use Rattle.taking.specs.declared.Applied.{Applied}
use Rattle.taking.specs.Applied.{Moves}
use Rattle.taking.specs.Taking.{taken}
use Rattle.book.specs.declared.Head.{Head}
use Rattle.book.specs.declared.Motion.{Motion}
use Rattle.book.specs.Head.{rule_at}
use Rattle.book.specs.Motion.{takes}
use Rattle.motions.specs.Carrying.{MovesBy}
use Rattle.motions.proofs.Next.{source_holds}
use Rattle.posting.proofs.MoveReady.{move_ready}
use Rattle.posting.proofs.keeping.TableKeepingKeeping.carry.Goals as goal

pub move_pieces-requires : goal.move_pieces-requires
move_pieces-requires c = search (rules, move_ready, source_holds)

by_source : (h : Head) (m : Motion) (t t' : List ℕ) (o : Option Applied) (p rule : ℕ)
    → Moves p m.moves (taken rule m.moves (pieces_of h.pieces t)) t t' o
    → p ≡ places_of t → rule ≡ rule_at h.rules m.moves.source → MovesBy h m t t' o
unfolding takes
by_source h m t t' o p rule w ep er = rw (ep, er) at w

pub returns-clause-moves : goal.returns-clause-moves
returns-clause-moves c =
    by_source c.args.head.now c.args.m c.args.table.now _ _ _ _ c.move_pieces.ensures c.places-places.ensures cc
