-- `Store::write`: its start, its turn and its end.
use Rattle.std.proofs.Common.{refl, rules}
use Rattle.lanes.proofs.Written.{written_start, slot_inside, written_on, written_all}
use Rattle.lanes.proofs.Store.write.Goals as goal

pub loop-j-init : goal.loop-j-init
loop-j-init c = written_start _ c.requires.0 _

pub bounds-self-x : goal.bounds-self-x
bounds-self-x c = slot_inside _ c.requires.0 _ _ refl (search rules)

pub loop-j-preserved : goal.loop-j-preserved
loop-j-preserved c = rw c.put_piece.ensures (written_on _ c.requires.0 _ _ refl (search rules) _ _ c.loop-j.invariant)

pub returns : goal.returns
returns c = written_all _ c.requires.0 _ (search rules) c.args.table.now _ c.loop-j.invariant
