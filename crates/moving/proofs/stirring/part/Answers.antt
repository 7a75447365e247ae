-- `stirring::part`: what its invariant leaves to show.
use Rattle.std.proofs.Common.{rules}
use Rattle.moving.proofs.Parted.{part_start, gift_fits, part_stays, part_whole, part_split, part_end}
use Rattle.moving.proofs.stirring.part.Goals as goal
use Rattle.moving.proofs.stirring.part.Goals.{then-gift-p, else-gift-p}

pub loop-i-init : goal.loop-i-init
loop-i-init c = search (rules, part_start)

pub overflow_cast-gift : goal.overflow_cast-gift
overflow_cast-gift c = search (rules, gift_fits c.requires c.loop-i.invariant c.loop-i-test.true c.piece_at-p.ensures)

pub overflow_sub-p : goal.overflow_sub-p
overflow_sub-p c = gift_fits c.requires c.loop-i.invariant c.loop-i-test.true c.piece_at-p.ensures

pub loop-i-preserved-then-gift-eq0 : goal.loop-i-preserved-then-gift-eq0
loop-i-preserved-then-gift-eq0 c =
    search (rules, part_stays c.requires c.loop-i.invariant c.loop-i-test.true c.piece_at-p.ensures)

pub loop-i-preserved : goal.loop-i-preserved
loop-i-preserved c = elim c.if-gift-p.branch [
  | then-gift-p w ↦ rw (w.table-is, w.stay-is)
      (search (rules, part_split c.requires c.loop-i.invariant c.loop-i-test.true c.piece_at-p.ensures))
  | else-gift-p w ↦ rw (w.table-is, w.stay-is)
      (search (rules, part_whole c.requires c.loop-i.invariant c.loop-i-test.true c.piece_at-p.ensures))
]

pub returns : goal.returns
returns c = search (rules, part_end c.requires c.loop-i.invariant)
