-- `list_last`: where it begins, what is within bounds, its two turns, and its ways out.
use Rattle.std.proofs.Common.{arith, refl, rules}
use Rattle.lanes.proofs.Listing.{
  listing_start,
  listing_full,
  listing_end,
  slot_of,
  some_free,
  free_fits,
  seen_before,
  newly_seen,
}
use Rattle.lanes.proofs.log.list_last.Goals as goal

pub loop-k-init : goal.loop-k-init
loop-k-init c = listing_start _ _ _ _ c.requires

pub bounds-seen-x : goal.bounds-seen-x
bounds-seen-x c = slot_of _ _ _ _ c.requires _ _ _ _ c.loop-k.invariant _ refl (omega arith)

pub bounds-seen-x-in-loop-k : goal.bounds-seen-x-in-loop-k
bounds-seen-x-in-loop-k c = slot_of _ _ _ _ c.requires _ _ _ _ c.loop-k.invariant _ refl (omega arith)

pub overflow_sub-free : goal.overflow_sub-free
overflow_sub-free c = some_free _ _ _ _ c.requires _ _ _ _ c.loop-k.invariant _ refl (omega arith) (search rules)

pub bounds-last-free : goal.bounds-last-free
bounds-last-free c = free_fits _ _ _ _ c.requires _ _ _ _ c.loop-k.invariant _ refl (omega arith) (search rules)

pub loop-k-preserved-then-seen-x : goal.loop-k-preserved-then-seen-x
loop-k-preserved-then-seen-x c = seen_before _ _ _ _ c.requires _ _ _ _ c.loop-k.invariant _ refl (search rules) (search rules)

pub loop-k-preserved : goal.loop-k-preserved
loop-k-preserved c = newly_seen _ _ _ _ c.requires _ _ _ _ c.loop-k.invariant _ refl (search rules) (search rules)

pub returns-then-free-eq0 : goal.returns-then-free-eq0
returns-then-free-eq0 c = listing_full _ _ _ _ c.requires _ _ _ _ (newly_seen _ _ _ _ c.requires _ _ _ _ c.loop-k.invariant _ refl (search rules) (search rules)) (search rules)

pub returns : goal.returns
returns c = listing_end _ _ _ _ c.requires _ _ _ _ c.loop-k.invariant (omega arith)
