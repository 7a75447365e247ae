-- `stirring::share_out`: what its invariant leaves to show.
use Rattle.std.proofs.Common.{arith, rules}
use Rattle.moving.proofs.SharedOut.{
  share_start,
  share_place,
  share_sum,
  share_other,
  share_grows,
  share_whole,
  share_split,
  share_end,
}
use Rattle.moving.proofs.stirring.share_out.Goals as goal

pub loop-i-init : goal.loop-i-init
loop-i-init c = share_start c.requires.2 (search rules) (search rules)

pub overflow_add-sum : goal.overflow_add-sum
overflow_add-sum c = omega (arith, share_sum c.requires.2 c.loop-i.invariant c.in-Some.ensures.steps c.if-p-m.true)

pub overflow_sub-gift : goal.overflow_sub-gift
overflow_sub-gift c = search (rules, share_grows c.requires.2 c.loop-i.invariant c.in-Some.ensures.steps)

pub bounds-noted-i : goal.bounds-noted-i
bounds-noted-i c = omega (arith, share_place c.requires.2 c.loop-i.invariant c.in-Some.ensures.steps)

pub overflow_add-splits : goal.overflow_add-splits
overflow_add-splits c =
    omega (arith, share_place c.requires.2 c.loop-i.invariant c.in-Some.ensures.steps, c.loop-i.invariant.most)

pub loop-i-preserved-then-gift-p : goal.loop-i-preserved-then-gift-p
loop-i-preserved-then-gift-p c = search (rules, share_split c.requires.2 c.loop-i.invariant c.in-Some.ensures.steps)

pub loop-i-preserved-else-gift-ne0 : goal.loop-i-preserved-else-gift-ne0
loop-i-preserved-else-gift-ne0 c = search (rules, share_whole c.requires.2 c.loop-i.invariant c.in-Some.ensures.steps)

pub bounds-noted-i-else-p-m : goal.bounds-noted-i-else-p-m
bounds-noted-i-else-p-m c = omega (arith, share_place c.requires.2 c.loop-i.invariant c.in-Some.ensures.steps)

pub loop-i-preserved : goal.loop-i-preserved
loop-i-preserved c = search (rules, share_other c.requires.2 c.loop-i.invariant c.in-Some.ensures.steps)

pub returns : goal.returns
returns c = search (rules, share_end c.requires.2 c.loop-i.invariant)
