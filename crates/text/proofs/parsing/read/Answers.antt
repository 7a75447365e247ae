-- `read`: a part's number is put, or the part is passed, if it is empty or there is no room left; behind the loop, all parts are passed.
use Rattle.std.proofs.Common.{rules, not}
use Rattle.std.proofs.lemmas.Iterator.Consumers.{YieldsList-end, YieldsList-at}
use Rattle.std.proofs.lemmas.Iterator.Splits.{YieldsList-from_slice_split}
use Rattle.std.specs.Char.{is_ascii_digit}
use borrow.Author.Tests.{tests}
use Rattle.text.proofs.NumberLaws.{none_read, put_turn, pass_turn, all_put, all_counted}
use Rattle.text.proofs.parsing.read.Goals as goal

pub loop-digits-init : goal.loop-digits-init
loop-digits-init c = none_read _

pub loop-digits-preserved-then-count-out : goal.loop-digits-preserved-then-count-out
loop-digits-preserved-then-count-out c =
    put_turn _ _ _ _ _ c.loop-digits.invariant _ c.is_empty.ensures c.if-not-is_empty.true _ c.number.ensures c.if-count-out.true

pub loop-digits-preserved : goal.loop-digits-preserved
loop-digits-preserved c = pass_turn _ _ _ _ _ c.loop-digits.invariant _ c.is_empty.ensures c.else-not-is_empty.either

pub returns : goal.returns
returns c =
    let split = c.split-digits-items.ensures in
    let all = YieldsList-end
    (YieldsList-at c.into_iter-digits-iterator.ensures.into_iter_gives
    (YieldsList-from_slice_split _ (λ b. not (is_ascii_digit b)) _ split.rest split.done split.closure (λ x b f k. search (rules, tests))))
    c.loop-digits.yielded _ c.loop-digits.yielded_by _ _ c.in-None.is c.next.ensures.steps in
    record { count = all_counted _ _ _ _ _ all.0 c.loop-digits.invariant; numbers = all_put _ _ _ _ _ all.0 c.loop-digits.invariant }
