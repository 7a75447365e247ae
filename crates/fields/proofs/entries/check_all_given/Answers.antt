-- `check_all_given`: a turn whose movement passes, one whose movement fails, and the end, by the laws of such a walk
-- (`check_turn`, `check_stop`, `check_end`).
use Rattle.std.proofs.Common.{arith}
use Rattle.refusal.proofs.Refusals.{outcomes}
use Rattle.fields.proofs.EntryLaws.{named_given, check_turn, check_stop, check_end}
use Rattle.fields.proofs.entries.check_all_given.Goals as goal

pub returns-in_err-check_given : goal.returns-in_err-check_given
returns-in_err-check_given c = grind (arith, named_given, check_stop, outcomes)

pub loop-five-preserved : goal.loop-five-preserved
loop-five-preserved c = grind (arith, named_given, check_turn, outcomes)

pub returns : goal.returns
returns c = grind (arith, named_given, check_end)
