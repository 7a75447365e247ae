-- `check_entries`: a turn whose movement passes, one whose movement fails, and the end, by the laws of such a walk
-- (`check_turn`, `check_stop`, `check_end`).
use Rattle.std.proofs.Common.{arith}
use Rattle.refusal.proofs.Refusals.{outcomes}
use Rattle.fields.proofs.EntryLaws.{named_entry, check_turn, check_stop, check_end}
use Rattle.fields.proofs.entries.check_entries.Goals as goal

pub returns-in_err-check_entry : goal.returns-in_err-check_entry
returns-in_err-check_entry c = grind (arith, named_entry, check_stop, outcomes)

pub loop-bytes-preserved : goal.loop-bytes-preserved
loop-bytes-preserved c = grind (arith, named_entry, check_turn, outcomes)

pub returns : goal.returns
returns c = grind (arith, named_entry, check_end)
