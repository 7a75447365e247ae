-- `Sheet::read`: each way out of it, by what the header's and the body's checks tell.
use Rattle.std.proofs.Common.{arith}
use Rattle.refusal.proofs.Refusals.{some_number}
use Rattle.sheet.proofs.ReadLaws.{ways_out}
use Rattle.sheet.proofs.reader.Sheet.read.Goals as goal

pub returns-in_err-numbers : goal.returns-in_err-numbers
returns-in_err-numbers c = grind (arith, ways_out, some_number)

pub check_body-requires : goal.check_body-requires
check_body-requires c = grind (arith, ways_out)

pub returns-in_err-check_body : goal.returns-in_err-check_body
returns-in_err-check_body c = grind (arith, ways_out, some_number)

pub invariant_of-result : goal.invariant_of-result
invariant_of-result c = grind (arith, ways_out)

pub returns : goal.returns
returns c = grind (arith, ways_out)
