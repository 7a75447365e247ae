-- `check_body`: the names are off, or the answer is that of the movements.
use Rattle.std.proofs.Common.{arith}
use Rattle.sheet.proofs.ReadLaws.{out_names, out_entries}
use Rattle.sheet.proofs.reader.check_body.Goals as goal

pub returns-then-names_off : goal.returns-then-names_off
returns-then-names_off c = grind (arith, out_names)

pub returns : goal.returns
returns c = grind (arith, out_entries)
