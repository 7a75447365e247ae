-- `read_header`: what is no sheet was refused before, so that the header's bytes are there, and the counts that passed
-- are small.
use Rattle.std.proofs.Common.{arith}
use Rattle.fields.proofs.LayoutLaws.{few_movements}
use Rattle.sheet.proofs.HeaderLaws.{sheet_holds, few_vessels}
use Rattle.sheet.proofs.header.read_header.Goals as goal

pub header_numbers-header-requires : goal.header_numbers-header-requires
header_numbers-header-requires c = grind (arith, sheet_holds)

pub layout_off-requires : goal.layout_off-requires
layout_off-requires c = grind (arith, sheet_holds, few_vessels, few_movements)
