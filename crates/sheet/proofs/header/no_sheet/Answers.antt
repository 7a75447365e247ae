-- What is compared is the whole mark.
use Rattle.sheet.proofs.HeaderLaws.{unmarked}
use Rattle.sheet.proofs.header.no_sheet.Goals as goal

pub returns-else-sheet-lt-HEADER_SIZE : goal.returns-else-sheet-lt-HEADER_SIZE
returns-else-sheet-lt-HEADER_SIZE c =
    unmarked c.args.sheet.now _ _ c.if-sheet-lt-HEADER_SIZE.false c.mark.ensures c.starts_with.ensures.value
