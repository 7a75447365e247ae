-- An index that the header's count leaves out is past the end.
use Rattle.std.proofs.Common.{ap, arith}
use Rattle.sheet.specs.declared.answer.Header.{Header}
use Rattle.sheet.proofs.reader.Sheet.get.Goals as goal

pub returns-else-index-header : goal.returns-else-index-header
returns-else-index-header c = omega (arith, ap (λ (h : Header). h.movements) c.header.ensures.0)
