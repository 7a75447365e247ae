-- Names and movements pass, and there is room for the sheet.
use Rattle.std.proofs.Common.{refl, arith}
use Rattle.writing.proofs.WriteLaws.{out_all}
use Rattle.writing.proofs.writer.Draft.check_content.Goals as goal

pub returns : goal.returns
returns c =
    out_all _ _ c.args.room _ _ c.requires.1 _ c.as_chunks.ensures.front _ c.names_off.ensures c.if-names_off.false _
    c.movements-movements.ensures.movements _ c.in_ok-check_all_given.ensures refl (omega arith)
