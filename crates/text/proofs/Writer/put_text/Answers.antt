-- `Writer::put_text`: the text is copied to where the writer is.
use Rattle.std.proofs.Common.{refl}
use Rattle.text.proofs.TextLaws.{text_put, text_written}
use Rattle.text.proofs.Writer.put_text.Goals as goal

pub returns : goal.returns
returns c = text_written refl (text_put _ c.args.text.now _ _ c.requires c.copy_from_slice.ensures.after)
