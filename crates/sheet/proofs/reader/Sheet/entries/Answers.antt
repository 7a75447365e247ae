-- What is cut of the bytes behind the names is the movements.
use Rattle.sheet.proofs.AnswerLaws.{entries_known}
use Rattle.sheet.proofs.reader.Sheet.entries.Goals as goal

pub returns : goal.returns
returns c = rw (← c.self.view_is) (entries_known _ c.self.invariant.0 _ (rw (← c.self.view_is) at c.header.ensures.0) _ c.name_start.ensures _ c.as_chunks.ensures.front)
