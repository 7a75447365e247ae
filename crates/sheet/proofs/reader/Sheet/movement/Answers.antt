-- The movement is among those that the sheet has, and what is read of it is the answer.
use Rattle.sheet.proofs.AnswerLaws.{entry_there, entry_known}
use Rattle.sheet.proofs.reader.Sheet.movement.Goals as goal

pub bounds-entries-index : goal.bounds-entries-index
bounds-entries-index c = entry_there c.args.self.now _ c.entries.ensures _ c.requires

pub returns : goal.returns
returns c = (entry_known c.args.self.now _ c.entries.ensures _ c.requires _ c.read_entry.ensures.0, c.read_entry.ensures.1)
