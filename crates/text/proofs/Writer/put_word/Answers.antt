-- A text and a number written one behind the other are the word.
use Rattle.std.proofs.Common.{rules}
use Rattle.text.proofs.TextLaws.{then_written}
use Rattle.text.proofs.Writer.put_word.Goals as goal

pub returns : goal.returns
returns c = search (rules, then_written)
