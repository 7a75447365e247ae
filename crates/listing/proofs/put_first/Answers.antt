-- Five words and the newline, put one behind the other, are the first line.
use Rattle.std.proofs.Common.{rules}
use Rattle.text.proofs.TextLaws.{then_written}
use Rattle.listing.specs.Listing.{first_line}
use Rattle.listing.proofs.put_first.Goals as goal

pub returns : goal.returns
unfolding first_line
returns c = search (rules, then_written)
