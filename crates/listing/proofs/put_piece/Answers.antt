-- Four numbers with spaces between them and the newline, put one behind the other, are the line of a piece.
use Rattle.std.proofs.Common.{rules}
use Rattle.text.proofs.TextLaws.{then_written}
use Rattle.listing.specs.Listing.{piece_line}
use Rattle.listing.proofs.put_piece.Goals as goal

pub returns : goal.returns
unfolding piece_line
returns c = search (rules, then_written)
