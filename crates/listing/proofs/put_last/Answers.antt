-- `put_last`: two words and the newline, written one behind the other.
use Rattle.std.proofs.Common.{rules}
use Rattle.text.proofs.TextLaws.{then_written}
use Rattle.listing.proofs.LineLaws.{last_stopped}
use Rattle.listing.specs.Listing.{stopped_line}
use Rattle.listing.proofs.put_last.Goals as goal

pub returns-then-number-ne0 : goal.returns-then-number-ne0
unfolding stopped_line
returns-then-number-ne0 c = last_stopped _ _ (search rules) (search (rules, then_written))
