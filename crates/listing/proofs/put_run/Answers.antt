-- `put_run`: a word and the newline are the line of a refused run; the first line, the lines of the pieces and the last one are every other's.
use Rattle.std.proofs.Common.{rules, length, ◌≡◌}
use Rattle.text.proofs.TextLaws.{then_written}
use Rattle.listing.proofs.LineLaws.{pieces_count, lists_refused, lists_book}
use Rattle.listing.specs.Listing.{refused_line, book_text}
use Rattle.listing.proofs.put_run.Goals as goal

pub returns-then-ran-eq0 : goal.returns-then-ran-eq0
unfolding refused_line
returns-then-ran-eq0 c = lists_refused _ _ (search rules) (search (rules, then_written))

pub returns-else-ran-eq0 : goal.returns-else-ran-eq0
unfolding book_text
returns-else-ran-eq0 c =
    let k : length c.of.result ≡ c.args.ran.head.pieces = pieces_count _ _ c.of.ensures in
    lists_book _ _ (search rules) (rw (← c.of.ensures) (search (rules, then_written)))
