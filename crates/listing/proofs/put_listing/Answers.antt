-- `put_listing`: what is written from the start of the bytes is the listing.
use Rattle.std.proofs.Common.{rules}
use Rattle.listing.proofs.LineLaws.{listed}
use Rattle.listing.proofs.put_listing.Goals as goal

pub returns : goal.returns
returns c = listed _ c.new-lines.ensures.nothing.0 c.new-lines.ensures.nothing.1 (search rules) c.put_run.ensures c.written.ensures (search rules)
