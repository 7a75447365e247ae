-- `Writer::put_number`: the library prints the number in decimal.
use Rattle.text.proofs.Decimal.{number_written}
use Rattle.text.proofs.Writer.put_number.Goals as goal

pub returns : goal.returns
returns c = number_written _ _ _ c.ranges.n.fits c.format.ensures.text c.as_bytes-digits.ensures.value c.put_text.ensures
