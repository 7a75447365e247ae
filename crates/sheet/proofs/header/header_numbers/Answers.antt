-- Each number is what its read promises.
use Rattle.std.proofs.Common.{refl}
use Rattle.sheet.proofs.header.header_numbers.Goals as goal

pub returns : goal.returns
returns c = rw (c.read16.ensures.0, c.read16-2.ensures.0, c.read32.ensures) refl
