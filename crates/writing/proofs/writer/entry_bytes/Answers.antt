-- What std makes of a number is its low bytes, each of what is left when the bytes before it are gone.
use Rattle.std.proofs.Common.{ℕ, ◌/◌, arith, ◌≡◌}
use Rattle.fields.specs.Bytes.{bytes_of}
use Rattle.writing.proofs.writer.entry_bytes.Goals as goal

two_gone : (n : ℕ) → n / 65536 ≡ n / 256 / 256
two_gone n = omega arith

three_gone : (n : ℕ) → n / 16777216 ≡ n / 256 / 256 / 256
three_gone n = omega arith

pub returns : goal.returns
unfolding bytes_of
returns c =
    let minute = c.args.e.minute in
    let weight = c.args.e.weight in
    rw (
      c.to_le_bytes.ensures,
      c.to_le_bytes-2.ensures,
      c.to_le_bytes-3.ensures,
      c.to_le_bytes-4.ensures,
      c.to_le_bytes-5.ensures,
      two_gone minute,
      three_gone minute,
      two_gone weight,
      three_gone weight,
    )
