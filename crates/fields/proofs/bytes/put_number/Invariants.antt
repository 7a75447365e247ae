-- The bytes put, and those that what is left of the number still makes, are those of the number.
use Rattle.std.proofs.Common.{◌-◌, ◌≡◌, ◌++◌, take}
use Rattle.fields.specs.Bytes.{bytes_of}
use Rattle.fields.proofs.bytes.put_number.Given as goal

abbrev pub invariant-loop-byte : goal.invariant-loop-byte
invariant-loop-byte l = take l.byte-index l.byte-items ++ bytes_of (l.width - l.byte-index) l.left ≡ bytes_of l.width l.value
