-- The movements left, put where they belong, make of the slice what all of them make of it at the start.
use Rattle.std.proofs.Common.{◌+◌, ◌*◌, ◌≡◌, map, length, drop}
use lib.Seq.{sets}
use Rattle.fields.specs.Movements.{entry_size, given_in, entries_bytes}
use Rattle.writing.proofs.writer.put_entries.Given as goal

abbrev pub invariant-loop-i : goal.invariant-loop-i
invariant-loop-i l =
    (length l.out ≡ length l.initial.out)
    × (sets l.out (l.at + entry_size * l.i) (entries_bytes (drop l.i (map given_in l.movements))) ≡ sets l.initial.out l.at (entries_bytes (map given_in l.movements)))
