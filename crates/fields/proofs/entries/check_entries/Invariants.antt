-- The first check that the movements left fail is that of all.
use Rattle.std.proofs.Common.{◌≡◌, map, drop}
use Rattle.refusal.specs.Numbers.{first}
use Rattle.fields.specs.Movements.{entry_in, entry_checks, entries_checks}
use Rattle.fields.proofs.entries.check_entries.Given as goal

abbrev pub invariant-loop-bytes : goal.invariant-loop-bytes
invariant-loop-bytes l =
    first (entries_checks (entry_checks l.vessels) (map entry_in (drop l.bytes-index l.entries))) ≡ first (entries_checks (entry_checks l.vessels) (map entry_in l.entries))
